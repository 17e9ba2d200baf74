-- The heads of the section of inputs, by what is read of their records.
use Rattle.std.specs.Prelude.{◌≡◌, refl, ℕ, ◌<◌, ◌≤◌, List, [], ◌∷◌, length, drop, None, Some, Ok, Err}
use Rattle.std.specs.Option.{option_and_then}
use Rattle.std.proofs.Common.{ap, sym, ◌∙◌}
use Rattle.lk_elf.specs.Fields.{num}
use Rattle.lk_model.specs.InputsReading.{Head, InputHead, head_forms, head_with, input_forms, input_with}
use Rattle.lk_model.specs.RecordForms.{values_with}
use Rattle.lk_model.specs.Texts.{text_at}
use Rattle.lk_records_read.specs.HeadsRead.{head_in, head_named, input_head_in, input_head_named, read_head, read_input_head}
use Rattle.lk_records_read.proofs.RecordNumbers.{numbers_are, record_short, record_bad, record_good}

module _ (strtab bytes : List ℕ) where
  -- ---- an input's head

  input-numbers : input_head_in strtab bytes ≡ option_and_then input_with (values_with (text_at strtab) input_forms (num bytes 0 4 ∷ num bytes 4 4 ∷ num bytes 8 4 ∷ num bytes 12 4 ∷ num bytes 16 4 ∷ num bytes 20 4 ∷ num bytes 24 8 ∷ num bytes 32 8 ∷ num bytes 40 4 ∷ num bytes 44 4 ∷ num bytes 48 4 ∷ num bytes 52 4 ∷ []))
  unfolding input_head_in
  input-numbers = ap (λ (ns : List ℕ). option_and_then input_with (values_with (text_at strtab) input_forms ns)) (numbers_are input_forms bytes)

  pub input_pathless : None ≡ text_at strtab (num bytes 0 4) → input_head_in strtab bytes ≡ None
  input_pathless e = let none = sym e in input-numbers ∙ rw none refl

  pub input_sonameless : (t : List ℕ) → Some t ≡ text_at strtab (num bytes 0 4) → None ≡ text_at strtab (num bytes 20 4) → input_head_in strtab bytes ≡ None
  input_sonameless t p e = let there = sym p in let none = sym e in input-numbers ∙ rw (there, none) refl

  pub input_with_texts : (t u : List ℕ) → Some t ≡ text_at strtab (num bytes 0 4) → Some u ≡ text_at strtab (num bytes 20 4) → input_head_in strtab bytes ≡ input_head_named t u bytes
  input_with_texts t u p q = let there = sym p in let again = sym q in input-numbers ∙ rw (there, again) refl

  pub input_short : length bytes < 56 → read_input_head strtab bytes ≡ Err (length bytes)
  unfolding read_input_head
  input_short l = record_short (text_at strtab) input_forms input_with bytes l

  pub input_bad : 56 ≤ length bytes → None ≡ input_head_in strtab bytes → read_input_head strtab bytes ≡ Err (length bytes)
  unfolding read_input_head input_head_in
  input_bad l e = record_bad (text_at strtab) input_forms input_with bytes l (sym e)

  pub input_good : (head : InputHead) → 56 ≤ length bytes → Some head ≡ input_head_in strtab bytes → read_input_head strtab bytes ≡ Ok (head, drop 56 bytes)
  unfolding read_input_head input_head_in
  input_good head l e = record_good (text_at strtab) input_forms input_with bytes head l (sym e)

  -- ---- the head of the section

  head-numbers : head_in strtab bytes ≡ option_and_then head_with (values_with (text_at strtab) head_forms (num bytes 0 4 ∷ num bytes 4 4 ∷ num bytes 8 4 ∷ num bytes 12 4 ∷ num bytes 16 4 ∷ num bytes 20 4 ∷ num bytes 24 4 ∷ num bytes 28 4 ∷ []))
  unfolding head_in
  head-numbers = ap (λ (ns : List ℕ). option_and_then head_with (values_with (text_at strtab) head_forms ns)) (numbers_are head_forms bytes)

  pub head_entryless : None ≡ text_at strtab (num bytes 8 4) → head_in strtab bytes ≡ None
  head_entryless e = let none = sym e in head-numbers ∙ rw none refl

  pub head_interpless : (t : List ℕ) → Some t ≡ text_at strtab (num bytes 8 4) → None ≡ text_at strtab (num bytes 12 4) → head_in strtab bytes ≡ None
  head_interpless t p e = let there = sym p in let none = sym e in head-numbers ∙ rw (there, none) refl

  pub head_runpathless : (t u : List ℕ) → Some t ≡ text_at strtab (num bytes 8 4) → Some u ≡ text_at strtab (num bytes 12 4) → None ≡ text_at strtab (num bytes 16 4) → head_in strtab bytes ≡ None
  head_runpathless t u p q e = let there = sym p in let again = sym q in let none = sym e in head-numbers ∙ rw (there, again, none) refl

  pub head_with_texts : (t u v : List ℕ) → Some t ≡ text_at strtab (num bytes 8 4) → Some u ≡ text_at strtab (num bytes 12 4) → Some v ≡ text_at strtab (num bytes 16 4) → head_in strtab bytes ≡ head_named t u v bytes
  head_with_texts t u v p q r = let there = sym p in let again = sym q in let third = sym r in head-numbers ∙ rw (there, again, third) refl

  pub head_short : length bytes < 32 → read_head strtab bytes ≡ Err (length bytes)
  unfolding read_head
  head_short l = record_short (text_at strtab) head_forms head_with bytes l

  pub head_bad : 32 ≤ length bytes → None ≡ head_in strtab bytes → read_head strtab bytes ≡ Err (length bytes)
  unfolding read_head head_in
  head_bad l e = record_bad (text_at strtab) head_forms head_with bytes l (sym e)

  pub head_good : (head : Head) → 32 ≤ length bytes → Some head ≡ head_in strtab bytes → read_head strtab bytes ≡ Ok (head, drop 32 bytes)
  unfolding read_head head_in
  head_good head l e = record_good (text_at strtab) head_forms head_with bytes head l (sym e)
