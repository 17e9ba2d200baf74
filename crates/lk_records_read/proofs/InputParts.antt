-- The records of the section of inputs that are looked at alone, by what is read of their bytes.
use Rattle.std.specs.Prelude.{◌≡◌, ℕ, ◌<◌, ◌≤◌, Bool, true, false, not, List, [], ◌∷◌, length, drop, Option, None, Some, Ok, Err, if◌then◌else◌}
use Rattle.std.specs.Option.{option_and_then}
use Rattle.std.proofs.Common.{refl, sym, ◌∙◌, ap}
use Rattle.lk_elf.specs.Fields.{num}
use Rattle.lk_model.specs.InputsCounts.{after_group}
use Rattle.lk_model.specs.InputsReading.{global_forms, global_with, group_forms, group_head, number_with}
use Rattle.lk_model.specs.RecordForms.{Values, Given, given_then, read_many, read_record, values_with}
use Rattle.lk_model.specs.RecordForms.Form.{Num32}
use Rattle.lk_model.specs.RecordReaders.{After, counted, is_fault_at, passing}
use Rattle.lk_model.specs.RecordRefusals.{is_good_global}
use Rattle.lk_model.specs.Texts.{text_at}
use Rattle.lk_model.specs.declared.summaries.Global.{Global}
use Rattle.lk_model.specs.declared.summaries.Group.{Group}
use Rattle.lk_records_read.specs.InputParts.{global_in, global_named, read_global, read_group, read_member}
use Rattle.lk_records_read.specs.ReadAnswers.{ReadGives, record_in}
use Rattle.lk_records_read.specs.declared.refusals.Refusal.{Refusal}
use Rattle.lk_records_read.specs.declared.refusals.Refusal.TheVariants as refusal
use Rattle.lk_records_read.proofs.RecordNumbers.{numbers_are, record_short, record_bad, record_good}

-- ---- counts

crowded : (b : Bool) → false ≡ not b → b ≡ true
crowded true e = refl
crowded false e = absurd (cc)

roomy : (b : Bool) → true ≡ not b → b ≡ false
roomy true e = absurd (cc)
roomy false e = refl

module _ {X : Type 0} where
  pub counted_short : (after : After) (bytes : List ℕ) (g : Given X) → g ≡ Err (length bytes) → counted after bytes g ≡ Err (length bytes)
  counted_short after bytes g e = go (is_fault_at (length bytes) after)
    where
      go : (b : Bool) → (if b then Err (length bytes) else g) ≡ Err (length bytes)
      go true = refl
      go false = e

  pub counted_crowded : (after : After) (bytes : List ℕ) (g : Given X) → false ≡ not (is_fault_at (length bytes) after) → counted after bytes g ≡ Err (length bytes)
  counted_crowded after bytes g e = ap (λ b. if b then Err (length bytes) else g) (crowded (is_fault_at (length bytes) after) e)

  pub counted_fit : (after : After) (bytes : List ℕ) (g : Given X) → true ≡ not (is_fault_at (length bytes) after) → counted after bytes g ≡ g
  counted_fit after bytes g e = ap (λ b. if b then Err (length bytes) else g) (roomy (is_fault_at (length bytes) after) e)

-- ---- groups

module _ (strtab bytes : List ℕ) where
  pub member_short : length bytes < 4 → read_member strtab bytes ≡ Err (length bytes)
  unfolding read_member
  member_short l = record_short (text_at strtab) (Num32 ∷ []) number_with bytes l

  pub member_there : (n : ℕ) → 4 ≤ length bytes → n ≡ num bytes 0 4 → read_member strtab bytes ≡ Ok (n, drop 4 bytes)
  unfolding read_member
  member_there n l e =
      record_good (text_at strtab) (Num32 ∷ []) number_with bytes n l
      (ap (λ (ns : List ℕ). option_and_then number_with (values_with (text_at strtab) (Num32 ∷ []) ns)) (numbers_are (Num32 ∷ []) bytes) ∙ ap Some (sym e))

  -- what follows the head of a group
  abbrev members_behind : Given (List ℕ × ℕ) → Given Group
  members_behind g = given_then g (λ (signature, count) rest. given_then (read_many (read_record (text_at strtab) (Num32 ∷ []) number_with) count rest) (λ members left. Ok (record { signature = signature; members = members }, left)))

  abbrev head : Given (List ℕ × ℕ)
  head = read_record (text_at strtab) group_forms group_head bytes

  head-numbers : record_in (text_at strtab) group_forms group_head bytes ≡ option_and_then group_head (values_with (text_at strtab) group_forms (num bytes 0 4 ∷ num bytes 4 4 ∷ []))
  head-numbers = ap (λ (ns : List ℕ). option_and_then group_head (values_with (text_at strtab) group_forms ns)) (numbers_are group_forms bytes)

  pub group_short : length bytes < 8 → read_group strtab bytes ≡ Err (length bytes)
  unfolding read_group
  group_short l = counted_short (after_group bytes) bytes (members_behind head) (ap members_behind (record_short (text_at strtab) group_forms group_head bytes l))

  pub group_crowded : 8 ≤ length bytes → false ≡ not (is_fault_at (length bytes) (after_group bytes)) → read_group strtab bytes ≡ Err (length bytes)
  unfolding read_group
  group_crowded l e = counted_crowded (after_group bytes) bytes (members_behind head) e

  pub group_unsigned : 8 ≤ length bytes → true ≡ not (is_fault_at (length bytes) (after_group bytes)) → None ≡ text_at strtab (num bytes 0 4) → read_group strtab bytes ≡ Err (length bytes)
  unfolding read_group
  group_unsigned l e t =
      let none = sym t in
      counted_fit (after_group bytes) bytes (members_behind head) e
      ∙ ap members_behind (record_bad (text_at strtab) group_forms group_head bytes l (head-numbers ∙ rw none refl))

  signed : (t : List ℕ) → 8 ≤ length bytes → true ≡ not (is_fault_at (length bytes) (after_group bytes)) → Some t ≡ text_at strtab (num bytes 0 4) → read_group strtab bytes ≡ given_then (read_many (read_member strtab) (num bytes 4 4) (drop 8 bytes)) (λ members left. Ok (record { signature = t; members = members }, left))
  unfolding read_group read_member
  signed t l e s =
      let there = sym s in
      counted_fit (after_group bytes) bytes (members_behind head) e
      ∙ ap members_behind (record_good (text_at strtab) group_forms group_head bytes (t, num bytes 4 4) l (head-numbers ∙ rw there refl))

  pub group_there : (t members rest : List ℕ) → 8 ≤ length bytes → true ≡ not (is_fault_at (length bytes) (after_group bytes)) → Some t ≡ text_at strtab (num bytes 0 4) → read_many (read_member strtab) (num bytes 4 4) (drop 8 bytes) ≡ Ok (members, rest) → read_group strtab bytes ≡ Ok (record { signature = t; members = members }, rest)
  group_there t members rest l e s m =
      signed t l e s ∙ ap (λ (g : Given (List ℕ)). given_then g (λ ms left. Ok (record { signature = t; members = ms }, left))) m

  pub group_stops : (t rest after : List ℕ) (r : Refusal) → 8 ≤ length bytes → true ≡ not (is_fault_at (length bytes) (after_group bytes)) → Some t ≡ text_at strtab (num bytes 0 4) → ReadGives (read_many (read_member strtab) (num bytes 4 4) (drop 8 bytes)) (Err r) rest → ReadGives (read_group strtab bytes) (Err r) after
  group_stops t rest after (refusal.Bad left) l e s m =
      signed t l e s ∙ ap (λ (g : Given (List ℕ)). given_then g (λ ms after_all. Ok (record { signature = t; members = ms }, after_all))) m
  group_stops t rest after refusal.NoMemory l e s m = tt

-- ---- symbols

-- the symbol of a record
abbrev good_of : Values global_forms → Option Global
good_of vs = passing is_good_global (global_with vs)

module _ (strtab bytes : List ℕ) where
  by-numbers : global_in strtab bytes ≡ option_and_then good_of (values_with (text_at strtab) global_forms (num bytes 0 4 ∷ num bytes 4 4 ∷ num bytes 8 4 ∷ num bytes 12 4 ∷ num bytes 16 8 ∷ num bytes 24 8 ∷ num bytes 32 4 ∷ num bytes 36 4 ∷ []))
  unfolding global_in
  by-numbers = ap (λ (ns : List ℕ). option_and_then good_of (values_with (text_at strtab) global_forms ns)) (numbers_are global_forms bytes)

  pub global_unnamed : None ≡ text_at strtab (num bytes 0 4) → global_in strtab bytes ≡ None
  global_unnamed e = let none = sym e in by-numbers ∙ rw none refl

  pub global_with_name : (t : List ℕ) → Some t ≡ text_at strtab (num bytes 0 4) → global_in strtab bytes ≡ global_named t bytes
  global_with_name t e = let there = sym e in by-numbers ∙ rw there refl

  pub global_short : length bytes < 40 → read_global strtab bytes ≡ Err (length bytes)
  unfolding read_global
  global_short l = record_short (text_at strtab) global_forms good_of bytes l

  pub global_bad : 40 ≤ length bytes → None ≡ global_in strtab bytes → read_global strtab bytes ≡ Err (length bytes)
  unfolding read_global global_in
  global_bad l e = record_bad (text_at strtab) global_forms good_of bytes l (sym e)

  pub global_good : (g : Global) → 40 ≤ length bytes → Some g ≡ global_in strtab bytes → read_global strtab bytes ≡ Ok (g, drop 40 bytes)
  unfolding read_global global_in
  global_good g l e = record_good (text_at strtab) global_forms good_of bytes g l (sym e)
