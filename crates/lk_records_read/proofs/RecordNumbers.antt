-- The numbers of a record by their places in its bytes, and the record that its numbers give.
use Rattle.std.specs.Prelude.{◌≡◌, ℕ, ◌+◌, ◌<◌, ◌≤◌, List, [], ◌∷◌, length, drop, Option, None, Some, Ok, Err, if◌then◌else◌}
use Rattle.std.proofs.Common.{refl, ◌∙◌, ap}
use Rattle.std.proofs.lemmas.Bool.{le-leb, lt-leb}
use Rattle.std.proofs.lemmas.List.{drop-drop}
use Rattle.lk_elf.specs.Fields.{num}
use Rattle.lk_model.specs.RecordForms.{Form, Values, given_row, form_width, record_width, raw_numbers, read_record}
use Rattle.lk_records_read.specs.ReadAnswers.{record_in}

-- the numbers of a record that begins at a place
abbrev pub numbers_at : List Form → ℕ → List ℕ → List ℕ
numbers_at [] at bytes = []
numbers_at (f ∷ fs) at bytes = num bytes at (form_width f) ∷ numbers_at fs (at + form_width f) bytes

numbers-from : (fs : List Form) (at : ℕ) (bytes : List ℕ) → raw_numbers fs (drop at bytes) ≡ numbers_at fs at bytes
unfolding num
numbers-from [] at bytes = refl
numbers-from (f ∷ fs) at bytes =
    ap (λ (ns : List ℕ). num bytes at (form_width f) ∷ ns)
    (ap (raw_numbers fs) (drop-drop (form_width f) at bytes) ∙ numbers-from fs (at + form_width f) bytes)

pub numbers_are : (fs : List Form) (bytes : List ℕ) → raw_numbers fs bytes ≡ numbers_at fs 0 bytes
numbers_are fs bytes = numbers-from fs 0 bytes

module _ {X : Type 0} (texts : ℕ → Option (List ℕ)) (fs : List Form) (row : Values fs → Option X) (bytes : List ℕ) where
  pub record_short : length bytes < record_width fs → read_record texts fs row bytes ≡ Err (length bytes)
  record_short l =
      ap (λ b. if b then given_row (record_in texts fs row bytes) bytes (drop (record_width fs) bytes) else Err (length bytes)) (lt-leb (record_width fs) (length bytes) l)

  all-there : record_width fs ≤ length bytes → read_record texts fs row bytes ≡ given_row (record_in texts fs row bytes) bytes (drop (record_width fs) bytes)
  all-there l =
      ap (λ b. if b then given_row (record_in texts fs row bytes) bytes (drop (record_width fs) bytes) else Err (length bytes)) (le-leb (record_width fs) (length bytes) l)

  pub record_bad : record_width fs ≤ length bytes → record_in texts fs row bytes ≡ None → read_record texts fs row bytes ≡ Err (length bytes)
  record_bad l e = all-there l ∙ ap (λ (o : Option X). given_row o bytes (drop (record_width fs) bytes)) e

  pub record_good : (x : X) → record_width fs ≤ length bytes → record_in texts fs row bytes ≡ Some x → read_record texts fs row bytes ≡ Ok (x, drop (record_width fs) bytes)
  record_good x l e = all-there l ∙ ap (λ (o : Option X). given_row o bytes (drop (record_width fs) bytes)) e
