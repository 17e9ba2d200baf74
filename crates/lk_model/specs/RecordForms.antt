-- The forms of records and their reading (this project's own). A record is a list of forms; its raw
-- numbers are read first and its texts are resolved at its end. An error is the number of bytes that
-- are left at the bad record; the top makes offsets of it.
use Rattle.std.specs.Prelude.{ℕ, zero, suc, ◌+◌, List, [], ◌∷◌, length, take, drop, Option, Some, None, option_map, Result, Ok, Err, nat_le, if◌then◌else◌}
use Rattle.std.specs.Option.{option_and_then}
use Rattle.lk_elf.specs.Fields.{number_of}

-- the form of a field: a number of four or of eight bytes, or a text by its offset
pub data Form : Type 0 where
  Num32 : Form
  Num64 : Form
  Text32 : Form

abbrev pub form_width : Form → ℕ
form_width Num32 = 4
form_width Num64 = 8
form_width Text32 = 4

abbrev pub record_width : List Form → ℕ
record_width [] = 0
record_width (f ∷ fs) = form_width f + record_width fs

-- what the fields of a record hold
abbrev pub Values : List Form → Type 0
Values [] = Unit {0}
Values (Num32 ∷ fs) = ℕ × Values fs
Values (Num64 ∷ fs) = ℕ × Values fs
Values (Text32 ∷ fs) = List ℕ × Values fs

-- the numbers of a record's fields, one after another
abbrev pub raw_numbers : List Form → List ℕ → List ℕ
raw_numbers [] bytes = []
raw_numbers (f ∷ fs) bytes = number_of (take (form_width f) bytes) ∷ raw_numbers fs (drop (form_width f) bytes)

-- the values of a record's fields, with its texts resolved; none where an offset is that of no text
abbrev pub values_with : (ℕ → Option (List ℕ)) → (fs : List Form) → List ℕ → Option (Values fs)
values_with texts [] ns = Some tt
values_with texts (Num32 ∷ fs) [] = None
values_with texts (Num32 ∷ fs) (n ∷ ns) = option_map (λ vs. (n, vs)) (values_with texts fs ns)
values_with texts (Num64 ∷ fs) [] = None
values_with texts (Num64 ∷ fs) (n ∷ ns) = option_map (λ vs. (n, vs)) (values_with texts fs ns)
values_with texts (Text32 ∷ fs) [] = None
values_with texts (Text32 ∷ fs) (n ∷ ns) =
    option_and_then (λ t. option_map (λ vs. (t, vs)) (values_with texts fs ns)) (texts n)

-- what a reader gives: a value and the bytes that are left, or the number of bytes left at the bad record
abbrev pub Given : Type 0 → Type 0
Given X = Result (X × List ℕ) ℕ

module _ {A B : Type 0} where
  -- one reader after another
  abbrev pub given_then : Given A → (A → List ℕ → Given B) → Given B
  given_then (Err e) f = Err e
  given_then (Ok (x, rest)) f = f x rest

module _ {X : Type 0} where
  -- a row that its numbers may refuse
  abbrev pub given_row : Option X → List ℕ → List ℕ → Given X
  given_row None bytes rest = Err (length bytes)
  given_row (Some x) bytes rest = Ok (x, rest)

  -- one record
  abbrev pub read_record : (ℕ → Option (List ℕ)) → (fs : List Form) → (Values fs → Option X) → List ℕ → Given X
  read_record texts fs row bytes =
      if nat_le (record_width fs) (length bytes) then
      given_row (option_and_then row (values_with texts fs (raw_numbers fs bytes))) bytes (drop (record_width fs) bytes)
      else Err (length bytes)

  -- so many records, one after another
  abbrev pub read_many : (List ℕ → Given X) → ℕ → List ℕ → Given (List X)
  read_many one zero bytes = Ok ([], bytes)
  read_many one (suc n) bytes =
      given_then (one bytes) (λ x rest. given_then (read_many one n rest) (λ xs left. Ok (x ∷ xs, left)))
