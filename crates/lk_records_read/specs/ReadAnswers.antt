-- What reading records answers (this project's own): what the definition says of the bytes, or out of memory,
-- which is tied to no cause.
use Rattle.std.specs.Prelude.{◌≡◌, ℕ, ◌-◌, List, length, Option, Result, Ok, Err}
use Rattle.std.specs.Option.{option_and_then}
use Rattle.lk_model.specs.RecordForms.{Form, Values, Given, raw_numbers, values_with}
use Rattle.lk_model.specs.declared.records.RecordFault.{RecordFault}
use Rattle.lk_model.specs.declared.records.RecordFault.TheVariants as fault
use Rattle.lk_records_read.specs.declared.refusals.Refusal.{Refusal}
use Rattle.lk_records_read.specs.declared.refusals.Refusal.TheVariants as refusal

module _ {X : Type 0} where
  -- the record that begins these bytes, which has all of its own there; none where it is refused
  abbrev pub record_in : (ℕ → Option (List ℕ)) → (fs : List Form) → (Values fs → Option X) → List ℕ → Option X
  record_in texts fs row bytes = option_and_then row (values_with texts fs (raw_numbers fs bytes))

  -- what is read of a place, with the bytes that are left then; or the number of bytes left at the bad place
  abbrev pub ReadGives : Given X → Result X Refusal → List ℕ → Type 0
  ReadGives given (Ok x) rest = given ≡ Ok (x, rest)
  ReadGives given (Err (refusal.Bad left)) rest = given ≡ Err left
  ReadGives given (Err refusal.NoMemory) rest = Unit {0}

  -- what is read of a whole section, or the number of bytes left at its bad place
  abbrev pub ReadGivesWhole : Result X ℕ → Result X Refusal → Type 0
  ReadGivesWhole expected (Ok x) = expected ≡ Ok x
  ReadGivesWhole expected (Err (refusal.Bad left)) = expected ≡ Err left
  ReadGivesWhole expected (Err refusal.NoMemory) = Unit {0}

  -- what is read, or the bad place by section and offset
  abbrev pub RecordsGive : Result X RecordFault → Result X RecordFault → Type 0
  RecordsGive expected (Ok x) = expected ≡ Ok x
  RecordsGive expected (Err (fault.Bad section offset)) = expected ≡ Err (fault.Bad section offset)
  RecordsGive expected (Err (fault.Version version)) = expected ≡ Err (fault.Version version)
  RecordsGive expected (Err fault.NoMemory) = Unit {0}

module _ {X : Type 0} where
  -- whether a whole section is read, or the number of bytes left at its bad place
  abbrev pub IsPassed : Result X ℕ → Result (Unit {0}) Refusal → Type 0
  IsPassed expected (Ok u) = (x : X) × (expected ≡ Ok x)
  IsPassed expected (Err (refusal.Bad left)) = expected ≡ Err left
  IsPassed expected (Err refusal.NoMemory) = Unit {0}

  -- whether it is read, or the bad place by section and offset
  abbrev pub RecordsPass : Result X RecordFault → Result (Unit {0}) RecordFault → Type 0
  RecordsPass expected (Ok u) = (x : X) × (expected ≡ Ok x)
  RecordsPass expected (Err (fault.Bad section offset)) = expected ≡ Err (fault.Bad section offset)
  RecordsPass expected (Err (fault.Version version)) = expected ≡ Err (fault.Version version)
  RecordsPass expected (Err fault.NoMemory) = Unit {0}

-- why a section is not read, by its number
abbrev pub fault_in : ℕ → List ℕ → Refusal → RecordFault
fault_in section bytes (refusal.Bad left) = fault.Bad section (length bytes - left)
fault_in section bytes refusal.NoMemory = fault.NoMemory
