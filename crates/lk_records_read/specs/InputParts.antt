-- The records of the section of inputs that are looked at alone (this project's own): groups, symbols and heads.
use Rattle.std.specs.Prelude.{ℕ, List, [], ◌∷◌, Option}
use Rattle.lk_elf.specs.Fields.{num}
use Rattle.lk_model.specs.CheckedInputs.{checked_global, checked_group}
use Rattle.lk_model.specs.InputsReading.{global_forms, global_with, number_with}
use Rattle.lk_model.specs.RecordForms.{Given, read_record}
use Rattle.lk_model.specs.RecordForms.Form.{Num32}
use Rattle.lk_model.specs.RecordReaders.{passing}
use Rattle.lk_model.specs.RecordRefusals.{is_good_global}
use Rattle.lk_model.specs.Texts.{text_at}
use Rattle.lk_model.specs.declared.summaries.Global.{Global}
use Rattle.lk_model.specs.declared.summaries.Group.{Group}
use Rattle.lk_records_read.specs.ReadAnswers.{record_in}

-- ---- groups

-- the number of a member that is read there
unfoldable pub read_member : List ℕ → List ℕ → Given ℕ
read_member strtab bytes = read_record (text_at strtab) (Num32 ∷ []) number_with bytes

-- the group that is read there
unfoldable pub read_group : List ℕ → List ℕ → Given Group
read_group strtab bytes = checked_group (text_at strtab) bytes

-- ---- symbols

-- the symbol whose record begins these bytes
unfoldable pub global_in : List ℕ → List ℕ → Option Global
global_in strtab bytes = record_in (text_at strtab) global_forms (λ vs. passing is_good_global (global_with vs)) bytes

-- the symbol that is read there
unfoldable pub read_global : List ℕ → List ℕ → Given Global
read_global strtab bytes = checked_global (text_at strtab) bytes

-- a symbol with this name and the numbers of its record
abbrev pub global_named : List ℕ → List ℕ → Option Global
global_named name bytes =
    passing is_good_global (global_with (name, (num bytes 4 4, (num bytes 8 4, (num bytes 12 4, (num bytes 16 8, (num bytes 24 8, (num bytes 32 4, (num bytes 36 4, tt)))))))))
