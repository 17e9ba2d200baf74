-- The reading of `.gnu_incremental_symtab` with its refusals (this project's own): a name a record, as
-- many as there are whole records.
use Rattle.std.specs.Prelude.{ℕ, zero, suc, ◌/◌, ◌==◌, ◌||◌, Bool, List, length, Option, Some, None, option_map, Result, nat_le, if◌then◌else◌}
use Rattle.lk_model.specs.RecordForms.{Values, record_width, read_record, read_many}
use Rattle.lk_model.specs.RecordReaders.{finished}
use Rattle.lk_model.specs.RecordSections.{name_forms}
use Rattle.lk_model.specs.Texts.{text_at}
use Rattle.lk_model.specs.declared.records.NameRow.{NameRow}

-- whether a winner of this kind is a symbol of an input: a strong or weak definition, or an import
abbrev pub is_of_input : ℕ → Bool
is_of_input kind = kind == 1 || kind == 3 || kind == 5

-- the winner's input, which is recorded as the number plus 1: one of so many inputs, or 0 where the kind of
-- winner has none
abbrev pub input_recorded : ℕ → ℕ → Option (Option ℕ)
input_recorded inputs zero = None
input_recorded inputs (suc n) = if nat_le (suc n) inputs then Some (Some n) else None

abbrev pub winner_input_with : ℕ → ℕ → ℕ → Option (Option ℕ)
winner_input_with inputs kind recorded =
    if is_of_input kind then input_recorded inputs recorded else (if recorded == 0 then Some None else None)

-- a name, of so many inputs and references
abbrev pub name_with : ℕ → ℕ → Values name_forms → Option NameRow
name_with inputs references (name, (first, (kind, (recorded, _)))) =
    if nat_le kind 5 then
    (if nat_le first references then
    option_map (λ i. record { name = name; winner = kind; input = i }) (winner_input_with inputs kind recorded)
    else None)
    else None

-- the names, of so many inputs and references, with the section of texts
unfoldable pub names_read : List ℕ → ℕ → ℕ → List ℕ → Result (List NameRow) ℕ
names_read strtab inputs references bytes =
    finished
    (read_many (read_record (text_at strtab) name_forms (name_with inputs references)) (length bytes / record_width name_forms) bytes)
