-- The records of names (this project's own), one after another.
use Rattle.std.specs.Prelude.{ℕ, List, Option}
use Rattle.lk_model.specs.NamesReading.{name_with}
use Rattle.lk_model.specs.RecordForms.{Given, read_record}
use Rattle.lk_model.specs.RecordReaders.{read_among}
use Rattle.lk_model.specs.RecordSections.{name_forms}
use Rattle.lk_model.specs.Texts.{text_at}
use Rattle.lk_model.specs.declared.records.NameRow.{NameRow}
use Rattle.lk_records_read.specs.ReadAnswers.{record_in}

-- the name whose record begins these bytes, of so many inputs and references
unfoldable pub name_in : List ℕ → ℕ → ℕ → List ℕ → Option NameRow
name_in strtab inputs references bytes = record_in (text_at strtab) name_forms (name_with inputs references) bytes

-- the name that is read there
unfoldable pub read_name : List ℕ → ℕ → ℕ → List ℕ → Given NameRow
read_name strtab inputs references bytes = read_record (text_at strtab) name_forms (name_with inputs references) bytes

-- these names, and so many more that are read there
unfoldable pub names_among : List ℕ → ℕ → ℕ → List NameRow → ℕ → List ℕ → Given (List NameRow)
names_among strtab inputs references before n bytes = read_among (λ _ b. read_name strtab inputs references b) before n bytes
