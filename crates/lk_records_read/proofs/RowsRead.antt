-- Output sections, by what is read of their records.
use Rattle.std.specs.Prelude.{◌≡◌, refl, ℕ, ◌<◌, ◌≤◌, ◌&&◌, Bool, true, false, List, [], ◌∷◌, length, drop, Option, None, Some, Result, Ok, Err, if◌then◌else◌}
use Rattle.std.specs.List.{list_all}
use Rattle.std.specs.Option.{option_and_then}
use Rattle.std.proofs.Common.{ap, sym, ◌∙◌}
use Rattle.lk_elf.specs.Fields.{num}
use Rattle.lk_model.specs.InputsReading.{section_forms, section_with}
use Rattle.lk_model.specs.RecordForms.{Values, values_with, raw_numbers}
use Rattle.lk_model.specs.RecordReaders.{passing}
use Rattle.lk_model.specs.RecordRefusals.{is_good_row, row_is_beside}
use Rattle.lk_model.specs.Texts.{text_at}
use Rattle.lk_model.specs.declared.layouts.SectionKey.{SectionKey}
use Rattle.lk_model.specs.declared.layouts.SectionRow.{SectionRow}
use Rattle.lk_report.specs.declared.memory.NoMemory.{NoMemory}
use Rattle.lk_records_read.specs.ReadAnswers.{record_in}
use Rattle.lk_records_read.specs.RowsNoted.{RowNoted, RowPassed, is_row, read_row, row_in, row_named}
use Rattle.lk_records_read.proofs.RecordNumbers.{numbers_are, record_short, record_bad, record_good}

-- ---- whether a row may follow others

good-so : (row : SectionRow) (before : List SectionRow) (d : Bool) → is_row row ≡ d → is_good_row before row ≡ (d && list_all (row_is_beside row) before)
unfolding is_good_row is_row
good-so row before d e = ap (λ b. b && list_all (row_is_beside row) before) e

pub row_never : (row : SectionRow) (before : List SectionRow) → is_row row ≡ false → is_good_row before row ≡ false
row_never row before e = good-so row before false e

pub row_passed : (before : List SectionRow) (row : SectionRow) (r : Result Bool NoMemory) (keys : List SectionKey) (addresses offsets : List (ℕ × ℕ)) → is_row row ≡ true → RowNoted before row r keys addresses offsets → RowPassed before row r keys addresses offsets
row_passed before row (Ok true) keys addresses offsets e n = (good-so row before true e ∙ n.0, n.1)
row_passed before row (Ok false) keys addresses offsets e n = good-so row before true e ∙ n
row_passed before row (Err x) keys addresses offsets e n = tt

-- ---- one record

module _ (strtab bytes : List ℕ) where
  by-numbers : row_in strtab bytes ≡ option_and_then section_with (values_with (text_at strtab) section_forms (num bytes 0 4 ∷ num bytes 4 4 ∷ num bytes 8 8 ∷ num bytes 16 8 ∷ num bytes 24 8 ∷ num bytes 32 8 ∷ num bytes 40 8 ∷ []))
  unfolding row_in
  by-numbers = ap (λ (ns : List ℕ). option_and_then section_with (values_with (text_at strtab) section_forms ns)) (numbers_are section_forms bytes)

  pub row_unnamed : None ≡ text_at strtab (num bytes 0 4) → row_in strtab bytes ≡ None
  row_unnamed e = let none = sym e in by-numbers ∙ rw none refl

  pub row_with_name : (t : List ℕ) → Some t ≡ text_at strtab (num bytes 0 4) → row_in strtab bytes ≡ row_named t bytes
  row_with_name t e = let there = sym e in by-numbers ∙ rw there refl

  passing-values : (test : SectionRow → Bool) (vs : Option (Values section_forms)) → option_and_then (λ v. passing test (section_with v)) vs ≡ passing test (option_and_then section_with vs)
  passing-values test None = refl
  passing-values test (Some v) = refl

  module _ (before : List SectionRow) where
    -- the row, where it may follow
    abbrev row_after : Option SectionRow
    row_after = record_in (text_at strtab) section_forms (λ vs. passing (is_good_row before) (section_with vs)) bytes

    passed : row_after ≡ passing (is_good_row before) (row_in strtab bytes)
    unfolding row_in
    passed = passing-values (is_good_row before) (values_with (text_at strtab) section_forms (raw_numbers section_forms bytes))

    pub row_short : length bytes < 48 → read_row strtab before bytes ≡ Err (length bytes)
    unfolding read_row
    row_short l = record_short (text_at strtab) section_forms (λ vs. passing (is_good_row before) (section_with vs)) bytes l

    pub row_bad : 48 ≤ length bytes → row_in strtab bytes ≡ None → read_row strtab before bytes ≡ Err (length bytes)
    unfolding read_row
    row_bad l e =
        record_bad (text_at strtab) section_forms (λ vs. passing (is_good_row before) (section_with vs)) bytes l
        (passed ∙ ap (λ (o : Option SectionRow). passing (is_good_row before) o) e)

    pub row_refused : (row : SectionRow) → 48 ≤ length bytes → row_in strtab bytes ≡ Some row → is_good_row before row ≡ false → read_row strtab before bytes ≡ Err (length bytes)
    unfolding read_row
    row_refused row l e t =
        record_bad (text_at strtab) section_forms (λ vs. passing (is_good_row before) (section_with vs)) bytes l
        (passed ∙ ap (λ (o : Option SectionRow). passing (is_good_row before) o) e ∙ ap (λ b. if b then Some row else None) t)

    pub row_good : (row : SectionRow) → 48 ≤ length bytes → row_in strtab bytes ≡ Some row → is_good_row before row ≡ true → read_row strtab before bytes ≡ Ok (row, drop 48 bytes)
    unfolding read_row
    row_good row l e t =
        record_good (text_at strtab) section_forms (λ vs. passing (is_good_row before) (section_with vs)) bytes row l
        (passed ∙ ap (λ (o : Option SectionRow). passing (is_good_row before) o) e ∙ ap (λ b. if b then Some row else None) t)
