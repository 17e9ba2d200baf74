-- The names of a section, one after another.
use Rattle.std.specs.Prelude.{◌≡◌, ℕ, zero, suc, ◌+◌, ◌-◌, ◌/◌, ◌<◌, ◌≤◌, List, [], ◌∷◌, ◌++◌, length, drop, None, Some, Result, Ok, Err}
use Rattle.std.specs.Option.{option_and_then}
use Rattle.std.proofs.Common.{refl, sym, ◌∙◌, ap, arith, subst}
use Rattle.std.proofs.lemmas.Bool.{le-leb, lt-leb}
use Rattle.lk_elf.specs.Fields.{num}
use Rattle.lk_model.specs.NamesReading.{input_recorded, name_with, names_read}
use Rattle.lk_model.specs.RecordForms.{Given, values_with}
use Rattle.lk_model.specs.RecordReaders.{finished}
use Rattle.lk_model.specs.RecordSections.{name_forms}
use Rattle.lk_model.specs.Texts.{text_at}
use Rattle.lk_model.specs.declared.records.NameRow.{NameRow}
use Rattle.lk_records_read.specs.NameRecords.{name_in, names_among, read_name}
use Rattle.lk_records_read.specs.ReadAnswers.{ReadGives, ReadGivesWhole}
use Rattle.lk_records_read.specs.declared.refusals.Refusal.{Refusal}
use Rattle.lk_records_read.proofs.RecordNumbers.{numbers_are, record_short, record_bad, record_good}
use Rattle.lk_records_read.proofs.RecordsInRow.{many_among, among_next, among_refused, among_done, whole_stops, whole_read, whole_left}

-- ---- the winner's input

pub input_absent : (inputs n : ℕ) → n ≡ 0 → input_recorded inputs n ≡ None
input_absent inputs n e = ap (input_recorded inputs) e

pub input_past : (inputs n : ℕ) → inputs < n → input_recorded inputs n ≡ None
input_past inputs zero l = absurd (omega (arith, l))
input_past inputs (suc n) l = let past = lt-leb (suc n) inputs l in rw past refl

pub input_there : (inputs n : ℕ) → 0 < n → n ≤ inputs → input_recorded inputs n ≡ Some (Some (n - 1))
input_there inputs zero p l = absurd (omega (arith, p))
input_there inputs (suc n) p l =
    let there = le-leb (suc n) inputs l in
    let same : n ≡ suc n - 1 = omega arith in
    rw there (ap (λ (m : ℕ). Some (Some m)) same)

-- ---- a name

module _ (strtab : List ℕ) (inputs references : ℕ) (bytes : List ℕ) where
  by-numbers : name_in strtab inputs references bytes ≡ option_and_then (name_with inputs references) (values_with (text_at strtab) name_forms (num bytes 0 4 ∷ num bytes 4 4 ∷ num bytes 8 4 ∷ num bytes 12 4 ∷ []))
  unfolding name_in
  by-numbers = ap (λ (ns : List ℕ). option_and_then (name_with inputs references) (values_with (text_at strtab) name_forms ns)) (numbers_are name_forms bytes)

  pub name_unnamed : None ≡ text_at strtab (num bytes 0 4) → name_in strtab inputs references bytes ≡ None
  name_unnamed e = let none = sym e in by-numbers ∙ rw none refl

  pub name_named : (t : List ℕ) → Some t ≡ text_at strtab (num bytes 0 4) → name_in strtab inputs references bytes ≡ name_with inputs references (t, (num bytes 4 4, (num bytes 8 4, (num bytes 12 4, tt))))
  name_named t e = let there = sym e in by-numbers ∙ rw there refl

  pub name_short : length bytes < 16 → read_name strtab inputs references bytes ≡ Err (length bytes)
  unfolding read_name
  name_short l = record_short (text_at strtab) name_forms (name_with inputs references) bytes l

  pub name_bad : 16 ≤ length bytes → None ≡ name_in strtab inputs references bytes → read_name strtab inputs references bytes ≡ Err (length bytes)
  unfolding read_name name_in
  name_bad l e = record_bad (text_at strtab) name_forms (name_with inputs references) bytes l (sym e)

  pub name_good : (row : NameRow) → 16 ≤ length bytes → Some row ≡ name_in strtab inputs references bytes → read_name strtab inputs references bytes ≡ Ok (row, drop 16 bytes)
  unfolding read_name name_in
  name_good row l e = record_good (text_at strtab) name_forms (name_with inputs references) bytes row l (sym e)

-- ---- the names of a section

module _ (strtab : List ℕ) (inputs references : ℕ) where
  pub names_next : (before now : List NameRow) (row : NameRow) (k n : ℕ) (bytes rest : List ℕ) → k < n → read_name strtab inputs references bytes ≡ Ok (row, rest) → now ≡ before ++ row ∷ [] → names_among strtab inputs references before (n - k) bytes ≡ names_among strtab inputs references now (n - (k + 1)) rest
  unfolding names_among
  names_next before now row k n bytes rest l e p = among_next (λ _ b. read_name strtab inputs references b) before now row k n bytes rest l e p

  pub names_refused : (before : List NameRow) (k n : ℕ) (bytes rest after : List ℕ) (whole : Given (List NameRow)) (e : Refusal) (r : Result (List NameRow) Refusal) → k < n → names_among strtab inputs references before (n - k) bytes ≡ whole → ReadGives (read_name strtab inputs references bytes) (Err e) rest → r ≡ Err e → ReadGives whole r after
  unfolding names_among
  names_refused before k n bytes rest after whole e r l inv bad q = among_refused (λ _ b. read_name strtab inputs references b) before k n bytes rest after whole e r l inv bad q

  pub names_done : (before : List NameRow) (k n : ℕ) (bytes : List ℕ) → n ≤ k → names_among strtab inputs references before (n - k) bytes ≡ Ok (before, bytes)
  unfolding names_among
  names_done before k n bytes l = among_done (λ _ b. read_name strtab inputs references b) before k n bytes l

  all-names : (bytes : List ℕ) → names_read strtab inputs references bytes ≡ finished (names_among strtab inputs references [] (length bytes / 16) bytes)
  unfolding names_read names_among read_name
  all-names bytes = ap (λ (g : Given (List NameRow)). finished g) (sym (many_among (read_name strtab inputs references) (length bytes / 16) bytes))

  pub names_stop : (bytes rest : List ℕ) (r : Refusal) → ReadGives (names_among strtab inputs references [] (length bytes / 16) bytes) (Err r) rest → ReadGivesWhole (names_read strtab inputs references bytes) (Err r)
  names_stop bytes rest r e = subst (λ (x : Result (List NameRow) ℕ). ReadGivesWhole x (Err r)) (sym (all-names bytes)) (whole_stops (names_among strtab inputs references [] (length bytes / 16) bytes) r rest e)

  pub names_left : (bytes rest : List ℕ) (names : List NameRow) → names_among strtab inputs references [] (length bytes / 16) bytes ≡ Ok (names, rest) → 0 < length rest → names_read strtab inputs references bytes ≡ Err (length rest)
  names_left bytes rest names e l = all-names bytes ∙ whole_left (names_among strtab inputs references [] (length bytes / 16) bytes) names rest e l

  pub names_whole : (bytes rest : List ℕ) (names : List NameRow) → names_among strtab inputs references [] (length bytes / 16) bytes ≡ Ok (names, rest) → rest ≡ [] → names_read strtab inputs references bytes ≡ Ok names
  names_whole bytes rest names e n = all-names bytes ∙ whole_read (names_among strtab inputs references [] (length bytes / 16) bytes) names rest e n
