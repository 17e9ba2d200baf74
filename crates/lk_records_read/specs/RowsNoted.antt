-- Output sections that are read, by what no two of them share (this project's own; gABI "Sections").
use Rattle.std.specs.Prelude.{◌≡◌, ℕ, ◌&&◌, not, Bool, true, false, List, [], ◌∷◌, ◌++◌, map, nat_le, Option, Result, Ok, Err, ⊤}
use Rattle.std.specs.Cmp.{IsEquivalence, and_equiv, nat_eq_equiv, on_equiv}
use Rattle.std.specs.Cmp.Lexicographic.{nat_list_eq_equiv}
use Rattle.std.specs.List.{list_all, list_any}
use Rattle.lk_elf.specs.Fields.{num}
use Rattle.lk_model.specs.CheckedInputs.{checked_row}
use Rattle.lk_model.specs.InputsReading.{section_forms, section_with}
use Rattle.lk_model.specs.RecordForms.{Given}
use Rattle.lk_model.specs.RecordRefusals.{ends_in_bounds, has_own_addresses, has_place_in_file, is_field_power, is_good_row, row_is_beside, share_no_address, share_no_file_byte}
use Rattle.lk_model.specs.SectionKeys.{class_number, in_file, reserved_of, same_key}
use Rattle.lk_model.specs.Texts.{text_at}
use Rattle.lk_model.specs.declared.layouts.SectionKey.{SectionKey}
use Rattle.lk_model.specs.declared.layouts.SectionRow.{SectionRow}
use Rattle.lk_report.specs.declared.memory.NoMemory.{NoMemory}
use Rattle.lk_records_read.specs.ReadAnswers.{record_in}
use Rattle.lk_records_read.specs.TakenRanges.{AreNoted}
use Rattle.lk_records_read.specs.declared.refusals.Refusal.{Refusal}

-- that two keys are the same is an equivalence
pub same_key_equiv : IsEquivalence same_key
same_key_equiv =
    and_equiv (on_equiv (λ (key : SectionKey). class_number key.class) nat_eq_equiv) (on_equiv (λ (key : SectionKey). key.name) nat_list_eq_equiv)

-- ---- what no two share

abbrev pub key_of : SectionRow → SectionKey
key_of row = row.key

abbrev pub is_in_file : SectionRow → Bool
is_in_file row = in_file row.key.class

abbrev pub addr_of : SectionRow → ℕ
addr_of row = row.addr

abbrev pub offset_of : SectionRow → ℕ
offset_of row = row.offset

abbrev pub room_of : SectionRow → ℕ
room_of row = row.room

-- the keys, addresses and file bytes of these rows are noted
abbrev pub AreRowsNoted : List SectionKey → List (ℕ × ℕ) → List (ℕ × ℕ) → List SectionRow → Type 0
AreRowsNoted keys addresses offsets before =
    (keys ≡ map key_of before)
    × AreNoted has_own_addresses addr_of room_of share_no_address addresses before
    × AreNoted is_in_file offset_of room_of share_no_file_byte offsets before

-- a key is noted among others, for the first time or again
abbrev pub IsKeyNoted : List SectionKey → SectionKey → Bool → List SectionKey → Type 0
IsKeyNoted old key is_first new = (is_first ≡ not (list_any (same_key key) old)) × (is_first ≡ true → new ≡ old ++ key ∷ [])

-- whether a row shares nothing with these before it, and is noted then
abbrev pub RowNoted : List SectionRow → SectionRow → Result Bool NoMemory → List SectionKey → List (ℕ × ℕ) → List (ℕ × ℕ) → Type 0
RowNoted before row (Ok true) keys addresses offsets =
    (list_all (row_is_beside row) before ≡ true) × AreRowsNoted keys addresses offsets (before ++ row ∷ [])
RowNoted before row (Ok false) keys addresses offsets = list_all (row_is_beside row) before ≡ false
RowNoted before row (Err e) keys addresses offsets = ⊤

-- ---- one row

-- whether an output section may be at all, beside others or not
unfoldable pub is_row : SectionRow → Bool
is_row row =
    is_field_power row.align
    && nat_le row.size row.room
    && nat_le (reserved_of row.key) row.room
    && ends_in_bounds row.addr row.room
    && has_place_in_file row

-- a row with this name and the numbers of its record
abbrev pub row_named : List ℕ → List ℕ → Option SectionRow
row_named name bytes =
    section_with (name, (num bytes 4 4, (num bytes 8 8, (num bytes 16 8, (num bytes 24 8, (num bytes 32 8, (num bytes 40 8, tt)))))))

-- the row whose record begins these bytes
unfoldable pub row_in : List ℕ → List ℕ → Option SectionRow
row_in strtab bytes = record_in (text_at strtab) section_forms section_with bytes

-- the row that is read there, after these
unfoldable pub read_row : List ℕ → List SectionRow → List ℕ → Given SectionRow
read_row strtab before bytes = checked_row (text_at strtab) before bytes

-- whether a row may follow these, and is noted then
abbrev pub RowPassed : List SectionRow → SectionRow → Result Bool NoMemory → List SectionKey → List (ℕ × ℕ) → List (ℕ × ℕ) → Type 0
RowPassed before row (Ok true) keys addresses offsets =
    (is_good_row before row ≡ true) × AreRowsNoted keys addresses offsets (before ++ row ∷ [])
RowPassed before row (Ok false) keys addresses offsets = is_good_row before row ≡ false
RowPassed before row (Err e) keys addresses offsets = ⊤

-- a row that is read after these is noted
abbrev pub RowRead : List SectionRow → Result SectionRow Refusal → List SectionKey → List (ℕ × ℕ) → List (ℕ × ℕ) → Type 0
RowRead before (Ok row) keys addresses offsets = AreRowsNoted keys addresses offsets (before ++ row ∷ [])
RowRead before (Err e) keys addresses offsets = ⊤
