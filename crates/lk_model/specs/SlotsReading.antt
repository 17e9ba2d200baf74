-- The reading of `.gnu_incremental_got_plt` with its refusals (this project's own): the GOT slots, the
-- PLT entries, and the commons and copies, which are in `.bss`.
use Rattle.std.specs.Prelude.{ℕ, ◌==◌, ◌&&◌, Bool, true, false, List, [], ◌++◌, length, drop, Option, Some, None, option_map, Result, Ok, nat_lt, if◌then◌else◌, codes, position, flat_map}
use Rattle.lk_elf.specs.Fields.{num}
use Rattle.lk_model.specs.CheckedInputs.{rows_of_input}
use Rattle.lk_model.specs.InputsReading.{ReadInputs, with_value}
use Rattle.lk_model.specs.RecordForms.{Values, Given, given_then, record_width, read_record, read_many}
use Rattle.lk_model.specs.RecordReaders.{After, after_then, after_rows, passing, read_among, finished, counted}
use Rattle.lk_model.specs.RecordRefusals.{is_field_power, is_good_place}
use Rattle.lk_model.specs.RecordSections.{slots_head_forms, slot_forms, entry_forms, made_forms, no_input}
use Rattle.lk_model.specs.SectionKeys.{same_key, named}
use Rattle.lk_model.specs.Texts.{text_at}
use Rattle.lk_model.specs.declared.layouts.Class.TheVariants.{Bss}
use Rattle.lk_model.specs.declared.layouts.GotKey.{GotKey}
use Rattle.lk_model.specs.declared.layouts.GotOwner.{GotOwner}
use Rattle.lk_model.specs.declared.layouts.GotOwner.TheVariants as owner
use Rattle.lk_model.specs.declared.layouts.PieceId.{PieceId}
use Rattle.lk_model.specs.declared.layouts.PieceId.TheVariants as id
use Rattle.lk_model.specs.declared.layouts.PieceRow.{PieceRow}
use Rattle.lk_model.specs.declared.layouts.SectionRow.{SectionRow}
use Rattle.lk_model.specs.declared.layouts.SlotTable.{SlotTable}

-- how much follows the head; its last word is 0
pub record SlotCounts : Type 0 where
  pub got : ℕ
  pub plt : ℕ
  pub made : ℕ

abbrev pub counts_with : Values slots_head_forms → Option SlotCounts
counts_with (got, (plt, (made, (zero_word, _)))) = if zero_word == 0 then Some (record { got = got; plt = plt; made = made }) else None

-- after all that the head counts
abbrev pub after_slots : List ℕ → After
after_slots bytes =
    let left = length bytes in
    after_then (after_rows left (record_width slot_forms) (num bytes 0 4) (drop (record_width slots_head_forms) bytes)) (λ entries.
    after_then (after_rows left (record_width entry_forms) (num bytes 4 4) entries) (λ made.
    after_rows left (record_width made_forms) (num bytes 8 4) made))

-- the owner of a slot: one of so many names, or a LOCAL symbol of one of so many inputs
abbrev pub owner_with : ℕ → ℕ → ℕ → ℕ → Option GotOwner
owner_with inputs names input number =
    if input == no_input then (if nat_lt number names then Some (owner.Global number) else None)
    else (if nat_lt input inputs then Some (owner.Local input number) else None)

abbrev pub key_with : ℕ → ℕ → Bool → ℕ → ℕ → Option (Option GotKey)
key_with inputs names thread_slot input number =
    option_map (λ (o : GotOwner). Some (record { owner = o; thread = thread_slot })) (owner_with inputs names input number)

-- a slot, which is all zeros where it is free
abbrev pub slot_with : ℕ → ℕ → Values slot_forms → Option (Option GotKey)
slot_with inputs names (kind, (input, (number, (zero_word, _)))) =
    if zero_word == 0 then
    (if kind == 0 then (if (input == 0) && (number == 0) then Some None else None)
    else (if kind == 1 then key_with inputs names false input number
    else (if kind == 2 then key_with inputs names true input number else None)))
    else None

-- an entry, of one of so many names
abbrev pub entry_with : ℕ → Values entry_forms → Option ℕ
entry_with names (n, _) = if nat_lt n names then Some n else None

-- what a common or a copy is, by its kind and its name, which is one of so many
abbrev pub made_piece_with : ℕ → ℕ → ℕ → Option PieceId
made_piece_with names kind name =
    if nat_lt name names then
    (if kind == 1 then Some (id.Common name) else (if kind == 2 then Some (id.Copy name) else None))
    else None

-- the number of the row of `.bss`
abbrev pub bss_number : List SectionRow → Option ℕ
bss_number rows = position (λ (row : SectionRow). same_key row.key (named (codes ".bss") Bss)) rows

abbrev pub made_with : List SectionRow → ℕ → Values made_forms → Option PieceRow
made_with rows names (kind, (name, (addr, (size, (align, _))))) =
    with_value (made_piece_with names kind name) (λ (p : PieceId).
    option_map (λ n. record { piece = p; section = n; addr = addr; size = size; align = align }) (bss_number rows))

-- whether a common or a copy may follow these placed pieces
unfoldable pub is_good_made : List SectionRow → List PieceRow → PieceRow → Bool
is_good_made rows before piece = is_field_power piece.align && is_good_place rows before piece

-- what the section holds: the slots and entries, and the rows of commons and copies
pub record ReadSlots : Type 0 where
  pub slots : SlotTable
  pub made : List PieceRow

module _ (texts : ℕ → Option (List ℕ)) (x : ReadInputs) (names : ℕ) where
  -- a common or a copy, after these, and after the pieces of the inputs
  abbrev pub checked_made : List PieceRow → List ℕ → Given PieceRow
  checked_made before bytes =
      read_record texts made_forms
      (λ vs. passing (is_good_made x.sections (flat_map rows_of_input x.inputs ++ before)) (made_with x.sections names vs))
      bytes

  abbrev pub checked_slots : List ℕ → Given ReadSlots
  checked_slots bytes =
      counted (after_slots bytes) bytes
      (given_then (read_record texts slots_head_forms counts_with bytes) (λ h after_head.
      given_then (read_many (read_record texts slot_forms (slot_with (length x.inputs) names)) h.got after_head) (λ got after_got.
      given_then (read_many (read_record texts entry_forms (entry_with names)) h.plt after_got) (λ plt after_plt.
      given_then (read_among checked_made [] h.made after_plt) (λ made rest.
      Ok (record { slots = record { got = got; plt = plt }; made = made }, rest))))))

-- the slots, commons and copies of a link of these inputs, with so many names
unfoldable pub slots_read : List ℕ → ReadInputs → ℕ → List ℕ → Result ReadSlots ℕ
slots_read strtab x names bytes = finished (checked_slots (text_at strtab) x names bytes)
