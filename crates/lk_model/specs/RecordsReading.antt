-- The five record sections of an image read as records, or why not (this project's own): another
-- version, else the first bad place, by section and then by offset.
use Rattle.std.specs.Prelude.{ℕ, ◌-◌, ◌==◌, ◌&&◌, not, Bool, List, ◌++◌, length, map, filter, Result, Ok, Err, nat_le, if◌then◌else◌}
use Rattle.std.specs.List.{flat_map, range_with_len}
use Rattle.lk_elf.specs.Fields.{num}
use Rattle.lk_model.specs.CheckedInputs.{inputs_checked}
use Rattle.lk_model.specs.InputsReading.{ReadInput, ReadInputs}
use Rattle.lk_model.specs.NamesReading.{names_read}
use Rattle.lk_model.specs.Numbered.{is_number_in}
use Rattle.lk_model.specs.RecordedPlace.{recorded_order, placed_of}
use Rattle.lk_model.specs.RecordsOf.{records_version}
use Rattle.lk_model.specs.ReferencesReading.{reference_total, references_read}
use Rattle.lk_model.specs.SlotsReading.{ReadSlots, slots_read}
use Rattle.lk_model.specs.TextsReading.{texts_read}
use Rattle.lk_model.specs.declared.layouts.PieceRow.{PieceRow}
use Rattle.lk_model.specs.declared.records.Five.{Five}
use Rattle.lk_model.specs.declared.records.InputRecord.{InputRecord}
use Rattle.lk_model.specs.declared.records.NameRow.{NameRow}
use Rattle.lk_model.specs.declared.records.RecordFault.{RecordFault}
use Rattle.lk_model.specs.declared.records.RecordFault.TheVariants.{Bad, Version}
use Rattle.lk_model.specs.declared.records.Records.{Records}
use Rattle.lk_model.specs.declared.records.Reference.{Reference}

module _ {X : Type 0} where
  -- what a section of a number and its bytes holds, or the offset of its first bad place
  abbrev pub in_section : ℕ → List ℕ → Result X ℕ → Result X RecordFault
  in_section number bytes (Ok x) = Ok x
  in_section number bytes (Err left) = Err (Bad number (length bytes - left))

module _ {A B : Type 0} where
  -- one section after another
  abbrev pub read_then : Result A RecordFault → (A → Result B RecordFault) → Result B RecordFault
  read_then (Err fault) f = Err fault
  read_then (Ok x) f = f x

-- the inputs in the order of their placed pieces: those that are added, in adding order, then the others
abbrev pub placing_order : ReadInputs → List ℕ
placing_order x =
    let added = recorded_order x in
    added ++ filter (λ n. not (is_number_in added n)) (range_with_len 0 (length x.inputs))

-- the rows of all placed pieces: those of inputs, then commons and copies
abbrev pub placed_rows_of : ReadInputs → List PieceRow → List PieceRow
placed_rows_of x made = flat_map (placed_of x) (placing_order x) ++ made

abbrev pub record_of_input : ReadInput → InputRecord
record_of_input i = i.record_of

-- the records that the sections hold
unfoldable pub records_with : ReadInputs → List NameRow → List Reference → ReadSlots → Records
records_with x names references slots = record {
  version = records_version;
  options = x.options;
  inputs = map record_of_input x.inputs;
  names = names;
  references = references;
  placement = record { sections = x.sections; pieces = placed_rows_of x slots.made; slots = slots.slots };
}

-- the five sections, where the version is this one
unfoldable pub reads_this_version : Five → Result Records RecordFault
reads_this_version five =
    read_then (in_section 0 five.inputs (inputs_checked five.strtab five.inputs)) (λ x.
    read_then (in_section 1 five.symtab (names_read five.strtab (length x.inputs) (reference_total five.relocs) five.symtab)) (λ names.
    read_then (in_section 2 five.relocs (references_read five.strtab x.inputs names five.relocs)) (λ references.
    read_then (in_section 3 five.got_plt (slots_read five.strtab x (length names) five.got_plt)) (λ slots.
    read_then (in_section 4 five.strtab (texts_read five.strtab)) (λ texts.
    Ok (records_with x names references slots))))))

-- whether the sections have a version, and it is another one
abbrev pub is_other_version : Five → Bool
is_other_version five = nat_le 4 (length five.inputs) && not (num five.inputs 0 4 == records_version)

-- the records that the five sections are, or why they are none
unfoldable pub reads : Five → Result Records RecordFault
reads five =
    if is_other_version five then Err (Version (num five.inputs 0 4))
    else reads_this_version five
