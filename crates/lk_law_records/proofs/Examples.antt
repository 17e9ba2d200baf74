-- A link of an object and of a lib group can be recorded, and its image, read back, reports its placement: of
-- the group the member that defines the wanted name is added, and the other one is recorded without places.
use Rattle.std.specs.Prelude.{◌≡◌, refl, ℕ, ◌+◌, ◌^◌, ◌<◌, nat_lt, length, false, true, List, [], ◌∷◌, codes, Some, None}
use Rattle.std.specs.List.{AllByRecursion, IsDistinct}
use Rattle.std.proofs.Common.{arith}
use Rattle.std.proofs.lemmas.Bool.{ltb-true}
use Rattle.lk_elf.specs.Fields.{bytes_of, num, number_of, signed64, unsigned64}
use Rattle.lk_elf.specs.Records.{ehdr_at, ehdr_bytes, phdr_bytes, shdr_at, shdr_bytes}
use Rattle.lk_report.specs.declared.causes.OptionRecord.{OptionRecord}
use Rattle.lk_model.specs.Adding.{added_inputs}
use Rattle.lk_model.specs.DynamicSizes.{dynamic_table_sizes}
use Rattle.lk_model.specs.Elf.{elf_of, elf_under, elf_with, name_at, section_headers_of, section_name, symbols_of}
use Rattle.lk_model.specs.FileHeader.{file_header, header_bytes}
use Rattle.lk_model.specs.Finding.{found_of}
use Rattle.lk_model.specs.FullPlace.{extent_of, full_place, piece_rows, rows_of}
use Rattle.lk_model.specs.Holes.{fill_bytes, hole_bytes, holes_of}
use Rattle.lk_model.specs.Images.{image_of, stretches_of}
use Rattle.lk_model.specs.InputsReading.{inputs_read}
use Rattle.lk_model.specs.InputsSection.{inputs_fields}
use Rattle.lk_model.specs.LinkedBytes.{linked_bytes}
use Rattle.lk_model.specs.NeedsOf.{needs_of}
use Rattle.lk_model.specs.Objects.{piece_bytes_in, relas_under, relocations_in}
use Rattle.lk_model.specs.Pieces.{common_names, output_name}
use Rattle.lk_model.specs.RecordFields.{spelled}
use Rattle.lk_model.specs.RecordedPlace.{recorded_place, records_in}
use Rattle.lk_model.specs.RecordsOf.{records_of}
use Rattle.lk_model.specs.Resolving.{resolve}
use Rattle.lk_model.specs.Rooms.{patched_room, room_of, step_to}
use Rattle.lk_model.specs.SectionKeys.{fill_kind, header_type, is_patched}
use Rattle.lk_model.specs.SectionOrder.{in_order, section_keys, section_rank, table_sizes}
use Rattle.lk_model.specs.Segments.{program_headers, second_segment_end, third_segment_end, tls_segment}
use Rattle.lk_model.specs.Stretches.{laid_out}
use Rattle.lk_model.specs.Tables.{table_of_key}
use Rattle.lk_model.specs.Tail.{record_parts, section_headers, tail_parts}
use Rattle.lk_model.specs.Texts.{table_bytes}
use Rattle.lk_model.specs.Views.{Input}
use Rattle.lk_model.specs.Winners.{winner_of}
use Rattle.lk_model.specs.declared.commands.Mark.TheVariants as mark
use Rattle.lk_model.specs.declared.layouts.Class.{Class}
use Rattle.lk_model.specs.declared.layouts.Class.TheVariants.{W, X}
use Rattle.lk_model.specs.declared.layouts.SectionRow.{SectionRow}
use Rattle.lk_model.specs.declared.summaries.Global.{Global}
use Rattle.lk_model.specs.declared.summaries.Home.{Home}
use Rattle.lk_model.specs.declared.summaries.Home.TheVariants as home
use Rattle.lk_model.specs.declared.summaries.Kind.TheVariants as kind
use Rattle.lk_model.specs.declared.summaries.PieceInfo.{PieceInfo}
use Rattle.lk_law_records.specs.Recordable.{GlobalFits, HomeFits, InputFits, IsRecordable, PieceFits, RowFits, has_zero, is_record_name}

abbrev options : OptionRecord
options = record { entry = codes "_start"; interp = []; runpath = []; patch = 10; export_dynamic = false; dynamic = false }

-- section 1
abbrev piece : List ℕ → Class → ℕ → PieceInfo
piece name class size = record { section = 1; name = name; key = record { name = name; class = class }; size = size; align = 16; terminator = false }

-- symbol k, which is GLOBAL
abbrev global : ℕ → List ℕ → Home → Global
global k name at = record { symbol = k; name = name; binding = 1; code = 0; visibility = 0; home = at; value = 0; size = 0 }

abbrev input : List ℕ → ℕ → PieceInfo → List Global → Input
input path lib p globals = record {
  path = path;
  occurrence = 0;
  lib = lib;
  mark = mark.Unknown;
  stamp = None;
  elf = elf_of [];
  summary = record { kind = kind.Object; soname = []; exec_stack = false; pieces = p ∷ []; globals = globals; groups = [] };
}

-- the object refers to `f`, which the second member of the group defines
abbrev inputs : List Input
inputs =
    input (codes "a.o") 0 (piece (codes ".text") X 0) (global 1 (codes "_start") (home.Section 1) ∷ global 2 (codes "f") home.Undefined ∷ [])
    ∷ input (codes "b.o") 1 (piece (codes ".data") W 0) (global 1 (codes "g") (home.Section 1) ∷ [])
    ∷ input (codes "c.o") 1 (piece (codes ".text") X 0) (global 1 (codes "f") (home.Section 1) ∷ []) ∷ []

added : (resolve options inputs).added ≡ 0 ∷ 2 ∷ []
unfolding resolve found_of added_inputs
added = refl

-- its image, read back, reports its placement
read-back : recorded_place (resolve options inputs) (image_of (resolve options inputs) (full_place (resolve options inputs))) ≡ Some (full_place (resolve options inputs))
unfolding number_of bytes_of num signed64 unsigned64 ehdr_at ehdr_bytes shdr_at shdr_bytes phdr_bytes added_inputs dynamic_table_sizes elf_of elf_under elf_with name_at section_headers_of section_name symbols_of file_header header_bytes found_of extent_of full_place piece_rows rows_of fill_bytes hole_bytes holes_of image_of stretches_of inputs_read inputs_fields linked_bytes needs_of piece_bytes_in relas_under relocations_in common_names output_name spelled recorded_place records_in records_of resolve patched_room room_of step_to fill_kind header_type is_patched in_order section_keys section_rank table_sizes program_headers second_segment_end third_segment_end tls_segment laid_out table_of_key record_parts section_headers tail_parts table_bytes winner_of
read-back = refl

-- and it can be recorded
global-fits : (k : ℕ) (name : List ℕ) (at : Home) → k < 2 ^ 32 → has_zero name ≡ false → HomeFits at → GlobalFits (global k name at)
global-fits k name at few clean home = record {
  symbol = few;
  name = clean;
  binding = omega arith;
  code = omega arith;
  visibility = omega arith;
  home = home;
  value = omega arith;
  size = omega arith;
}

piece-fits : (name : List ℕ) (class : Class) → has_zero name ≡ false → name ≡ output_name class name → PieceFits (piece name class 0)
piece-fits name class clean own = record { section = omega arith; name = clean; key = own; size = omega arith; align = omega arith }

input-fits : (path : List ℕ) (lib : ℕ) (p : PieceInfo) (globals : List Global) → has_zero path ≡ false → lib < 2 ^ 32 → PieceFits p → length globals < 2 ^ 32 → AllByRecursion GlobalFits globals → InputFits (input path lib p globals)
unfolding IsDistinct
input-fits path lib p globals clean few own count all = record {
  path = clean;
  occurrence = omega arith;
  lib = few;
  stamp = tt;
  summary = record {
    soname = refl;
    piece_count = omega arith;
    pieces = (own, tt);
    sections = (tt, tt);
    global_count = count;
    globals = all;
    group_count = omega arith;
    groups = tt;
  };
}

inputs-fit : AllByRecursion InputFits inputs
unfolding output_name common_names
inputs-fit = (
  input-fits (codes "a.o") 0 (piece (codes ".text") X 0) (global 1 (codes "_start") (home.Section 1) ∷ global 2 (codes "f") home.Undefined ∷ []) refl (omega arith)
      (piece-fits (codes ".text") X refl refl) (omega arith)
      (global-fits 1 (codes "_start") (home.Section 1) (omega arith) refl (omega arith), (global-fits 2 (codes "f") home.Undefined (omega arith) refl tt, tt)),
  (
    input-fits (codes "b.o") 1 (piece (codes ".data") W 0) (global 1 (codes "g") (home.Section 1) ∷ []) refl (omega arith)
        (piece-fits (codes ".data") W refl refl) (omega arith) (global-fits 1 (codes "g") (home.Section 1) (omega arith) refl (omega arith), tt),
    (
      input-fits (codes "c.o") 1 (piece (codes ".text") X 0) (global 1 (codes "f") (home.Section 1) ∷ []) refl (omega arith)
          (piece-fits (codes ".text") X refl refl) (omega arith) (global-fits 1 (codes "f") (home.Section 1) (omega arith) refl (omega arith), tt),
      tt,
    ),
  ),
)

row-fits : (row : SectionRow) → has_zero row.key.name ≡ false → is_record_name row.key.name ≡ false → nat_lt (row.addr + row.offset + row.size + row.room + row.align) (2 ^ 64) ≡ true → RowFits row
row-fits row clean other test =
    let small = ltb-true (row.addr + row.offset + row.size + row.room + row.align) (2 ^ 64) test in
    record {
      name = clean;
      other = other;
      addr = omega (arith, small);
      offset = omega (arith, small);
      size = omega (arith, small);
      room = omega (arith, small);
      align = omega (arith, small);
    }

recordable : IsRecordable (resolve options inputs) (full_place (resolve options inputs))
unfolding number_of bytes_of num ehdr_at shdr_at section_headers_of symbols_of added_inputs dynamic_table_sizes elf_of elf_under elf_with found_of extent_of full_place piece_rows rows_of inputs_fields needs_of relas_under relocations_in common_names output_name spelled records_of resolve patched_room room_of step_to is_patched in_order section_keys section_rank table_sizes record_parts section_headers tail_parts table_bytes winner_of
recordable = record {
  options = record { entry = refl; interp = refl; runpath = refl; patch = omega arith };
  input_count = omega arith;
  inputs = inputs-fit;
  section_count = omega arith;
  sections = (row-fits _ refl refl refl, (row-fits _ refl refl refl, (row-fits _ refl refl refl, tt)));
  pieces = (ltb-true _ (2 ^ 64) refl, (ltb-true _ (2 ^ 64) refl, tt));
  image = ltb-true _ (2 ^ 32) refl;
}
