-- The placement that an image records (this project's own): the rows of its output sections and the
-- address of each piece of an added input, as its record sections are read. What the two record
-- sections of the first form do not hold, the places of commons and copies and the GOT and PLT slots,
-- is that of the full placement.
use Rattle.std.specs.Prelude.{ℕ, ◌==◌, Bool, true, false, List, [], ◌∷◌, ◌++◌, map, filter, fold, Option, Some, None, slice_get, codes, if◌then◌else◌}
use Rattle.std.specs.List.{flat_map, enumerate_from}
use Rattle.std.specs.Result.{result_ok}
use Rattle.std.specs.Str.{bytes_eq}
use Rattle.lk_elf.specs.declared.section_header.Shdr.{Shdr}
use Rattle.lk_elf.specs.Numbers.{sht_progbits}
use Rattle.lk_model.specs.Adding.{items_among, with_item, numbers_in}
use Rattle.lk_model.specs.Elf.{elf_of, section_name, bytes_under}
use Rattle.lk_model.specs.FullPlace.{full_place}
use Rattle.lk_model.specs.InputsReading.{ReadInputs, ReadInput, inputs_read, with_value}
use Rattle.lk_model.specs.Numbered.{Numbered}
use Rattle.lk_model.specs.Views.{Resolved, Elf}
use Rattle.lk_model.specs.declared.layouts.PieceId.TheVariants as id
use Rattle.lk_model.specs.declared.layouts.PieceRow.{PieceRow}
use Rattle.lk_model.specs.declared.layouts.Placement.{Placement}

-- whether a section of a file has a name
abbrev pub has_name : List ℕ → Option (List ℕ) → Bool
has_name name None = false
has_name name (Some other) = bytes_eq name other

abbrev pub is_named_section : Elf → List ℕ → ℕ × Shdr → Bool
is_named_section elf name (n, h) = has_name name (section_name elf n)

-- the bytes of the one PROGBITS section of a name
abbrev pub only_bytes : Elf → List (ℕ × Shdr) → Option (List ℕ)
only_bytes elf [] = None
only_bytes elf ((n, h) ∷ []) = if h.sh_type == sht_progbits then Some (bytes_under elf h) else None
only_bytes elf (a ∷ b ∷ more) = None

abbrev pub named_bytes : Elf → List ℕ → Option (List ℕ)
named_bytes elf name = only_bytes elf (filter (is_named_section elf name) (enumerate_from 0 elf.sections))

-- what the record sections of an image hold
unfoldable pub records_in : List ℕ → Option ReadInputs
records_in image =
    let elf = elf_of image in
    with_value (named_bytes elf (codes ".gnu_incremental_inputs")) (λ inputs.
    with_value (named_bytes elf (codes ".gnu_incremental_strtab")) (λ texts.
    result_ok (inputs_read inputs texts)))

-- the adding order of recorded inputs, found anew by the rule for lib groups
abbrev pub numbered_inputs : ℕ × ReadInput → ℕ × Numbered
numbered_inputs (n, i) = (i.record_of.lib, record { number = n; summary = i.record_of.summary })

abbrev pub recorded_order : ReadInputs → List ℕ
recorded_order x =
    numbers_in (fold (with_item x.options.entry) [] (items_among (map numbered_inputs (enumerate_from 0 x.inputs))))

-- the rows of the pieces of an input
abbrev pub placed_of : ReadInputs → ℕ → List PieceRow
placed_of x n = elim (slice_get x.inputs n) [ None ↦ [] | Some i ↦ i.placed ]

-- the rows of commons and copies
abbrev pub is_made_piece : PieceRow → Bool
is_made_piece row = elim row.piece [ id.Section i s ↦ false | id.Common n ↦ true | id.Copy n ↦ true ]

unfoldable pub recorded_place : Resolved → List ℕ → Option Placement
recorded_place r image =
    with_value (records_in image) (λ x.
    let full = full_place r in
    Some (record {
      sections = x.sections;
      pieces = flat_map (placed_of x) (recorded_order x) ++ filter is_made_piece full.pieces;
      slots = full.slots;
    }))
