-- The reading of `.gnu_incremental_inputs` with every refusal at its place (this project's own): the
-- records are read from left to right, each with the rows before it; the counts of a head are looked at
-- before what follows it.
use Rattle.std.specs.Prelude.{ℕ, List, [], ◌++◌, length, Option, Result, Ok, flat_map}
use Rattle.lk_model.specs.InputsCounts.{after_group, after_input, after_inputs}
use Rattle.lk_model.specs.InputsReading.{head_forms, head_with, section_forms, section_with, ReadPiece, piece_forms, piece_with, placed_rows, global_forms, global_with, read_group, input_forms, input_with, input_of, ReadInput, ReadInputs}
use Rattle.lk_model.specs.RecordForms.{Given, given_then, read_record, read_many}
use Rattle.lk_model.specs.RecordReaders.{passing, read_among, finished, counted}
use Rattle.lk_model.specs.RecordRefusals.{is_good_row, is_good_piece, is_good_global}
use Rattle.lk_model.specs.Texts.{text_at}
use Rattle.lk_model.specs.declared.layouts.PieceRow.{PieceRow}
use Rattle.lk_model.specs.declared.layouts.SectionRow.{SectionRow}
use Rattle.lk_model.specs.declared.summaries.Global.{Global}
use Rattle.lk_model.specs.declared.summaries.Group.{Group}

-- the rows of the kept pieces of an input
abbrev pub rows_of_input : ReadInput → List PieceRow
rows_of_input i = i.placed

module _ (texts : ℕ → Option (List ℕ)) where
  -- an output section, after these
  abbrev pub checked_row : List SectionRow → List ℕ → Given SectionRow
  checked_row before bytes = read_record texts section_forms (λ vs. passing (is_good_row before) (section_with vs)) bytes

  -- a piece of an input, after pieces of earlier inputs that are placed here, and these
  abbrev pub checked_piece : List SectionRow → List PieceRow → ℕ → List ReadPiece → List ℕ → Given ReadPiece
  checked_piece rows placed input before bytes =
      read_record texts piece_forms (λ vs. passing (is_good_piece rows (placed ++ placed_rows before) before) (piece_with rows input vs)) bytes

  -- a symbol of an input
  abbrev pub checked_global : List ℕ → Given Global
  checked_global bytes = read_record texts global_forms (λ vs. passing is_good_global (global_with vs)) bytes

  -- a group of an input
  abbrev pub checked_group : List ℕ → Given Group
  checked_group bytes = counted (after_group bytes) bytes (read_group texts bytes)

  -- an input, after these
  abbrev pub checked_input : List SectionRow → List ReadInput → List ℕ → Given ReadInput
  checked_input rows before bytes =
      counted (after_input bytes) bytes
      (given_then (read_record texts input_forms input_with bytes) (λ h after_head.
      given_then (read_among (checked_piece rows (flat_map rows_of_input before) (length before)) [] h.pieces after_head) (λ pieces after_pieces.
      given_then (read_many checked_global h.globals after_pieces) (λ globals after_globals.
      given_then (read_many checked_group h.groups after_globals) (λ groups rest.
      Ok (input_of h pieces globals groups, rest))))))

  -- the head, the output sections, the inputs
  abbrev pub checked_all : List ℕ → Given ReadInputs
  checked_all bytes =
      counted (after_inputs bytes) bytes
      (given_then (read_record texts head_forms head_with bytes) (λ h after_head.
      given_then (read_among checked_row [] h.sections after_head) (λ rows after_rows.
      given_then (read_among (checked_input rows) [] h.inputs after_rows) (λ inputs rest.
      Ok (record { options = h.options; sections = rows; inputs = inputs }, rest)))))

-- what the section of inputs holds, with the section of texts that its texts are in; or the number of
-- bytes left at its first bad place
unfoldable pub inputs_checked : List ℕ → List ℕ → Result ReadInputs ℕ
inputs_checked strtab bytes = finished (checked_all (text_at strtab) bytes)
