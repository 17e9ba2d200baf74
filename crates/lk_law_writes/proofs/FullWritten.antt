-- The image of a link made anew of inputs without a fault is laid out by writes.
use Rattle.std.specs.Prelude.{◌≡◌, ◌≤◌, ℕ, suc, Bool, true, false, List, [], ◌∷◌, Some, refl}
use Rattle.std.specs.List.{AllByRecursion, slice_get}
use Rattle.std.proofs.Common.{arith}
use Rattle.lk_model.specs.FullPlace.{full_place, pieces_in}
use Rattle.lk_model.specs.Images.{stretches_of}
use Rattle.lk_model.specs.Inputs.{inputs_of}
use Rattle.lk_model.specs.Links.{resolved_of}
use Rattle.lk_model.specs.Resolving.{resolve}
use Rattle.lk_model.specs.Rooms.{patched_end}
use Rattle.lk_model.specs.SectionKeys.{is_patched, is_table, least_of, reserved_of}
use Rattle.lk_model.specs.Tail.{tail_parts}
use Rattle.lk_model.specs.Views.{KeptPiece, Resolved}
use Rattle.lk_model.specs.declared.layouts.SectionRow.{SectionRow}
use Rattle.lk_model.proofs.PiecesApart.{patched_room_above}
use Rattle.lk_model.proofs.Rising.{all_map}
use Rattle.lk_law_placement.specs.SoundPieces.{SoundPiece, SoundPieces}
use Rattle.lk_law_placement.proofs.PiecesFit.{room_patched}
use Rattle.lk_law_placement.proofs.PiecesSections.{patched_is_no_table, row_of_pieces, unpatched_reserves}
use Rattle.lk_law_placement.proofs.SoundInputsKept.{inputs_without_faults, pieces_of_sound_inputs}
use Rattle.lk_law_loading.proofs.FullLoaded.{inputs_are_loadable}
use Rattle.lk_law_writes.specs.LaidLaws.{CommandIsWritten, InputsAreLayable}
use Rattle.lk_law_writes.proofs.LinkWritten.{groups_are_written}

-- the room of a row of a full placement has its reserved end
reserved_fits : (r : Resolved) → SoundPieces r → (number : ℕ) (row : SectionRow) → slice_get (full_place r).sections number ≡ Some row → reserved_of row.key ≤ row.room
reserved_fits r sound number row there = go (is_patched row.key) refl
  where
    go : (b : Bool) → is_patched row.key ≡ b → reserved_of row.key ≤ row.room
    go true e =
        let p = row_of_pieces r number row sound there (patched_is_no_table row.key e) in
        let room = room_patched r row p e in
        let above = patched_room_above r.options.patch (least_of row.key) (reserved_of row.key) (patched_end (least_of row.key) (pieces_in row.key r.kept)) in
        omega (arith, room, above)
    go false e = let none = unpatched_reserves row.key e in omega (arith, none)

-- what holds of each row by its number holds of all
of_each : (P : SectionRow → Type 0) (rows : List SectionRow) → ((n : ℕ) (row : SectionRow) → slice_get rows n ≡ Some row → P row) → AllByRecursion P rows
of_each P [] h = tt
of_each P (row ∷ rows) h = (h 0 row refl, of_each P rows (λ n w there. h (suc n) w there))

pub inputs_are_layable : InputsAreLayable
inputs_are_layable options inputs sound limits =
    let r = resolve options inputs in
    let pieces : SoundPieces r = pieces_of_sound_inputs options inputs sound in
    record {
      loadable = inputs_are_loadable options inputs sound limits;
      no_tables = all_map {Q = λ (kept : KeptPiece). is_table kept.key ≡ false} (λ (kept : KeptPiece) (s : SoundPiece kept). s.no_table) r.kept pieces;
      ends = of_each (λ (row : SectionRow). reserved_of row.key ≤ row.room) (full_place r).sections (reserved_fits r pieces);
    }

-- the image of a command
pub command_is_written : CommandIsWritten
unfolding stretches_of resolved_of
command_is_written command files zeros groups none limits static short same =
    let r = resolved_of command files in
    groups_are_written r (full_place r) (tail_parts r (full_place r)) zeros groups
    (inputs_are_layable command.options (inputs_of command files) (inputs_without_faults command files none) limits) static short same
