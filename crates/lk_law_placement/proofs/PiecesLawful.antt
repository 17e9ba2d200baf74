-- The full placement is lawful: each of a lawful placement's fields, put together.
use Rattle.std.specs.Prelude.{IsTrue}
use Rattle.lk_model.specs.FullPlace.{full_place}
use Rattle.lk_model.specs.Inputs.{inputs_of}
use Rattle.lk_model.specs.Lawful.{Lawful, entries_are, slots_are}
use Rattle.lk_model.specs.Links.{resolved_of}
use Rattle.lk_model.specs.Resolving.{resolve}
use Rattle.lk_model.specs.Views.{Resolved}
use Rattle.lk_model.proofs.FullRows.{full_addresses_share_nothing, full_offsets_share_nothing, full_places}
use Rattle.lk_model.proofs.InOrder.{full_is_ordered}
use Rattle.lk_model.proofs.PiecesPlaced.{full_in_section, full_kept}
use Rattle.lk_model.proofs.RowsReported.{full_sizes}
use Rattle.lk_model.proofs.TablesThere.{full_tables}
use Rattle.lk_law_placement.specs.LawfulPlaces.{CommandIsLawful, InputsAreLawful, SoundIsLawful}
use Rattle.lk_law_placement.specs.SoundPieces.{SoundPieces}
use Rattle.lk_law_placement.proofs.AlignmentsKept.{full_alignments}
use Rattle.lk_law_placement.proofs.HolesFilled.{full_fillable}
use Rattle.lk_law_placement.proofs.PiecesFit.{full_aligned, full_empties, full_end_is_free, full_in_room}
use Rattle.lk_law_placement.proofs.PiecesShare.{full_pieces_share_nothing}
use Rattle.lk_law_placement.proofs.RowKeysDistinct.{full_distinct}
use Rattle.lk_law_placement.proofs.RowKeysKnown.{full_no_other_tables}
use Rattle.lk_law_placement.proofs.Sequences.{full_sequences}
use Rattle.lk_law_placement.proofs.SlotsOnce.{entries_of_distinct, full_entries, full_slots, slots_of_distinct}
use Rattle.lk_law_placement.proofs.SoundInputsKept.{inputs_without_faults, pieces_of_sound_inputs}

-- sound pieces, and the slots and entries that are needed, each once
put_together :
    (r : Resolved)
    → SoundPieces r
    → IsTrue (slots_are r.needs.got (full_place r).slots.got)
    → IsTrue (entries_are r.needs.plt (full_place r).slots.plt)
    → Lawful r (full_place r)
unfolding full_place
put_together r sound slots entries = record {
  kept = full_kept r;
  slots = slots;
  entries = entries;
  in_section = full_in_section r;
  in_room = full_in_room r sound;
  aligned = full_aligned r sound;
  pieces_share_nothing = full_pieces_share_nothing r sound;
  fillable = full_fillable r sound (full_distinct r sound);
  empties = full_empties r sound;
  end_is_free = full_end_is_free r sound;
  sequences = full_sequences r;
  sizes = full_sizes r;
  tables = full_tables r;
  no_other_tables = full_no_other_tables r;
  alignments = full_alignments r;
  addresses_share_nothing = full_addresses_share_nothing r;
  offsets_share_nothing = full_offsets_share_nothing r;
  distinct = full_distinct r sound;
  ordered = full_is_ordered r;
  places = full_places r;
}

pub sound_is_lawful : SoundIsLawful
sound_is_lawful r sound slots entries = put_together r sound (slots_of_distinct r slots) (entries_of_distinct r entries)

pub inputs_are_lawful : InputsAreLawful
inputs_are_lawful options inputs sound = put_together (resolve options inputs) (pieces_of_sound_inputs options inputs sound) (full_slots options inputs) (full_entries options inputs)

pub command_is_lawful : CommandIsLawful
unfolding resolved_of
command_is_lawful command files none = inputs_are_lawful command.options (inputs_of command files) (inputs_without_faults command files none)
