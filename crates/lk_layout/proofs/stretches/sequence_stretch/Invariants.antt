use Rattle.std.proofs.Common.{◌≡◌, ◌++◌, fold, drop}
use Rattle.lk_model.specs.Rooms.{sequence_end}
use Rattle.lk_layout.specs.Walked.{sequence_next, sequence_offsets}
use Rattle.lk_layout.proofs.stretches.sequence_stretch.Given as goal

abbrev pub invariant-loop-piece : goal.invariant-loop-piece
invariant-loop-piece l = record {
  offsets : l.offsets.items ++ sequence_offsets l.end (drop l.piece-index l.pieces) ≡ sequence_offsets 0 l.pieces;
  ends : fold sequence_next l.end (drop l.piece-index l.pieces) ≡ sequence_end l.pieces;
}
