use Rattle.std.proofs.Common.{◌≡◌, ◌++◌, fold, drop}
use Rattle.lk_model.specs.Rooms.{patched_end, patched_next}
use Rattle.lk_layout.specs.Walked.{patched_offsets}
use Rattle.lk_layout.proofs.stretches.patched_stretch.Given as goal

abbrev pub invariant-loop-piece : goal.invariant-loop-piece
invariant-loop-piece l = record {
  offsets : l.offsets.items ++ patched_offsets l.least l.end (drop l.piece-index l.pieces) ≡ patched_offsets l.least 0 l.pieces;
  ends : fold (patched_next l.least) l.end (drop l.piece-index l.pieces) ≡ patched_end l.least l.pieces;
}
