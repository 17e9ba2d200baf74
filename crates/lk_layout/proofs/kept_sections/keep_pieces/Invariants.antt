use Rattle.std.proofs.Common.{◌≡◌, fold, drop}
use Rattle.lk_layout.specs.Grouping.{with_piece}
use Rattle.lk_layout.specs.KeptIn.{kept_among}
use Rattle.lk_layout.proofs.kept_sections.keep_pieces.Given as goal

abbrev pub invariant-loop-piece : goal.invariant-loop-piece
invariant-loop-piece l =
    fold with_piece l.kept (kept_among l.resolution.kept l.input (drop l.piece-index l.pieces))
    ≡ fold with_piece l.initial.kept (kept_among l.resolution.kept l.input l.pieces)
