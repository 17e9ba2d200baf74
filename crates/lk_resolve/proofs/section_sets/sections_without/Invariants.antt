use Rattle.std.proofs.Common.{◌≡◌, nat_eq, fold, drop}
use Rattle.lk_model.specs.Numbered.{distinct, with_new}
use Rattle.lk_resolve.specs.LeftSections.{sections_without}
use Rattle.lk_resolve.proofs.section_sets.sections_without.Given as goal

abbrev pub invariant-loop-piece : goal.invariant-loop-piece
invariant-loop-piece l = fold (with_new nat_eq) l.left.keys (sections_without l.dropped.keys (drop l.piece-index l.pieces)) ≡ distinct nat_eq (sections_without l.dropped.keys l.pieces)
