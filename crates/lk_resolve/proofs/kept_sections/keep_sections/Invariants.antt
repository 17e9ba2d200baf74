use Rattle.std.proofs.Common.{◌≡◌, fold, drop}
use Rattle.lk_model.specs.Numbered.{with_new}
use Rattle.lk_resolve.specs.LeftSections.{is_same_place, places_in}
use Rattle.lk_resolve.proofs.kept_sections.keep_sections.Given as goal

abbrev pub invariant-loop-piece : goal.invariant-loop-piece
invariant-loop-piece l = fold (with_new is_same_place) l.kept.keys (places_in l.left.keys l.input (drop l.piece-index l.pieces)) ≡ fold (with_new is_same_place) l.initial.kept.keys (places_in l.left.keys l.input l.pieces)
