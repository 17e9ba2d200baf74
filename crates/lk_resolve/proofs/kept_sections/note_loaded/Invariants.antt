use Rattle.std.proofs.Common.{◌≡◌, fold, drop}
use Rattle.std.specs.Str.{bytes_eq}
use Rattle.lk_model.specs.Numbered.{with_new}
use Rattle.lk_resolve.specs.LeftSections.{loaded_in}
use Rattle.lk_resolve.proofs.kept_sections.note_loaded.Given as goal

abbrev pub invariant-loop-piece : goal.invariant-loop-piece
invariant-loop-piece l = fold (with_new bytes_eq) l.loaded.keys (loaded_in l.left.keys (drop l.piece-index l.pieces)) ≡ fold (with_new bytes_eq) l.initial.loaded.keys (loaded_in l.left.keys l.pieces)
