use Rattle.std.proofs.Common.{◌≡◌, ◌++◌, ◌≤◌, drop, fold, length}
use Rattle.std.specs.List.{AllByRecursion}
use Rattle.lk_model.specs.FullPlace.{tail_start}
use Rattle.lk_model.specs.Views.{Resolved}
use Rattle.lk_relocate.specs.ObjectTables.{AreCurrent}
use Rattle.lk_relocate.specs.Faults.{overflows}
use Rattle.lk_relocate.specs.Links.{IsLinkOf}
use Rattle.lk_relocate.specs.Places.{KnownPiece, with_piece}
use Rattle.lk_relocate.specs.References.{placed_references}
use Rattle.lk_relocate.proofs.linking.link_pieces.Given as goal

abbrev pub invariant-loop-piece : goal.invariant-loop-piece
invariant-loop-piece l = record {
  current : AreCurrent l.values l.objects l.tables;
  put : (r : Resolved) → IsLinkOf l.values r → AllByRecursion (KnownPiece l.objects r l.values.place) l.pieces → tail_start l.values.place ≤ length l.initial.image
      → fold (with_piece r l.values.place) l.image (drop l.piece-index l.pieces) ≡ fold (with_piece r l.values.place) l.initial.image l.pieces;
  reported : (r : Resolved) → IsLinkOf l.values r → AllByRecursion (KnownPiece l.objects r l.values.place) l.pieces
      → l.faults ++ overflows r l.values.place (placed_references r (drop l.piece-index l.pieces)) ≡ overflows r l.values.place (placed_references r l.pieces);
}
