use Rattle.std.proofs.Common.{◌≡◌, refl, sym, ap, subst, arith, ◌∙◌, ◌≤◌, List, [], ◌++◌, fold, length}
use Rattle.std.specs.List.{AllByRecursion}
use Rattle.lk_model.specs.declared.layouts.PieceRow.{PieceRow}
use Rattle.lk_model.specs.declared.layouts.Placement.{Placement}
use Rattle.lk_model.specs.FullPlace.{tail_start}
use Rattle.lk_relocate.specs.Faults.{overflows}
use Rattle.lk_relocate.specs.Places.{KnownPiece, with_piece}
use Rattle.lk_relocate.specs.References.{placed_references}
use Rattle.lk_relocate.proofs.LinkReported.{faults_reported, pieces_known, stretches_reported}
use Rattle.lk_relocate.proofs.PiecePut.{put_all, put_next, reported_all, reported_next}
use Rattle.lk_relocate.proofs.linking.link_pieces.Goals as goal

pub loop-piece-init : goal.loop-piece-init
loop-piece-init c = record {
  current = c.none-tables.ensures c.args.values.now c.args.objects.now;
  put = λ r link known within. refl;
  reported = λ r link known. ap (λ fs. fs ++ overflows r c.args.values.now.place (placed_references r c.as_slice-pieces.result.now)) c.new-faults.ensures;
}

pub loop-piece-preserved : goal.loop-piece-preserved
loop-piece-preserved c =
    let objects = c.args.objects.now in
    let place = c.args.values.now.place in
    let ps = c.as_slice-pieces.result.now in
    record {
      current = c.in_ok-put_piece.ensures.current;
      put =
          λ r link known within.
          let fits : tail_start place ≤ length c.loop-piece.image = omega (arith, c.loop-piece.auto.image, within) in
          put_next objects r place ps known c.loop-piece.piece-index _ c.loop-piece-test.true c.loop-piece.image c.put_piece.new.image c.args.image.now fits
          (c.in_ok-put_piece.ensures.linked r link) (c.loop-piece.invariant.put r link known within);
      reported =
          λ r link known.
          reported_next objects r place ps known c.loop-piece.piece-index _ c.loop-piece-test.true c.loop-piece.faults c.put_piece.new.faults []
          (c.in_ok-put_piece.ensures.reported r link) (c.loop-piece.invariant.reported r link known);
    }

pub returns-clause-reported : goal.returns-clause-reported
returns-clause-reported c = λ r linked.
    let values = c.args.values.now in
    let objects = c.args.objects.now in
    let ps = c.as_slice-pieces.result.now in
    let pieces_are : ps ≡ values.place.pieces = c.as_slice-pieces.ensures ∙ ap (λ (p : Placement). p.pieces) c.placement.ensures in
    let known : AllByRecursion (KnownPiece objects r values.place) ps = subst (AllByRecursion (KnownPiece objects r values.place)) (sym pieces_are) (pieces_known values objects r linked) in
    faults_reported values objects r linked c.loop-piece.faults
    (reported_all r values.place c.loop-piece.faults [] ps c.loop-piece.piece-index c.loop-piece-test.false (c.loop-piece.invariant.reported r linked.link known)
    ∙ ap (λ (qs : List PieceRow). overflows r values.place (placed_references r qs)) pieces_are)

pub returns-clause-linked : goal.returns-clause-linked
returns-clause-linked c = λ r linked within none.
    let values = c.args.values.now in
    let objects = c.args.objects.now in
    let ps = c.as_slice-pieces.result.now in
    let pieces_are : ps ≡ values.place.pieces = c.as_slice-pieces.ensures ∙ ap (λ (p : Placement). p.pieces) c.placement.ensures in
    let known : AllByRecursion (KnownPiece objects r values.place) ps = subst (AllByRecursion (KnownPiece objects r values.place)) (sym pieces_are) (pieces_known values objects r linked) in
    stretches_reported values objects r linked c.loop-piece.faults c.args.image.now c.loop-piece.image
    (reported_all r values.place c.loop-piece.faults [] ps c.loop-piece.piece-index c.loop-piece-test.false (c.loop-piece.invariant.reported r linked.link known)
    ∙ ap (λ (qs : List PieceRow). overflows r values.place (placed_references r qs)) pieces_are)
    (put_all r values.place c.loop-piece.image c.args.image.now ps c.loop-piece.piece-index c.loop-piece-test.false (c.loop-piece.invariant.put r linked.link known within)
    ∙ ap (λ (qs : List PieceRow). fold (with_piece r values.place) c.args.image.now qs) pieces_are)
    none
