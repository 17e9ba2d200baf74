-- What is reported of all placed pieces of a link is lk_model's: its faults, and the stretches of its kept pieces.
use Rattle.std.proofs.Common.{◌≡◌, sym, ap, subst, ◌∙◌, ℕ, List, [], flat_map, fold, Option}
use Rattle.std.specs.List.{AllByRecursion}
use Rattle.lk_report.specs.declared.causes.OptionRecord.{OptionRecord}
use Rattle.lk_report.specs.declared.faults.Fault.{Fault}
use Rattle.lk_model.specs.Overflows.{overflow_faults}
use Rattle.lk_model.specs.Resolving.{resolve}
use Rattle.lk_model.specs.Views.{Input, Resolved}
use Rattle.lk_model.proofs.Finding.{references-resolve}
use Rattle.lk_symbol_values.specs.SymbolNumbering.{ValueInputs}
use Rattle.lk_relocate.specs.Faults.{overflows}
use Rattle.lk_relocate.specs.ObjectsOfInputs.{HoldsObject}
use Rattle.lk_relocate.specs.Links.{IsLinked}
use Rattle.lk_relocate.specs.Places.{KnownPiece, with_piece}
use Rattle.lk_relocate.specs.References.{placed_references}
use Rattle.lk_relocate.specs.Written.{piece_stretches, written}
use Rattle.lk_relocate.proofs.AllWritten.{all_fit, faults_are, pieces_written}
use Rattle.lk_relocate.proofs.KeptInObject.{KeptInObject, kept_stored}
use Rattle.lk_relocate.proofs.PlacedPieces.{all_known, placed_are_kept}
use Rattle.lk_relocate.proofs.ReferencesOnce.{of_kept, references_by_kept}

resolved_references : (options : OptionRecord) (xs : List Input) → (resolve options xs).references ≡ flat_map (of_kept (resolve options xs)) (resolve options xs).kept
unfolding resolve
resolved_references options xs = references-resolve options xs ∙ references_by_kept (resolve options xs) (resolve options xs).kept

module _ (known : ValueInputs) (objects : List (Option (List ℕ))) (r : Resolved) (linked : IsLinked known objects r) where
  in_object : AllByRecursion (KeptInObject objects r) r.kept
  in_object =
      let link = linked.link in
      subst (λ (x : Resolved). AllByRecursion (KeptInObject objects x) x.kept) (sym link.resolved)
      (kept_stored objects link.options link.inputs
      (subst (λ (x : Resolved). AllByRecursion (HoldsObject objects x.inputs) x.added) link.resolved linked.objects_are))

  references_are : r.references ≡ flat_map (of_kept r) r.kept
  references_are =
      let link = linked.link in
      subst (λ (x : Resolved). x.references ≡ flat_map (of_kept x) x.kept) (sym link.resolved) (resolved_references link.options link.inputs)

  -- each placed piece is known
  pub pieces_known : AllByRecursion (KnownPiece objects r known.place) known.place.pieces
  pieces_known = all_known objects r known.place known.place.pieces r.kept linked.link.lawful.kept in_object linked.link.lawful.in_room

  -- the faults of the placed pieces are those of the link
  pub faults_reported : (faults : List Fault) → faults ≡ overflows r known.place (placed_references r known.place.pieces) → faults ≡ overflow_faults r known.place
  faults_reported faults e =
      e
      ∙ ap (overflows r known.place) (placed_are_kept r known.place.pieces r.kept linked.link.lawful.kept ∙ sym references_are)
      ∙ faults_are r known.place

  -- where there are none, the stretches of the kept pieces are written
  pub stretches_reported : (faults : List Fault) (old new : List ℕ) → faults ≡ overflows r known.place (placed_references r known.place.pieces) → new ≡ fold (with_piece r known.place) old known.place.pieces → faults ≡ [] → new ≡ written old (piece_stretches r known.place)
  stretches_reported faults old new e put none =
      let same : overflows r known.place r.references ≡ overflows r known.place (placed_references r known.place.pieces) = ap (overflows r known.place) (references_are ∙ sym (placed_are_kept r known.place.pieces r.kept linked.link.lawful.kept)) in
      put ∙ pieces_written objects r known.place old known.place.pieces r.kept linked.link.lawful.kept in_object (all_fit r known.place r.references (same ∙ sym e ∙ none))
