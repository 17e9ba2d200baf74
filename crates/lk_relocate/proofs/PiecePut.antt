-- A placed piece is put into the file, or there is nothing to put.
use Rattle.std.proofs.Common.{◌≡◌, refl, sym, ap, subst, ◌∙◌, arith, ℕ, nat_eq, ◌+◌, ◌<◌, ◌≤◌, Bool, true, false, IsTrue, ◌||◌, List, [], ◌∷◌, ◌++◌, drop, fold, get_or, length, Option, None, Some}
use Rattle.std.proofs.lemmas.Bool.Decides.{nat_tests}
use Rattle.std.proofs.lemmas.List.{append-nil, append_assoc, drop_all, drop_more}
use Rattle.std.proofs.lemmas.List.Elements.{filter_map-append, recursion_from_All}
use Rattle.std.specs.List.{AllByRecursion}
use Rattle.lk_report.specs.declared.faults.Fault.{Fault}
use Rattle.lk_model.specs.declared.layouts.PieceId.{PieceId}
use Rattle.lk_model.specs.declared.layouts.PieceId.TheVariants as id
use Rattle.lk_model.specs.declared.layouts.PieceRow.{PieceRow}
use Rattle.lk_model.specs.declared.layouts.Placement.{Placement}
use Rattle.lk_model.specs.declared.summaries.PieceInfo.{PieceInfo}
use Rattle.lk_model.specs.Elf.{elf_of}
use Rattle.lk_model.specs.FullPlace.{tail_start}
use Rattle.lk_model.specs.Objects.{is_piece_in, relocations_in, summary_in}
use Rattle.lk_model.specs.Overflows.{overflow_of}
use Rattle.lk_model.specs.Views.{Elf, Ref, Resolved}
use Rattle.lk_obj_read.proofs.ObjectsStored.{pieces_reported}
use Rattle.lk_relocate.specs.Faults.{overflows}
use Rattle.lk_relocate.specs.ObjectsOfInputs.{IsObjectOf, object_in}
use Rattle.lk_relocate.specs.PieceLists.{is_listed}
use Rattle.lk_relocate.specs.Places.{KnownId, KnownPiece, KnownSection, with_piece}
use Rattle.lk_relocate.specs.References.{piece_references, placed_references, references_by}
use Rattle.lk_relocate.proofs.Lists.{all_at}
use Rattle.lk_relocate.proofs.PlacesReported.{references_are}

-- ---- pieces of an object

same_number : (s t : ℕ) → nat_eq s t ≡ true → s ≡ t
same_number s t e = grind (arith, nat_tests)

listed_piece : (elf : Elf) (s : ℕ) (ps : List PieceInfo) → AllByRecursion (λ (p : PieceInfo). IsTrue (is_piece_in elf p.section)) ps → is_listed s ps ≡ true → IsTrue (is_piece_in elf s)
listed_piece elf s [] all e = absurd (cc)
listed_piece elf s (p ∷ ps) all e = by (nat_eq s p.section) refl e (listed_piece elf s ps all.1)
  where
    by : (b : Bool) → nat_eq s p.section ≡ b → (b || is_listed s ps) ≡ true → (is_listed s ps ≡ true → IsTrue (is_piece_in elf s)) → IsTrue (is_piece_in elf s)
    by true is h later = subst (λ n. IsTrue (is_piece_in elf n)) (sym (same_number s p.section is)) all.0
    by false is h later = later h

pub piece_is : (bytes : List ℕ) (s : ℕ) → is_listed s (summary_in (elf_of bytes)).pieces ≡ true → IsTrue (is_piece_in (elf_of bytes) s)
piece_is bytes s there =
    let ps : List PieceInfo = (summary_in (elf_of bytes)).pieces in
    listed_piece (elf_of bytes) s ps
    (recursion_from_All (λ (p : PieceInfo). IsTrue (is_piece_in (elf_of bytes) p.section)) ps (pieces_reported bytes (summary_in (elf_of bytes)) refl))
    there

pub not_both : {A : Type 0} (a b : Bool) → a ≡ b → a ≡ false → b ≡ true → A
not_both a b e none there = absurd (let both : false ≡ true = sym none ∙ e ∙ there in cc)

-- the object of a known section
same_bytes : (xs ys : List ℕ) → Some xs ≡ Some ys → xs ≡ ys
same_bytes xs ys e = cc

pub known_object : (objects : List (Option (List ℕ))) (r : Resolved) (n s : ℕ) (bytes : List ℕ) → KnownSection objects r n s → Some bytes ≡ object_in objects n → IsObjectOf r.inputs n bytes
known_object objects r n s bytes k e = subst (IsObjectOf r.inputs n) (same_bytes k.bytes bytes (sym k.in_object ∙ sym e)) k.object

pub known_listed : (objects : List (Option (List ℕ))) (r : Resolved) (n s : ℕ) (bytes : List ℕ) → KnownSection objects r n s → Some bytes ≡ object_in objects n → is_listed s (summary_in (elf_of bytes)).pieces ≡ true
known_listed objects r n s bytes k e = subst (λ (b : List ℕ). is_listed s (summary_in (elf_of b)).pieces ≡ true) (same_bytes k.bytes bytes (sym k.in_object ∙ sym e)) k.listed

pub known_there : {A : Type 0} (objects : List (Option (List ℕ))) (r : Resolved) (n s : ℕ) → KnownSection objects r n s → None ≡ object_in objects n → A
known_there objects r n s k e = absurd (none (object_in objects n) (sym e) k.in_object)
  where
    none : (o : Option (List ℕ)) → o ≡ None → o ≡ Some k.bytes → ⊥
    none o is there = cc

-- the section of an input that a placed piece is
pub known_section : (objects : List (Option (List ℕ))) (r : Resolved) (place : Placement) (p : PieceRow) (n s : ℕ) → p.piece ≡ id.Section n s → KnownPiece objects r place p → KnownSection objects r n s
known_section objects r place p n s is known = subst (λ (q : PieceId). KnownId objects r q) is known.known

-- the faults of the section are those of the piece
pub section_reported : (r : Resolved) (place : Placement) (p : PieceId) (n s : ℕ) (bytes : List ℕ) (old new : List Fault) → p ≡ id.Section n s → IsObjectOf r.inputs n bytes
    → new ≡ old ++ overflows r place (references_by r n bytes s (relocations_in (elf_of bytes) s)) → new ≡ old ++ overflows r place (piece_references r p)
section_reported r place p n s bytes old new is o reported =
    reported
    ∙ ap (λ (refs : List Ref). old ++ overflows r place refs) (sym (references_are r n s bytes o))
    ∙ ap (λ (q : PieceId). old ++ overflows r place (piece_references r q)) (sym is)

-- ---- one piece after another

module _ (objects : List (Option (List ℕ))) (r : Resolved) (place : Placement) (ps : List PieceRow) (known : AllByRecursion (KnownPiece objects r place) ps) (n : ℕ) (d : PieceRow) (less : n < length ps) where
  here : KnownPiece objects r place (get_or ps n d)
  here = all_at (KnownPiece objects r place) ps n (get_or ps n d) (drop_more ps n d less) known

  pub put_next : (old new whole : List ℕ) → tail_start place ≤ length old → (KnownPiece objects r place (get_or ps n d) → tail_start place ≤ length old → new ≡ with_piece r place old (get_or ps n d)) → fold (with_piece r place) old (drop n ps) ≡ fold (with_piece r place) whole ps
      → fold (with_piece r place) new (drop (n + 1) ps) ≡ fold (with_piece r place) whole ps
  put_next old new whole within put so_far =
      ap (λ (image : List ℕ). fold (with_piece r place) image (drop (n + 1) ps)) (put here within)
      ∙ ap (λ (qs : List PieceRow). fold (with_piece r place) old qs) (sym (drop_more ps n d less))
      ∙ so_far

  pub reported_next : (old new first : List Fault) → (KnownPiece objects r place (get_or ps n d) → new ≡ old ++ overflows r place (piece_references r (get_or ps n d).piece)) → old ++ overflows r place (placed_references r (drop n ps)) ≡ first ++ overflows r place (placed_references r ps)
      → new ++ overflows r place (placed_references r (drop (n + 1) ps)) ≡ first ++ overflows r place (placed_references r ps)
  reported_next old new first reported so_far =
      ap (λ fs. fs ++ overflows r place (placed_references r (drop (n + 1) ps))) (reported here)
      ∙ append_assoc old (overflows r place (piece_references r (get_or ps n d).piece)) (overflows r place (placed_references r (drop (n + 1) ps)))
      ∙ ap (λ fs. old ++ fs) (sym (filter_map-append (overflow_of r place) (piece_references r (get_or ps n d).piece) (placed_references r (drop (n + 1) ps))))
      ∙ ap (λ (qs : List PieceRow). old ++ overflows r place (placed_references r qs)) (sym (drop_more ps n d less))
      ∙ so_far

pub put_all : (r : Resolved) (place : Placement) (new whole : List ℕ) (ps : List PieceRow) (n : ℕ) → length ps ≤ n → fold (with_piece r place) new (drop n ps) ≡ fold (with_piece r place) whole ps → new ≡ fold (with_piece r place) whole ps
put_all r place new whole ps n past so_far = ap (λ (qs : List PieceRow). fold (with_piece r place) new qs) (sym (drop_all n ps past)) ∙ so_far

pub reported_all : (r : Resolved) (place : Placement) (new first : List Fault) (ps : List PieceRow) (n : ℕ) → length ps ≤ n → new ++ overflows r place (placed_references r (drop n ps)) ≡ first ++ overflows r place (placed_references r ps) → new ≡ first ++ overflows r place (placed_references r ps)
reported_all r place new first ps n past so_far = sym (append-nil new) ∙ ap (λ (qs : List PieceRow). new ++ overflows r place (placed_references r qs)) (sym (drop_all n ps past)) ∙ so_far
