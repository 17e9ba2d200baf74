-- The placed pieces of a lawful placement are known: each is kept by its object, and lies before the tail where the
-- file holds it.
use Rattle.std.proofs.Common.{◌≡◌, refl, sym, ap, subst, arith, ℕ, zero, suc, ◌+◌, ◌≤◌, Bool, true, false, cond, nat_le, ◌&&◌, IsTrue, List, [], ◌∷◌, ◌++◌, filter, flat_map, map, Option, None, Some, slice_get}
use Rattle.std.proofs.lemmas.Bool.{and_parts, both_ways}
use Rattle.std.proofs.lemmas.Bool.Decides.{nat_tests}
use Rattle.std.specs.List.{AllByRecursion}
use Rattle.lk_model.specs.declared.layouts.PieceId.{PieceId}
use Rattle.lk_model.specs.declared.layouts.PieceId.TheVariants as id
use Rattle.lk_model.specs.declared.layouts.PieceRow.{PieceRow}
use Rattle.lk_model.specs.declared.layouts.Placement.{Placement}
use Rattle.lk_model.specs.declared.layouts.SectionRow.{SectionRow}
use Rattle.lk_model.specs.FullPlace.{tail_start}
use Rattle.lk_model.specs.Lawful.{RowOf, as_kept, as_placed, row_passes}
use Rattle.lk_model.specs.SectionKeys.{in_file}
use Rattle.lk_model.specs.Views.{KeptPiece, Resolved}
use Rattle.lk_model.proofs.Rising.{all_of_map, below_greatest}
use Rattle.lk_relocate.specs.Places.{KnownId, KnownPiece, LiesInRow}
use Rattle.lk_relocate.specs.References.{piece_references, placed_references}
use Rattle.lk_relocate.proofs.KeptInObject.{StoredAs, KeptInObject}
use Rattle.lk_relocate.proofs.ReferencesOnce.{of_kept}

-- ---- rows end before the tail

all_unfiltered : {A : Type 0} (P : A → Type 0) (test : A → Bool) (xs : List A) → AllByRecursion P (filter test xs) → AllByRecursion (λ x. test x ≡ true → P x) xs
all_unfiltered P test [] all = tt
all_unfiltered {A} P test (x ∷ xs) all = go (test x) refl (all_unfiltered P test xs) all
  where
    go : (b : Bool) → test x ≡ b → (AllByRecursion P (filter test xs) → AllByRecursion (λ y. test y ≡ true → P y) xs) → AllByRecursion P (cond b (x ∷ filter test xs) (filter test xs))
        → AllByRecursion (λ y. test y ≡ true → P y) (x ∷ xs)
    go true e rest h = (λ passes. h.0, rest h.1)
    go false e rest h = (λ passes. absurd (both_ways (test x) e passes), rest h)

all_slice : {A : Type 0} (P : A → Type 0) (xs : List A) (n : ℕ) (x : A) → slice_get xs n ≡ Some x → AllByRecursion P xs → P x
all_slice P [] n x e all = absurd (cc)
all_slice P (y ∷ ys) zero x e all = let same : y ≡ x = cc in subst P same all.0
all_slice P (y ∷ ys) (suc n) x e all = all_slice P ys n x e all.1

abbrev EndsBefore : Placement → SectionRow → Type 0
EndsBefore place row = row.offset + row.room ≤ tail_start place

rows_end : (place : Placement) → AllByRecursion (λ (row : SectionRow). in_file row.key.class ≡ true → EndsBefore place row) place.sections
rows_end place =
    let in_object : List SectionRow = filter (λ (row : SectionRow). in_file row.key.class) place.sections in
    all_unfiltered (EndsBefore place) (λ (row : SectionRow). in_file row.key.class) place.sections
    (all_of_map (λ (row : SectionRow). row.offset + row.room) (λ n. n ≤ tail_start place) in_object (below_greatest (map (λ (row : SectionRow). row.offset + row.room) in_object)))

-- ---- pieces

le_of : (a b : ℕ) → nat_le a b ≡ true → a ≤ b
le_of a b e = grind (arith, nat_tests)

abbrev pub InRoom : Placement → PieceRow → Type 0
InRoom place p = RowOf place p (λ (row : SectionRow). nat_le row.addr p.addr && nat_le (p.addr + p.size) (row.addr + row.room))

lies : (place : Placement) (p : PieceRow) (o : Option SectionRow) → slice_get place.sections p.section ≡ o → IsTrue (row_passes (λ (row : SectionRow). nat_le row.addr p.addr && nat_le (p.addr + p.size) (row.addr + row.room)) o) → LiesInRow place p o
lies place p None e h = tt
lies place p (Some row) e h = λ in_object.
    let parts = and_parts (nat_le row.addr p.addr) (nat_le (p.addr + p.size) (row.addr + row.room)) h in
    let above : row.addr ≤ p.addr = le_of row.addr p.addr parts.0 in
    let inside : p.addr + p.size ≤ row.addr + row.room = le_of (p.addr + p.size) (row.addr + row.room) parts.1 in
    let ends : row.offset + row.room ≤ tail_start place = all_slice (λ (row : SectionRow). in_file row.key.class ≡ true → EndsBefore place row) place.sections p.section row e (rows_end place) in_object in
    (above, omega arith)

known_id : (objects : List (Option (List ℕ))) (r : Resolved) (k : KeptPiece) (p : PieceId) → StoredAs objects r k p → KnownId objects r p
known_id objects r k (id.Section n section) h = h.known
known_id objects r k (id.Common name) h = tt
known_id objects r k (id.Copy name) h = tt

first_same : {A : Type 0} (a b : A) (xs ys : List A) → a ∷ xs ≡ b ∷ ys → a ≡ b
first_same a b xs ys e = cc

rest_same : {A : Type 0} (a b : A) (xs ys : List A) → a ∷ xs ≡ b ∷ ys → xs ≡ ys
rest_same a b xs ys e = cc

-- what a placed piece has of its kept one
pub piece_same : (p : PieceRow) (k : KeptPiece) (ps : List PieceRow) (ks : List KeptPiece) → map as_placed (p ∷ ps) ≡ map as_kept (k ∷ ks) → p.piece ≡ k.piece
piece_same p k ps ks e = ap (λ (x : PieceId × ℕ × ℕ). x.0) (first_same (as_placed p) (as_kept k) (map as_placed ps) (map as_kept ks) e)

pub size_same : (p : PieceRow) (k : KeptPiece) (ps : List PieceRow) (ks : List KeptPiece) → map as_placed (p ∷ ps) ≡ map as_kept (k ∷ ks) → p.size ≡ k.size
size_same p k ps ks e = ap (λ (x : PieceId × ℕ × ℕ). x.1) (first_same (as_placed p) (as_kept k) (map as_placed ps) (map as_kept ks) e)

pub others_same : (p : PieceRow) (k : KeptPiece) (ps : List PieceRow) (ks : List KeptPiece) → map as_placed (p ∷ ps) ≡ map as_kept (k ∷ ks) → map as_placed ps ≡ map as_kept ks
others_same p k ps ks e = rest_same (as_placed p) (as_kept k) (map as_placed ps) (map as_kept ks) e

pub none_kept : {A : Type 0} (p : PieceRow) (ps : List PieceRow) → map as_placed (p ∷ ps) ≡ [] → A
none_kept p ps e = absurd (cc)

pub none_placed : {A : Type 0} (k : KeptPiece) (ks : List KeptPiece) → [] ≡ map as_kept (k ∷ ks) → A
none_placed k ks e = absurd (cc)

pub all_known : (objects : List (Option (List ℕ))) (r : Resolved) (place : Placement) (ps : List PieceRow) (ks : List KeptPiece) → map as_placed ps ≡ map as_kept ks → AllByRecursion (KeptInObject objects r) ks → AllByRecursion (InRoom place) ps → AllByRecursion (KnownPiece objects r place) ps
all_known objects r place [] ks e in_object room = tt
all_known objects r place (p ∷ ps) [] e in_object room = none_kept p ps e
all_known objects r place (p ∷ ps) (k ∷ ks) e in_object room =
    let known : KnownId objects r k.piece = known_id objects r k k.piece in_object.0.in_object in (
      record {
        known = subst (KnownId objects r) (sym (piece_same p k ps ks e)) known;
        lies = lies place p (slice_get place.sections p.section) refl room.0;
      },
      all_known objects r place ps ks (others_same p k ps ks e) in_object.1 room.1,
    )

-- the references of the placed pieces are those of the kept ones
pub placed_are_kept : (r : Resolved) (ps : List PieceRow) (ks : List KeptPiece) → map as_placed ps ≡ map as_kept ks → placed_references r ps ≡ flat_map (of_kept r) ks
placed_are_kept r [] [] e = refl
placed_are_kept r [] (k ∷ ks) e = none_placed k ks e
placed_are_kept r (p ∷ ps) [] e = none_kept p ps e
placed_are_kept r (p ∷ ps) (k ∷ ks) e =
    let first : p.piece ≡ k.piece = piece_same p k ps ks e in
    let rest : placed_references r ps ≡ flat_map (of_kept r) ks = placed_are_kept r ps ks (others_same p k ps ks e) in
    λ i. piece_references r (first i) ++ rest i
