-- The bytes of the pieces that the file holds are in the image.
use Rattle.std.specs.Prelude.{◌≡◌, ℕ, zero, suc, true, List, [], ◌∷◌, ◌++◌, ◌+◌, ◌<◌, Some, drop, filter, flat_map, get_or, length, map, slice_index, zip}
use Rattle.std.specs.List.{AllByRecursion, enumerate_from, slice_get}
use Rattle.std.proofs.Common.{ap, arith, get_or-drop, get_or-take, subst, sym, ◌∙◌}
use Rattle.lk_elf.specs.Records.{shdr_bytes}
use Rattle.lk_model.specs.FileHeader.{header_bytes}
use Rattle.lk_model.specs.FullPlace.{tail_start}
use Rattle.lk_model.specs.Holes.{holes_of}
use Rattle.lk_model.specs.Images.{end_stretches, hole_stretch, is_in_row, part_stretch, piece_stretch, row_stretches, seal, seal_offset, stretch, stretches_with, table_stretches}
use Rattle.lk_model.specs.SectionKeys.{in_file}
use Rattle.lk_model.specs.Stretches.{AllAreAt, IsAt, Stretch}
use Rattle.lk_model.specs.Tail.{Part, headers_offset, parts_from, section_headers}
use Rattle.lk_model.specs.Views.{KeptPiece, Resolved}
use Rattle.lk_model.specs.declared.layouts.PieceRow.{PieceRow}
use Rattle.lk_model.specs.declared.layouts.Placement.{Placement}
use Rattle.lk_model.specs.declared.layouts.SectionRow.{SectionRow}
use Rattle.lk_law_loading.proofs.Greatest.{all_unfiltered}
use Rattle.lk_law_loading.proofs.PairsInOrder.{all_for}

-- ---- stretches in an image

are_at_front : (image : List ℕ) (xs ys : List Stretch) → AllAreAt image (xs ++ ys) → AllAreAt image xs
are_at_front image [] ys all = tt
are_at_front image (x ∷ xs) ys all = (all.0, are_at_front image xs ys all.1)

are_at_mapped : {A : Type 0} (f : A → Stretch) (image : List ℕ) (xs : List A) → AllAreAt image (map f xs) → AllByRecursion (λ x. IsAt image (f x)) xs
are_at_mapped f image [] all = tt
are_at_mapped f image (x ∷ xs) all = (all.0, are_at_mapped f image xs all.1)

are_at_back : (image : List ℕ) (xs ys : List Stretch) → AllAreAt image (xs ++ ys) → AllAreAt image ys
are_at_back image [] ys all = all
are_at_back image (x ∷ xs) ys all = are_at_back image xs ys all.1

are_at_flat : {A : Type 0} (f : A → List Stretch) (image : List ℕ) (xs : List A) → AllAreAt image (flat_map f xs) → AllByRecursion (λ x. AllAreAt image (f x)) xs
are_at_flat f image [] all = tt
are_at_flat f image (x ∷ xs) all = (are_at_front image (f x) (flat_map f xs) all, are_at_flat f image xs (are_at_back image (f x) (flat_map f xs) all))

-- what holds of numbered items holds of one by its number
numbered_from : {A : Type 0} (P : ℕ × A → Type 0) (i : ℕ) (xs : List A) (n : ℕ) (x : A) → slice_get xs n ≡ Some x → AllByRecursion P (enumerate_from i xs) → P (i + n, x)
numbered_from P i [] n x there all = absurd (cc)
numbered_from P i (y ∷ xs) zero x there all =
    let same : y ≡ x = cc in
    let number : i ≡ i + 0 = omega arith in
    subst (λ (k : ℕ). P (k, x)) number (subst (λ z. P (i, z)) same all.0)
numbered_from P i (y ∷ xs) (suc n) x there all =
    let number : i + 1 + n ≡ i + suc n = omega arith in
    subst (λ (k : ℕ). P (k, x)) number (numbered_from P (i + 1) xs n x there all.1)

numbered_one : {A : Type 0} (P : ℕ × A → Type 0) (xs : List A) (n : ℕ) (x : A) → slice_get xs n ≡ Some x → AllByRecursion P (enumerate_from 0 xs) → P (n, x)
numbered_one P xs n x there all = let number : 0 + n ≡ n = omega arith in subst (λ (k : ℕ). P (k, x)) number (numbered_from P 0 xs n x there all)

-- a byte of a stretch, found in the image
pub byte_of_stretch : (image bytes : List ℕ) (at k : ℕ) → IsAt image (stretch at bytes) → k < length bytes → slice_index image (at + k) ≡ slice_index bytes k
byte_of_stretch image bytes at k is_at inside =
    sym (ap (λ l. get_or l k 0) (sym is_at) ∙ (get_or-take (length bytes) (drop at image) k 0 inside ∙ get_or-drop at image k 0))

-- ---- the stretches of a placement

-- the headers are at the start, and what each row holds is in the image
with_parts :
    (r : Resolved) (place : Placement) (parts : List Part) (image : List ℕ)
    → AllAreAt image (stretches_with r place parts)
    → IsAt image (stretch 0 (header_bytes r place parts))
    × AllAreAt image (flat_map (row_stretches r place) (enumerate_from 0 place.sections))
with_parts r place parts image all =
    let rows = flat_map (row_stretches r place) (enumerate_from 0 place.sections) in
    let front = stretch 0 (header_bytes r place parts) ∷ stretch seal_offset seal ∷ rows in
    let tail = map part_stretch (parts_from (tail_start place) parts) in
    let last = stretch (headers_offset place parts) (flat_map shdr_bytes (section_headers place parts)) ∷ [] in
    let is_at : AllAreAt image front = are_at_front image front tail (are_at_front image (front ++ tail) last all) in
    (is_at.0, is_at.1.1)

pub headers_are_at : (r : Resolved) (place : Placement) (parts : List Part) (image : List ℕ) → AllAreAt image (stretches_with r place parts) → IsAt image (stretch 0 (header_bytes r place parts))
headers_are_at r place parts image all = (with_parts r place parts image all).0

-- ---- pieces

-- a row that the file holds, by its number
pub record StoredRow (place : Placement) : Type 0 where
  pub number : ℕ
  pub row : SectionRow
  pub there : slice_get place.sections number ≡ Some row
  pub stored : in_file row.key.class ≡ true

row_holds :
    (r : Resolved) (place : Placement) (image : List ℕ) (h : StoredRow place)
    → AllAreAt image (row_stretches r place (h.number, h.row))
    → AllByRecursion (λ z. is_in_row h.number z ≡ true → IsAt image (piece_stretch r place h.row z)) (zip r.kept place.pieces)
row_holds r place image h all =
    let pieces = map (piece_stretch r place h.row) (filter (is_in_row h.number) (zip r.kept place.pieces)) in
    let table = table_stretches r place h.row in
    let holes = map (hole_stretch h.row) (holes_of place h.number) in
    let end = end_stretches h.row in
    let parts : AllAreAt image (pieces ++ table ++ holes ++ end) = rw (h.stored) at all in
    let is_at : AllAreAt image pieces =
    are_at_front image pieces table (are_at_front image (pieces ++ table) holes (are_at_front image (pieces ++ table ++ holes) end parts)) in
    all_unfiltered (λ z. IsAt image (piece_stretch r place h.row z)) (is_in_row h.number) (zip r.kept place.pieces)
    (are_at_mapped (piece_stretch r place h.row) image (filter (is_in_row h.number) (zip r.kept place.pieces)) is_at)

-- a kept piece's linked bytes are at its place in its row
abbrev pub PieceIsAt : Resolved → Placement → List ℕ → KeptPiece × PieceRow → Type 0
PieceIsAt r place image z = (h : StoredRow place) → is_in_row h.number z ≡ true → IsAt image (piece_stretch r place h.row z)

-- those of all kept pieces that the file holds do
pub pieces_are_at :
    (r : Resolved) (place : Placement) (parts : List Part) (image : List ℕ)
    → AllAreAt image (stretches_with r place parts)
    → AllByRecursion (PieceIsAt r place image) (zip r.kept place.pieces)
pieces_are_at r place parts image all =
    let rows = are_at_flat (row_stretches r place) image (enumerate_from 0 place.sections) (with_parts r place parts image all).1 in
    all_for (λ (h : StoredRow place) z. is_in_row h.number z ≡ true → IsAt image (piece_stretch r place h.row z)) (zip r.kept place.pieces)
    (λ h. row_holds r place image h (numbered_one (λ e. AllAreAt image (row_stretches r place e)) place.sections h.number h.row h.there rows))
