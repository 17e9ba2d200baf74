-- What holds of a placed piece, whichever pieces are before and after it among the kept ones, holds of
-- all placed pieces.
use Rattle.std.specs.Prelude.{◌≡◌, ℕ, true, List, [], ◌∷◌, ◌++◌, ◌+◌, length, take, zip, filter_map, map, refl}
use Rattle.std.specs.List.{AllByRecursion, list_any, enumerate_from}
use Rattle.std.proofs.Common.{arith, sym, ap, ◌∙◌}
use Rattle.std.proofs.lemmas.List.{append_assoc, append-nil, length-append, take_at}
use Rattle.lk_model.specs.FullPlace.{offset_in, piece_row, placed_at}
use Rattle.lk_model.specs.Lawful.{Pairs, Placed}
use Rattle.lk_model.specs.SectionKeys.{same_key}
use Rattle.lk_model.specs.Views.{KeptPiece}
use Rattle.lk_model.specs.declared.layouts.PieceRow.{PieceRow}
use Rattle.lk_model.specs.declared.layouts.SectionRow.{SectionRow}
use Rattle.lk_model.proofs.PiecesPlaced.{FoundRow, found_row, numbered_row_found}

-- the output section of a piece has a row
abbrev pub HasRow : List SectionRow → KeptPiece → Type 0
HasRow rows piece = list_any (same_key piece.key) (map (λ (row : SectionRow). row.key) rows) ≡ true

-- a piece in the row that is found for it; `earlier` are the pieces before it among all
abbrev pub found_at : (rows : List SectionRow) (all earlier : List KeptPiece) (piece : KeptPiece) → FoundRow rows piece.key 0 → PieceRow
found_at rows all earlier piece f = placed_at piece f.number f.row (offset_in f.row all earlier piece)

-- the rows of pieces that are numbered from i among all
abbrev pub rows_from : List SectionRow → List KeptPiece → ℕ → List KeptPiece → List PieceRow
rows_from rows all i pieces = filter_map (λ (entry : ℕ × KeptPiece). piece_row rows all (take entry.0 all) entry.1) (enumerate_from i pieces)

-- the piece that comes next joins those before it
pub next_number : (before middle : List KeptPiece) (piece : KeptPiece) (i : ℕ) → length (before ++ middle) ≡ i → length (before ++ (middle ++ piece ∷ [])) ≡ i + 1
next_number before middle piece i number =
    let first = length-append before middle in
    let inner = length-append middle (piece ∷ []) in
    let whole = length-append before (middle ++ piece ∷ []) in
    omega (arith, number, first, inner, whole)

pub next_split :
    (all before middle : List KeptPiece) (piece : KeptPiece) (pieces : List KeptPiece)
    → all ≡ (before ++ middle) ++ piece ∷ pieces
    → all ≡ (before ++ (middle ++ piece ∷ [])) ++ pieces
next_split all before middle piece pieces split =
    split
    ∙ (sym (append_assoc (before ++ middle) (piece ∷ []) pieces)
    ∙ ap (λ xs. xs ++ pieces) (append_assoc before middle (piece ∷ [])))

-- the pieces before one, of those that come after some
pub taken_before :
    (all before middle : List KeptPiece) (pieces : List KeptPiece) (i : ℕ)
    → length (before ++ middle) ≡ i
    → all ≡ (before ++ middle) ++ pieces
    → take i all ≡ before ++ middle
taken_before all before middle pieces i number split = ap (take i) split ∙ take_at (before ++ middle) pieces i number

-- what holds of each piece after some, wherever it is, holds of all their rows
pub all_rows_after :
    (rows : List SectionRow) (all before : List KeptPiece) (P : PieceRow → Type 0)
    → ((middle : List KeptPiece) (piece : KeptPiece) (more : List KeptPiece) → all ≡ (before ++ middle) ++ piece ∷ more → (f : FoundRow rows piece.key 0) → P (found_at rows all (before ++ middle) piece f))
    → (middle pieces : List KeptPiece) (i : ℕ)
    → length (before ++ middle) ≡ i
    → all ≡ (before ++ middle) ++ pieces
    → AllByRecursion (HasRow rows) pieces
    → AllByRecursion P (rows_from rows all i pieces)
all_rows_after rows all before P here middle [] i number split has = tt
all_rows_after rows all before P here middle (piece ∷ pieces) i number split has =
    let f = found_row rows piece.key 0 has.0 in
    let rest =
    all_rows_after rows all before P here (middle ++ piece ∷ []) pieces (i + 1)
    (next_number before middle piece i number)
    (next_split all before middle piece pieces split)
    has.1 in
    rw (numbered_row_found rows piece.key f) (rw (taken_before all before middle (piece ∷ pieces) i number split) (here middle piece pieces split f, rest))

-- what holds of each piece holds of all rows
pub all_rows :
    (rows : List SectionRow) (all : List KeptPiece) (P : PieceRow → Type 0)
    → ((earlier : List KeptPiece) (piece : KeptPiece) (more : List KeptPiece) → all ≡ earlier ++ piece ∷ more → (f : FoundRow rows piece.key 0) → P (found_at rows all earlier piece f))
    → AllByRecursion (HasRow rows) all
    → AllByRecursion P (rows_from rows all 0 all)
all_rows rows all P here has = all_rows_after rows all [] P here [] all 0 refl refl has

-- what holds of each piece with its number and its row holds of all
pub all_placed_after :
    (rows : List SectionRow) (all : List KeptPiece) (P : Placed → Type 0)
    → ((i : ℕ) (earlier : List KeptPiece) (piece : KeptPiece) (more : List KeptPiece) → take i all ≡ earlier → all ≡ earlier ++ piece ∷ more → (f : FoundRow rows piece.key 0) → P (i, (piece, found_at rows all earlier piece f)))
    → (earlier pieces : List KeptPiece) (i : ℕ)
    → length earlier ≡ i
    → all ≡ earlier ++ pieces
    → AllByRecursion (HasRow rows) pieces
    → AllByRecursion P (enumerate_from i (zip pieces (rows_from rows all i pieces)))
all_placed_after rows all P here earlier [] i number split has = tt
all_placed_after rows all P here earlier (piece ∷ pieces) i number split has =
    let f = found_row rows piece.key 0 has.0 in
    let taken = taken_before all [] earlier (piece ∷ pieces) i number split in
    let rest =
    all_placed_after rows all P here (earlier ++ piece ∷ []) pieces (i + 1)
    (next_number [] earlier piece i number)
    (next_split all [] earlier piece pieces split)
    has.1 in
    rw (numbered_row_found rows piece.key f) (rw taken (here i earlier piece pieces taken split f, rest))

pub all_placed :
    (rows : List SectionRow) (all : List KeptPiece) (P : Placed → Type 0)
    → ((i : ℕ) (earlier : List KeptPiece) (piece : KeptPiece) (more : List KeptPiece) → take i all ≡ earlier → all ≡ earlier ++ piece ∷ more → (f : FoundRow rows piece.key 0) → P (i, (piece, found_at rows all earlier piece f)))
    → AllByRecursion (HasRow rows) all
    → AllByRecursion P (enumerate_from 0 (zip all (rows_from rows all 0 all)))
all_placed rows all P here has = all_placed_after rows all P here [] all 0 refl refl has

-- what holds of each two pieces holds of each two rows
pub all_pairs_after :
    (rows : List SectionRow) (all : List KeptPiece) (R : PieceRow → PieceRow → Type 0)
    → ((earlier : List KeptPiece) (a : KeptPiece) (middle : List KeptPiece) (b : KeptPiece) (more : List KeptPiece)
    → all ≡ (earlier ++ a ∷ middle) ++ b ∷ more
    → (f : FoundRow rows a.key 0)
    → (g : FoundRow rows b.key 0)
    → R (found_at rows all earlier a f) (found_at rows all (earlier ++ a ∷ middle) b g))
    → (earlier pieces : List KeptPiece) (i : ℕ)
    → length earlier ≡ i
    → all ≡ earlier ++ pieces
    → AllByRecursion (HasRow rows) pieces
    → Pairs R (rows_from rows all i pieces)
all_pairs_after rows all R here earlier [] i number split has = tt
all_pairs_after rows all R here earlier (a ∷ pieces) i number split has =
    let f = found_row rows a.key 0 has.0 in
    let next = next_number [] earlier a i number in
    let on = next_split all [] earlier a pieces split in
    let nothing = append-nil (earlier ++ a ∷ []) in
    let first =
    all_rows_after rows all (earlier ++ a ∷ []) (R (found_at rows all earlier a f))
    (λ middle b more there g.
    let joined = append_assoc earlier (a ∷ []) middle in
    rw joined (here earlier a middle b more (rw joined at there) f g))
    [] pieces (i + 1) (rw nothing next) (rw nothing on) has.1 in
    let rest = all_pairs_after rows all R here (earlier ++ a ∷ []) pieces (i + 1) next on has.1 in
    rw (numbered_row_found rows a.key f) (rw (taken_before all [] earlier (a ∷ pieces) i number split) (first, rest))

pub all_pairs :
    (rows : List SectionRow) (all : List KeptPiece) (R : PieceRow → PieceRow → Type 0)
    → ((earlier : List KeptPiece) (a : KeptPiece) (middle : List KeptPiece) (b : KeptPiece) (more : List KeptPiece)
    → all ≡ (earlier ++ a ∷ middle) ++ b ∷ more
    → (f : FoundRow rows a.key 0)
    → (g : FoundRow rows b.key 0)
    → R (found_at rows all earlier a f) (found_at rows all (earlier ++ a ∷ middle) b g))
    → AllByRecursion (HasRow rows) all
    → Pairs R (rows_from rows all 0 all)
all_pairs rows all R here has = all_pairs_after rows all R here [] all 0 refl refl has
