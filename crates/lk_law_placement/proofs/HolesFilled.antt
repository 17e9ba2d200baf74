-- Every hole of a patched section of a full placement can be filled.
use Rattle.std.specs.Prelude.{◌≡◌, ℕ, Bool, true, false, IsTrue, List, [], ◌∷◌, ◌++◌, Some, ◌+◌, ◌-◌, ◌==◌, length, refl}
use Rattle.std.specs.List.{AllByRecursion, enumerate_from, slice_get}
use Rattle.std.proofs.Common.{arith, sym, ap, subst, ◌∙◌}
use Rattle.std.proofs.lemmas.Bool.{eqb-true}
use Rattle.std.proofs.lemmas.List.{append-nil}
use Rattle.lk_model.specs.SectionKeys.{is_patched, least_of, reserved_of}
use Rattle.lk_model.specs.Rooms.{is_fillable}
use Rattle.lk_model.specs.FullPlace.{full_place, piece_rows}
use Rattle.lk_model.specs.Holes.{hole_between, holes_of}
use Rattle.lk_model.specs.Lawful.{holes_are_fillable}
use Rattle.lk_model.specs.Views.{KeptPiece, Resolved}
use Rattle.lk_model.specs.declared.layouts.SectionRow.{SectionRow}
use Rattle.lk_model.proofs.KeysFound.{kept_has_row}
use Rattle.lk_model.proofs.PiecesApart.{patched_room_above, patched_room_fillable}
use Rattle.lk_model.proofs.PiecesPlaced.{FoundRow, found_row, numbered_row_found}
use Rattle.lk_law_placement.specs.SoundPieces.{SoundPieces}
use Rattle.lk_law_placement.proofs.HolesLeft.{CanBeFilled, between_fillable, fillable_reported, left_fillable, without_end}
use Rattle.lk_law_placement.proofs.PiecesFit.{IsPlaced, is_placed, room_patched}
use Rattle.lk_law_placement.proofs.PiecesLists.{all_numbered}
use Rattle.lk_law_placement.proofs.DistinctLists.{all_joined}
use Rattle.lk_law_placement.proofs.PiecesSections.{IsOfPieces, patched_is_no_table, row_of_pieces}
use Rattle.lk_law_placement.proofs.PiecesWalk.{HasRow, found_at, next_number, next_split, rows_from, taken_before}
use Rattle.lk_law_placement.proofs.HolesRows.{AreDistinct}
use Rattle.lk_law_placement.proofs.HolesTaken.{GoesOn, end_before, free_room, least_bounds, left_by, other_goes_on, own_goes_on, same_rows}

-- after all pieces the last hole can be filled too
none_left :
    (r : Resolved) (n : ℕ) (row : SectionRow)
    → is_patched row.key ≡ true
    → IsOfPieces r row
    → GoesOn n row r.kept []
none_left r n row patched p closed cursor ends below =
    let least : ℕ = least_of row.key in
    let room = room_patched r row p patched in
    let last : IsTrue (is_fillable least (free_room row - cursor)) =
    rw (sym ends) (rw room (patched_room_fillable r.options.patch least (reserved_of row.key) (end_before row r.kept) (least_bounds row.key).1)) in
    all_joined (CanBeFilled least) closed (hole_between cursor (free_room row)) (left_fillable least cursor closed below) (between_fillable least cursor (free_room row) last)

-- whatever pieces come before, the others leave holes that can be filled
pieces_go_on :
    (r : Resolved) (n : ℕ) (row : SectionRow)
    → SoundPieces r
    → AreDistinct (full_place r).sections
    → slice_get (full_place r).sections n ≡ Some row
    → is_patched row.key ≡ true
    → IsOfPieces r row
    → (earlier pieces : List KeptPiece) (i : ℕ)
    → length earlier ≡ i
    → r.kept ≡ earlier ++ pieces
    → AllByRecursion (HasRow (full_place r).sections) pieces
    → GoesOn n row earlier (rows_from (full_place r).sections r.kept i pieces)
pieces_go_on r n row sound distinct there patched p earlier [] i number split has =
    let all : r.kept ≡ earlier = split ∙ append-nil earlier in
    subst (λ xs. GoesOn n row xs []) all (none_left r n row patched p)
pieces_go_on r n row sound distinct there patched p earlier (piece ∷ pieces) i number split has =
    let f = found_row (full_place r).sections piece.key 0 has.0 in
    let rest =
    pieces_go_on r n row sound distinct there patched p (earlier ++ piece ∷ []) pieces (i + 1)
    (next_number [] earlier piece i number)
    (next_split r.kept [] earlier piece pieces split)
    has.1 in
    rw (numbered_row_found (full_place r).sections piece.key f)
    (rw (taken_before r.kept [] earlier (piece ∷ pieces) i number split) (go f rest (f.number == n) refl))
  where
    go :
        (f : FoundRow (full_place r).sections piece.key 0)
        → GoesOn n row (earlier ++ piece ∷ []) (rows_from (full_place r).sections r.kept (i + 1) pieces)
        → (b : Bool)
        → (f.number == n) ≡ b
        → GoesOn n row earlier (found_at (full_place r).sections r.kept earlier piece f ∷ rows_from (full_place r).sections r.kept (i + 1) pieces)
    go f rest true e =
        let numbers = eqb-true f.number n e in
        let rows = same_rows (full_place r).sections f.number n f.row row f.there there numbers in
        own_goes_on r n row earlier piece pieces f (rows_from (full_place r).sections r.kept (i + 1) pieces) patched rows e
        (subst (IsPlaced r earlier piece pieces) rows (is_placed r earlier piece pieces sound split f)) rest
    go f rest false e = other_goes_on r n row earlier piece f (rows_from (full_place r).sections r.kept (i + 1) pieces) distinct there e rest

-- the holes of a patched section, from the whole room without its reserved end
patched_holes :
    (r : Resolved) (n : ℕ) (row : SectionRow)
    → slice_get (full_place r).sections n ≡ Some row
    → is_patched row.key ≡ true
    → IsOfPieces r row
    → holes_of (full_place r) n ≡ left_by row n (hole_between 0 (free_room row)) (rows_from (full_place r).sections r.kept 0 r.kept)
unfolding full_place holes_of piece_rows
patched_holes r n row there patched p =
    let none = patched_is_no_table row.key patched in
    let room = room_patched r row p patched in
    let above = patched_room_above r.options.patch (least_of row.key) (reserved_of row.key) (end_before row r.kept) in
    rw there (rw none (ap (λ holes. left_by row n holes (rows_from (full_place r).sections r.kept 0 r.kept)) (without_end row.room (reserved_of row.key) (omega (arith, room, above)))))

-- a row's holes can be filled
holes_reported :
    (r : Resolved) (n : ℕ) (row : SectionRow)
    → SoundPieces r
    → AreDistinct (full_place r).sections
    → slice_get (full_place r).sections n ≡ Some row
    → IsTrue (holes_are_fillable (full_place r) n row)
holes_reported r n row sound distinct there = go (is_patched row.key) refl
  where
    go : (b : Bool) → is_patched row.key ≡ b → IsTrue (holes_are_fillable (full_place r) n row)
    go false e = rw e refl
    go true e =
        let p = row_of_pieces r n row sound there (patched_is_no_table row.key e) in
        let filled = pieces_go_on r n row sound distinct there e p [] r.kept 0 refl refl (kept_has_row r) [] 0 refl tt in
        rw e (rw (patched_holes r n row there e p) (fillable_reported (least_of row.key) (left_by row n (hole_between 0 (free_room row)) (rows_from (full_place r).sections r.kept 0 r.kept)) filled))

-- every hole of a patched section can be filled
pub full_fillable : (r : Resolved) → SoundPieces r → AreDistinct (full_place r).sections → AllByRecursion (λ (entry : ℕ × SectionRow). IsTrue (holes_are_fillable (full_place r) entry.0 entry.1)) (enumerate_from 0 (full_place r).sections)
full_fillable r sound distinct =
    all_numbered (λ (entry : ℕ × SectionRow). IsTrue (holes_are_fillable (full_place r) entry.0 entry.1)) (full_place r).sections
    (λ n row there. holes_reported r n row sound distinct there)
