-- What each piece of a patched section takes of its holes: those that are left below where it ends can be
-- filled, and a piece of another section takes nothing.
use Rattle.std.specs.Prelude.{◌≡◌, ℕ, Bool, true, false, IsTrue, List, [], ◌∷◌, ◌++◌, Some, ◌+◌, ◌-◌, ◌==◌, ◌<◌, ◌≤◌, fold, filter, map, refl}
use Rattle.std.specs.List.{AllByRecursion, slice_get}
use Rattle.std.proofs.Common.{arith, inl, inr, ap, ◌∙◌}
use Rattle.std.proofs.lemmas.Bool.{eqb-false}
use Rattle.std.proofs.lemmas.List.{append-nil}
use Rattle.std.proofs.lemmas.List.Elements.{filter-append}
use Rattle.std.proofs.lemmas.List.Sums.{fold-append}
use Rattle.lk_model.specs.SectionKeys.{same_key, debug_info, eh_frame, is_patched, least_of, reserved_of}
use Rattle.lk_model.specs.Rooms.{is_fillable, patched_end, patched_next, patched_offset, step_to}
use Rattle.lk_model.specs.FullPlace.{full_place, offset_in, pieces_in}
use Rattle.lk_model.specs.Holes.{hole_between, without}
use Rattle.lk_model.specs.Views.{KeptPiece, Resolved}
use Rattle.lk_model.specs.declared.layouts.Hole.{Hole}
use Rattle.lk_model.specs.declared.layouts.PieceRow.{PieceRow}
use Rattle.lk_model.specs.declared.layouts.SectionKey.{SectionKey}
use Rattle.lk_model.specs.declared.layouts.SectionRow.{SectionRow}
use Rattle.lk_model.proofs.KeysFound.{same_key_self, same_key_reports}
use Rattle.lk_model.proofs.Multiples.{step_above, step_fillable}
use Rattle.lk_model.proofs.PiecesApart.{patched_next_is_end}
use Rattle.lk_model.proofs.PiecesPlaced.{FoundRow}
use Rattle.lk_law_placement.proofs.HolesLeft.{CanBeFilled, LeftBelow, hole_of, left_below, without_none, without_piece}
use Rattle.lk_law_placement.proofs.PiecesFit.{IsPlaced, placed_fits}
use Rattle.lk_law_placement.proofs.PiecesPatched.{filled_at_step, filled_is_piece, none_or_some}
use Rattle.lk_law_placement.proofs.PiecesPowers.{power_positive}
use Rattle.lk_law_placement.proofs.PiecesWalk.{found_at}
use Rattle.lk_law_placement.proofs.HolesRows.{AreDistinct, one_number}

-- the bytes of a section that a placed piece takes, from the section's start
abbrev taken_by : SectionRow → PieceRow → Hole
taken_by row piece = hole_of (piece.addr - row.addr) piece.size

-- whether a placed piece is in the section of this number
abbrev is_on : ℕ → PieceRow → Bool
is_on n piece = piece.section == n

-- the room before the reserved end
abbrev pub free_room : SectionRow → ℕ
free_room row = row.room - reserved_of row.key

-- where a section's pieces end, of those before others
abbrev pub end_before : SectionRow → List KeptPiece → ℕ
end_before row earlier = patched_end (least_of row.key) (pieces_in row.key earlier)

-- what the placed pieces of a section leave of holes
abbrev pub left_by : SectionRow → ℕ → List Hole → List PieceRow → List Hole
left_by row n holes pieces = fold without holes (map (taken_by row) (filter (is_on n) pieces))

-- the shortest hole that can be filled has a byte, and at most 64
pub least_bounds : (key : SectionKey) → (0 < least_of key) × (least_of key ≤ 64)
least_bounds key = go (same_key key eh_frame) (same_key key debug_info) refl refl
  where
    go : (b c : Bool) → same_key key eh_frame ≡ b → same_key key debug_info ≡ c → (0 < least_of key) × (least_of key ≤ 64)
    go true c e f = rw e (omega arith, omega arith)
    go false true e f = rw e (rw f (omega arith, omega arith))
    go false false e f = rw e (rw f (omega arith, omega arith))

-- the end of a section's pieces with one more
next_own : (row : SectionRow) (earlier : List KeptPiece) (piece : KeptPiece) → same_key piece.key row.key ≡ true → end_before row (earlier ++ piece ∷ []) ≡ patched_next (least_of row.key) (end_before row earlier) piece
next_own row earlier piece same =
    let joined : pieces_in row.key (earlier ++ piece ∷ []) ≡ pieces_in row.key earlier ++ piece ∷ [] =
    filter-append (λ (p : KeptPiece). same_key p.key row.key) earlier (piece ∷ []) ∙ ap (λ xs. pieces_in row.key earlier ++ xs) (rw same refl) in
    ap (patched_end (least_of row.key)) joined ∙ fold-append (patched_next (least_of row.key)) 0 (pieces_in row.key earlier) (piece ∷ [])

-- and with one of another section
next_other : (row : SectionRow) (earlier : List KeptPiece) (piece : KeptPiece) → same_key piece.key row.key ≡ false → end_before row (earlier ++ piece ∷ []) ≡ end_before row earlier
next_other row earlier piece other =
    let joined : pieces_in row.key (earlier ++ piece ∷ []) ≡ pieces_in row.key earlier =
    filter-append (λ (p : KeptPiece). same_key p.key row.key) earlier (piece ∷ [])
    ∙ (ap (λ xs. pieces_in row.key earlier ++ xs) (rw other refl)
    ∙ append-nil (pieces_in row.key earlier)) in
    ap (patched_end (least_of row.key)) joined

-- a cursor stays where a piece has no bytes
empty_stays : (least cursor : ℕ) (piece : KeptPiece) → piece.size ≡ 0 → patched_next least cursor piece ≡ cursor
empty_stays least cursor piece empty = rw empty refl

-- where a piece with bytes is, by the cursor
pub record IsPlacedAt (row : SectionRow) (earlier : List KeptPiece) (piece : KeptPiece) (start : ℕ) : Type 0 where
  pub above : end_before row earlier ≤ start
  pub fillable : IsTrue (is_fillable (least_of row.key) (start - end_before row earlier))
  pub within : start + piece.size ≤ free_room row
  pub next : patched_next (least_of row.key) (end_before row earlier) piece ≡ start + piece.size

-- a piece with bytes is at or above the cursor, leaves a hole that can be filled, and moves the cursor to
-- its end
is_placed_at :
    (r : Resolved) (earlier : List KeptPiece) (piece : KeptPiece) (more : List KeptPiece) (row : SectionRow)
    → IsPlaced r earlier piece more row
    → is_patched row.key ≡ true
    → 0 < piece.size
    → IsPlacedAt row earlier piece (offset_in row r.kept earlier piece)
is_placed_at r earlier piece more row p patched filled =
    let least : ℕ = least_of row.key in
    let cursor : ℕ = end_before row earlier in
    let aligned = power_positive piece.align p.sound.aligned in
    let spot : offset_in row r.kept earlier piece ≡ patched_offset least cursor piece = rw patched (rw (filled_is_piece piece p.sound filled) refl) in
    let step = filled_at_step least cursor piece filled in
    let at : offset_in row r.kept earlier piece ≡ step_to least cursor piece.align = spot ∙ step in
    let above = step_above least cursor piece.align aligned in
    let fits = placed_fits r earlier piece more row p in
    let ends = patched_next_is_end least cursor piece filled in
    record {
      above = omega (arith, above, at);
      fillable = rw at (step_fillable least cursor piece.align aligned);
      within = omega (arith, fits);
      next = omega (arith, ends, spot);
    }

-- pieces leave holes that can be filled, of those below a cursor and the room behind it
abbrev Filled : ℕ → SectionRow → List Hole → ℕ → List PieceRow → Type 0
Filled n row closed cursor pieces = AllByRecursion (CanBeFilled (least_of row.key)) (left_by row n (closed ++ hole_between cursor (free_room row)) pieces)

-- whatever holes are left below the end of the pieces before others, the others leave holes that can be filled
abbrev pub GoesOn : ℕ → SectionRow → List KeptPiece → List PieceRow → Type 0
GoesOn n row earlier pieces = (closed : List Hole) (cursor : ℕ) → end_before row earlier ≡ cursor → LeftBelow (least_of row.key) cursor closed → Filled n row closed cursor pieces

-- rows of one number are one
pub same_rows : (rows : List SectionRow) (m n : ℕ) (a b : SectionRow) → slice_get rows m ≡ Some a → slice_get rows n ≡ Some b → m ≡ n → a ≡ b
same_rows rows m n a b first second same = cc

-- a piece of another section takes nothing
pub other_goes_on :
    (r : Resolved) (n : ℕ) (row : SectionRow) (earlier : List KeptPiece) (piece : KeptPiece) (f : FoundRow (full_place r).sections piece.key 0) (rest : List PieceRow)
    → AreDistinct (full_place r).sections
    → slice_get (full_place r).sections n ≡ Some row
    → (f.number == n) ≡ false
    → GoesOn n row (earlier ++ piece ∷ []) rest
    → GoesOn n row earlier (found_at (full_place r).sections r.kept earlier piece f ∷ rest)
other_goes_on r n row earlier piece f rest distinct there elsewhere on closed cursor ends below = rw elsewhere (on closed cursor (next_other row earlier piece other ∙ ends) below)
  where
    apart : (f.number ≡ n) → ⊥
    apart = eqb-false f.number n elsewhere

    go : (b : Bool) → same_key piece.key row.key ≡ b → same_key piece.key row.key ≡ false
    go true e =
        let key : f.row.key ≡ piece.key = same_key_reports f.row.key piece.key f.same in
        absurd (apart (one_number (full_place r).sections f.number n f.row row distinct f.there there (rw key e)))
    go false e = e

    other : same_key piece.key row.key ≡ false
    other = go (same_key piece.key row.key) refl

-- what a piece of the section takes
own_takes :
    (r : Resolved) (row : SectionRow) (earlier : List KeptPiece) (piece : KeptPiece) (f : FoundRow (full_place r).sections piece.key 0)
    → f.row ≡ row
    → taken_by row (found_at (full_place r).sections r.kept earlier piece f) ≡ hole_of (offset_in row r.kept earlier piece) piece.size
own_takes r row earlier piece f same =
    let back : row.addr + offset_in row r.kept earlier piece - row.addr ≡ offset_in row r.kept earlier piece = omega arith in
    ap (λ (w : SectionRow). hole_of (w.addr + offset_in w r.kept earlier piece - row.addr) piece.size) same ∙ ap (λ k. hole_of k piece.size) back

-- and leaves holes that can be filled
pub own_goes_on :
    (r : Resolved) (n : ℕ) (row : SectionRow) (earlier : List KeptPiece) (piece : KeptPiece) (more : List KeptPiece) (f : FoundRow (full_place r).sections piece.key 0) (rest : List PieceRow)
    → is_patched row.key ≡ true
    → f.row ≡ row
    → (f.number == n) ≡ true
    → IsPlaced r earlier piece more row
    → GoesOn n row (earlier ++ piece ∷ []) rest
    → GoesOn n row earlier (found_at (full_place r).sections r.kept earlier piece f ∷ rest)
own_goes_on r n row earlier piece more f rest patched same here p on closed cursor ends below =
    let own : same_key piece.key row.key ≡ true = rw (p.keys) (same_key_self piece.key) in
    let start : ℕ = offset_in row r.kept earlier piece in
    let holes : List Hole = closed ++ hole_between cursor (free_room row) in
    rw here (rw (own_takes r row earlier piece f same)
    (elim (none_or_some piece.size) [
      | inl empty ↦
          rw (without_none holes start piece.size empty)
          (on closed cursor (next_own row earlier piece own ∙ (empty_stays (least_of row.key) (end_before row earlier) piece empty ∙ ends)) below)
      | inr filled ↦
          let s = is_placed_at r earlier piece more row p patched filled in
          let above = s.above in
          let within = s.within in
          let fillable : IsTrue (is_fillable (least_of row.key) (start - cursor)) = rw ends at (s.fillable) in
          rw (without_piece (least_of row.key) cursor (free_room row) start piece.size closed (least_bounds row.key).0 below (omega (arith, above, ends)) filled within)
          (on (closed ++ hole_between cursor start) (start + piece.size) (next_own row earlier piece own ∙ s.next)
          (left_below (least_of row.key) cursor start (start + piece.size) closed below (omega (arith, above, ends)) (omega arith) fillable))
    ]))
