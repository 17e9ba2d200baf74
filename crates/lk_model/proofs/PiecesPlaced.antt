-- The pieces of a full placement are exactly the kept ones, each in its output section.
use Rattle.std.specs.Prelude.{◌≡◌, ℕ, suc, Bool, true, false, List, [], ◌∷◌, Some, ◌+◌, take, zip, find, filter_map, map, refl}
use Rattle.std.specs.List.{AllByRecursion, list_any, enumerate_from, slice_get}
use Rattle.std.proofs.Common.{arith, sym, ap, ◌∙◌}
use Rattle.lk_model.specs.SectionKeys.{same_key}
use Rattle.lk_model.specs.FullPlace.{numbered_row, piece_row, piece_rows, full_place}
use Rattle.lk_model.specs.Lawful.{as_kept, as_placed, Placed, placed_of, RowOf}
use Rattle.lk_model.specs.Views.{KeptPiece, Resolved}
use Rattle.lk_model.specs.declared.layouts.Placement.{Placement}
use Rattle.lk_model.specs.declared.layouts.SectionKey.{SectionKey}
use Rattle.lk_model.specs.declared.layouts.SectionRow.{SectionRow}
use Rattle.lk_model.proofs.KeysFound.{same_key_self, same_key_reports, kept_has_row}

-- a row of the key, its number counted from i, and that it is the one that is found
pub record FoundRow (rows : List SectionRow) (key : SectionKey) (i : ℕ) : Type 0 where
  pub number : ℕ
  pub row : SectionRow
  pub found : find (λ (entry : ℕ × SectionRow). same_key entry.1.key key) (enumerate_from i rows) ≡ Some (i + number, row)
  pub there : slice_get rows number ≡ Some row
  pub same : same_key row.key key ≡ true

differ : false ≡ true → ⊥
differ e = grind (arith, e)

same_key_back : (a b : SectionKey) → same_key a b ≡ true → same_key b a ≡ true
same_key_back a b same = rw (same_key_reports a b same) (same_key_self b)

-- where a row has the key, the first of them is found
pub found_row : (rows : List SectionRow) (key : SectionKey) (i : ℕ) → list_any (same_key key) (map (λ (row : SectionRow). row.key) rows) ≡ true → FoundRow rows key i
found_row [] key i has = absurd (differ has)
found_row (row ∷ rows) key i has = go (same_key row.key key) (same_key key row.key) refl refl (λ rest. found_row rows key (i + 1) rest)
  where
    go :
        (b c : Bool)
        → same_key row.key key ≡ b
        → same_key key row.key ≡ c
        → (list_any (same_key key) (map (λ (r : SectionRow). r.key) rows) ≡ true → FoundRow rows key (i + 1))
        → FoundRow (row ∷ rows) key i
    go true c e f rest =
        let number : i + 0 ≡ i = omega arith in
        record { number = 0; row = row; found = rw e (rw number refl); there = refl; same = e }
    go false true e f rest = absurd (differ (sym e ∙ same_key_back key row.key f))
    go false false e f rest =
        let later = rest (rw f at has) in
        let number : i + suc later.number ≡ i + 1 + later.number = omega arith in
        record { number = suc later.number; row = later.row; found = rw e (rw number later.found); there = later.there; same = later.same }

-- the row that is found for a key
pub numbered_row_found : (rows : List SectionRow) (key : SectionKey) (f : FoundRow rows key 0) → numbered_row rows key ≡ Some (f.number, f.row)
numbered_row_found rows key f = let number : 0 + f.number ≡ f.number = omega arith in rw number at f.found

-- the kept pieces, as the rows have them
kept_reported :
    (rows : List SectionRow) (all pieces : List KeptPiece) (i : ℕ)
    → AllByRecursion (λ (piece : KeptPiece). list_any (same_key piece.key) (map (λ (row : SectionRow). row.key) rows) ≡ true) pieces
    → map as_placed (filter_map (λ (entry : ℕ × KeptPiece). piece_row rows all (take entry.0 all) entry.1) (enumerate_from i pieces)) ≡ map as_kept pieces
kept_reported rows all [] i has = refl
kept_reported rows all (piece ∷ pieces) i has =
    let f = found_row rows piece.key 0 has.0 in
    rw (numbered_row_found rows piece.key f) (ap (λ rest. as_kept piece ∷ rest) (kept_reported rows all pieces (i + 1) has.1))

-- the placed pieces are exactly the kept ones
pub full_kept : (r : Resolved) → map as_placed (full_place r).pieces ≡ map as_kept r.kept
unfolding full_place piece_rows
full_kept r = kept_reported (full_place r).sections r.kept r.kept 0 (kept_has_row r)

-- each piece is in its output section
placed_in_section :
    (place : Placement) (all pieces : List KeptPiece) (i : ℕ)
    → AllByRecursion (λ (piece : KeptPiece). list_any (same_key piece.key) (map (λ (row : SectionRow). row.key) place.sections) ≡ true) pieces
    → AllByRecursion
    (λ (p : Placed). RowOf place p.1.1 (λ row. same_key row.key p.1.0.key))
    (enumerate_from i (zip pieces (filter_map (λ (entry : ℕ × KeptPiece). piece_row place.sections all (take entry.0 all) entry.1) (enumerate_from i pieces))))
placed_in_section place all [] i has = tt
placed_in_section place all (piece ∷ pieces) i has =
    let f = found_row place.sections piece.key 0 has.0 in
    rw (numbered_row_found place.sections piece.key f) (rw f.there f.same, placed_in_section place all pieces (i + 1) has.1)

pub full_in_section : (r : Resolved) → AllByRecursion (λ (p : Placed). RowOf (full_place r) p.1.1 (λ row. same_key row.key p.1.0.key)) (placed_of r (full_place r))
unfolding full_place piece_rows
full_in_section r = placed_in_section (full_place r) r.kept r.kept 0 (kept_has_row r)
