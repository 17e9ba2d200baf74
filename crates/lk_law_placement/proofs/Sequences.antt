-- A piece of a sequence is where it is in the sequence of its section's pieces.
use Rattle.std.specs.Prelude.{◌≡◌, ℕ, Bool, true, false, IsTrue, List, ◌+◌, ◌==◌, take, refl}
use Rattle.std.specs.List.{AllByRecursion}
use Rattle.std.proofs.Common.{arith, sym, ap}
use Rattle.std.proofs.lemmas.Bool.Decides.{nat_tests}
use Rattle.lk_model.specs.SectionKeys.{is_patched}
use Rattle.lk_model.specs.FullPlace.{full_place, offset_in, offset_in_sequence, piece_rows, pieces_in, placed_at}
use Rattle.lk_model.specs.Lawful.{Placed, RowOf, is_in_sequence, placed_of}
use Rattle.lk_model.specs.Views.{KeptPiece, Resolved}
use Rattle.lk_model.specs.declared.layouts.SectionRow.{SectionRow}
use Rattle.lk_model.proofs.KeysFound.{kept_has_row}
use Rattle.lk_law_placement.proofs.PiecesWalk.{all_placed}

same_place : (base offset other : ℕ) → offset ≡ other → IsTrue (base + offset == base + other)
same_place base offset other same = grind (arith, nat_tests, same)

in_sequence_reported :
    (kept : List KeptPiece) (i : ℕ) (earlier : List KeptPiece) (piece : KeptPiece) (number : ℕ) (row : SectionRow)
    → take i kept ≡ earlier
    → IsTrue (is_in_sequence kept i piece (placed_at piece number row (offset_in row kept earlier piece)) row)
in_sequence_reported kept i earlier piece number row taken = go (is_patched row.key) refl
  where
    go : (b : Bool) → is_patched row.key ≡ b → IsTrue (is_in_sequence kept i piece (placed_at piece number row (offset_in row kept earlier piece)) row)
    go true e = rw e refl
    go false e =
        let same : offset_in_sequence row.key (pieces_in row.key kept) (pieces_in row.key earlier) piece ≡ offset_in_sequence row.key (pieces_in row.key kept) (pieces_in row.key (take i kept)) piece =
        ap (λ xs. offset_in_sequence row.key (pieces_in row.key kept) (pieces_in row.key xs) piece) (sym taken) in
        rw e
        (same_place row.addr
        (offset_in_sequence row.key (pieces_in row.key kept) (pieces_in row.key earlier) piece)
        (offset_in_sequence row.key (pieces_in row.key kept) (pieces_in row.key (take i kept)) piece)
        same)

pub full_sequences : (r : Resolved) → AllByRecursion (λ (p : Placed). RowOf (full_place r) p.1.1 (is_in_sequence r.kept p.0 p.1.0 p.1.1)) (placed_of r (full_place r))
unfolding full_place piece_rows
full_sequences r =
    all_placed (full_place r).sections r.kept
    (λ (p : Placed). RowOf (full_place r) p.1.1 (is_in_sequence r.kept p.0 p.1.0 p.1.1))
    (λ i earlier piece more taken split f. rw (f.there) (in_sequence_reported r.kept i earlier piece f.number f.row taken))
    (kept_has_row r)
