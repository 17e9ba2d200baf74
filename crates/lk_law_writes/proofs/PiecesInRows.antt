-- Where each kept piece of a lawful placement lies in its row.
use Rattle.std.specs.Prelude.{◌≡◌, ℕ, true, false, List, [], ◌∷◌, Option, Some, None, ◌+◌, ◌-◌, ◌≤◌, ◌==◌, ◌&&◌, filter, length, map, nat_le, refl, zip}
use Rattle.std.specs.List.{AllByRecursion, enumerate_from, slice_get}
use Rattle.std.proofs.Common.{ap, subst, sym, ◌∙◌}
use Rattle.std.proofs.lemmas.Bool.{and_parts, both_ways, eqb-true, leb-true}
use Rattle.lk_model.specs.Holes.{covered_by_pieces, covered_by_table, holes_of, reserved_end}
use Rattle.lk_model.specs.Images.{is_in_row}
use Rattle.lk_model.specs.Lawful.{Lawful, Placed, RowOf, as_kept, as_placed}
use Rattle.lk_model.specs.LinkedBytes.{linked_bytes}
use Rattle.lk_model.specs.SectionKeys.{in_file, reserved_of, same_key}
use Rattle.lk_model.specs.Views.{KeptPiece, Resolved}
use Rattle.lk_model.specs.declared.layouts.Hole.{Hole}
use Rattle.lk_model.specs.declared.layouts.PieceId.{PieceId}
use Rattle.lk_model.specs.declared.layouts.PieceRow.{PieceRow}
use Rattle.lk_model.specs.declared.layouts.Placement.{Placement}
use Rattle.lk_model.specs.declared.layouts.SectionKey.{SectionKey}
use Rattle.lk_model.specs.declared.layouts.SectionRow.{SectionRow}
use Rattle.lk_model.proofs.KeysFound.{same_key_reports}
use Rattle.lk_model.proofs.Rising.{all_of_map}
use Rattle.lk_law_placement.proofs.DistinctLists.{all_both}
use Rattle.lk_law_placement.proofs.PiecesLists.{all_back, all_front}
use Rattle.lk_law_loading.proofs.Greatest.{all_unfiltered}
use Rattle.lk_law_writes.proofs.HolesApart.{HolesApart, HolesLie}
use Rattle.lk_law_writes.proofs.PairsOfLists.{all_zipped}

-- ---- in some row

-- a kept piece with its place
abbrev pub Pair : Type 0
Pair = KeptPiece × PieceRow

-- a kept piece that the file holds has as many linked bytes as its size
abbrev pub IsAsLong : Resolved → Placement → KeptPiece → Type 0
IsAsLong r place kept = in_file kept.key.class ≡ true → length (linked_bytes r place kept) ≡ kept.size

pub record PieceLies (r : Resolved) (place : Placement) (z : Pair) : Type 0 where
  pub row : SectionRow
  pub there : slice_get place.sections z.1.section ≡ Some row
  pub keys : row.key ≡ z.0.key
  pub from : row.addr ≤ z.1.addr
  pub to : z.1.addr + z.1.size + reserved_of row.key ≤ row.addr + row.room
  pub long : in_file z.0.key.class ≡ true → length (linked_bytes r place z.0) ≡ z.1.size

abbrev InSection : Placement → Placed → Type 0
InSection place p = RowOf place p.1.1 (λ row. same_key row.key p.1.0.key)

abbrev InRoom : Placement → PieceRow → Type 0
InRoom place p = RowOf place p (λ row. nat_le row.addr p.addr && nat_le (p.addr + p.size) (row.addr + row.room))

abbrev EndFree : Placement → PieceRow → Type 0
EndFree place p = RowOf place p (λ row. nat_le (p.addr + p.size + reserved_of row.key) (row.addr + row.room))

one_lies :
    (r : Resolved) (place : Placement) (kept : KeptPiece) (p : PieceRow)
    → RowOf place p (λ row. same_key row.key kept.key)
    → InRoom place p
    → EndFree place p
    → IsAsLong r place kept
    → p.size ≡ kept.size
    → PieceLies r place (kept, p)
one_lies r place kept p keyed lies free whole size = go (slice_get place.sections p.section) refl
  where
    go : (o : Option SectionRow) → slice_get place.sections p.section ≡ o → PieceLies r place (kept, p)
    go None e = absurd (both_ways false refl (rw e at keyed))
    go (Some row) e =
        let same : same_key row.key kept.key ≡ true = rw e at keyed in
        let parts = and_parts (nat_le row.addr p.addr) (nat_le (p.addr + p.size) (row.addr + row.room)) (rw e at lies) in
        let end : nat_le (p.addr + p.size + reserved_of row.key) (row.addr + row.room) ≡ true = rw e at free in
        record {
          row = row;
          there = e;
          keys = same_key_reports row.key kept.key same;
          from = leb-true row.addr p.addr parts.0;
          to = leb-true (p.addr + p.size + reserved_of row.key) (row.addr + row.room) end;
          long = λ stored. whole stored ∙ sym size;
        }

-- the size of the first of placed pieces, and the others
abbrev first_size : List (PieceId × ℕ × ℕ) → ℕ
first_size [] = 0
first_size (x ∷ xs) = x.1

abbrev all_but_first : List (PieceId × ℕ × ℕ) → List (PieceId × ℕ × ℕ)
all_but_first [] = []
all_but_first (x ∷ xs) = xs

lie_from :
    (r : Resolved) (place : Placement) (i : ℕ) (ks : List KeptPiece) (ps : List PieceRow)
    → map as_placed ps ≡ map as_kept ks
    → AllByRecursion (InSection place) (enumerate_from i (zip ks ps))
    → AllByRecursion (InRoom place) ps
    → AllByRecursion (EndFree place) ps
    → AllByRecursion (IsAsLong r place) ks
    → AllByRecursion (PieceLies r place) (zip ks ps)
lie_from r place i [] ps same sections rooms ends whole = tt
lie_from r place i (k ∷ ks) [] same sections rooms ends whole = tt
lie_from r place i (k ∷ ks) (p ∷ ps) same sections rooms ends whole = (
  one_lies r place k p sections.0 rooms.0 ends.0 whole.0 (ap first_size same),
  lie_from r place (i + 1) ks ps (ap all_but_first same) sections.1 rooms.1 ends.1 whole.1,
)

pub pieces_lie : (r : Resolved) (place : Placement) → Lawful r place → AllByRecursion (IsAsLong r place) r.kept → AllByRecursion (PieceLies r place) (zip r.kept place.pieces)
pieces_lie r place l whole = lie_from r place 0 r.kept place.pieces l.kept l.in_section l.in_room l.end_is_free whole

-- ---- in one row

-- the bytes of a row that a piece takes
abbrev pub taken_in : SectionRow → PieceRow → Hole
taken_in row p = record { start = p.addr - row.addr; length = p.size }

pub record InRow (r : Resolved) (place : Placement) (number : ℕ) (row : SectionRow) (z : Pair) : Type 0 where
  pub own : (z.1.section == number) ≡ true
  pub keys : row.key ≡ z.0.key
  pub from : row.addr ≤ z.1.addr
  pub to : z.1.addr + z.1.size + reserved_of row.key ≤ row.addr + row.room
  pub long : length (linked_bytes r place z.0) ≡ z.1.size
  pub holes : AllByRecursion (λ (h : Hole). HolesApart h (taken_in row z.1)) (holes_of place number)

-- rows of one number are one
one_row : (rows : List SectionRow) (m n : ℕ) (a b : SectionRow) → slice_get rows m ≡ Some a → slice_get rows n ≡ Some b → m ≡ n → a ≡ b
one_row rows m n a b first second same = cc

abbrev FreeOf : Placement → ℕ → SectionRow → PieceRow → Type 0
FreeOf place number row p = (p.section == number) ≡ true → AllByRecursion (λ (h : Hole). HolesApart h (taken_in row p)) (holes_of place number)

in_row :
    (r : Resolved) (place : Placement) (number : ℕ) (row : SectionRow)
    → slice_get place.sections number ≡ Some row
    → in_file row.key.class ≡ true
    → (z : Pair)
    → PieceLies r place z
    → FreeOf place number row z.1
    → (z.1.section == number) ≡ true
    → InRow r place number row z
in_row r place number row there stored z q free own =
    let same : q.row ≡ row = one_row place.sections z.1.section number q.row row q.there there (eqb-true z.1.section number own) in
    let keys : row.key ≡ z.0.key = subst (λ (w : SectionRow). w.key ≡ z.0.key) same q.keys in
    record {
      own = own;
      keys = keys;
      from = subst (λ (w : SectionRow). w.addr ≤ z.1.addr) same q.from;
      to = subst (λ (w : SectionRow). z.1.addr + z.1.size + reserved_of w.key ≤ w.addr + w.room) same q.to;
      long = q.long (sym (ap (λ (key : SectionKey). in_file key.class) keys) ∙ stored);
      holes = free own;
    }

-- holes are apart from the pieces of their row
holes_free : (place : Placement) (number : ℕ) (row : SectionRow) → HolesLie place number row → AllByRecursion (FreeOf place number row) place.pieces
holes_free place number row lie =
    let apart = λ (c : Hole). AllByRecursion (λ (h : Hole). HolesApart h c) (holes_of place number) in
    all_unfiltered (λ (p : PieceRow). apart (taken_in row p)) (λ (p : PieceRow). p.section == number) place.pieces
    (all_of_map (taken_in row) apart (filter (λ (p : PieceRow). p.section == number) place.pieces)
    (all_back apart (reserved_end row ∷ covered_by_table row) (covered_by_pieces place number row) lie.free))

-- and from its table and its reserved end
pub holes_free_of_table : (place : Placement) (number : ℕ) (row : SectionRow) → HolesLie place number row → AllByRecursion (λ (c : Hole). AllByRecursion (λ (h : Hole). HolesApart h c) (holes_of place number)) (covered_by_table row)
holes_free_of_table place number row lie =
    (all_front (λ (c : Hole). AllByRecursion (λ (h : Hole). HolesApart h c) (holes_of place number)) (reserved_end row ∷ covered_by_table row) (covered_by_pieces place number row) lie.free).1

pub holes_free_of_end : (place : Placement) (number : ℕ) (row : SectionRow) → HolesLie place number row → AllByRecursion (λ (h : Hole). HolesApart h (reserved_end row)) (holes_of place number)
holes_free_of_end place number row lie = lie.free.0

-- the pieces of a row that the file holds
pub pieces_in_row :
    (r : Resolved) (place : Placement) (number : ℕ) (row : SectionRow)
    → slice_get place.sections number ≡ Some row
    → in_file row.key.class ≡ true
    → HolesLie place number row
    → AllByRecursion (PieceLies r place) (zip r.kept place.pieces)
    → AllByRecursion (λ z. is_in_row number z ≡ true → InRow r place number row z) (zip r.kept place.pieces)
pieces_in_row r place number row there stored lie lies =
    all_both {R = λ (z : Pair). is_in_row number z ≡ true → InRow r place number row z}
    (λ z q free own. in_row r place number row there stored z q free own)
    (zip r.kept place.pieces) lies (all_zipped (FreeOf place number row) r.kept place.pieces (holes_free place number row lie))
