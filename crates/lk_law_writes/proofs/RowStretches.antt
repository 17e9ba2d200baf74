-- What is in the room of a row that the file holds: it lies in the room, and shares no byte.
use Rattle.std.specs.Prelude.{◌≡◌, ℕ, Bool, true, false, IsTrue, List, [], ◌∷◌, ◌++◌, ◌+◌, ◌-◌, ◌≤◌, ◌==◌, filter, length, map, refl, replicate, zip}
use Rattle.std.specs.List.{AllByRecursion}
use Rattle.std.proofs.Common.{ap, arith, subst, ◌∙◌}
use Rattle.std.proofs.lemmas.Bool.{both_ways}
use Rattle.std.proofs.lemmas.Bool.Decides.{nat_tests}
use Rattle.lk_model.specs.Holes.{hole_bytes, holes_of, reserved_end}
use Rattle.lk_model.specs.Images.{end_stretches, hole_stretch, is_in_row, piece_stretch, stretch, table_stretches}
use Rattle.lk_model.specs.Lawful.{Pairs, pieces_apart, share_nothing}
use Rattle.lk_model.specs.LinkedBytes.{linked_bytes}
use Rattle.lk_model.specs.SectionKeys.{eh_frame, is_table, reserved_of, same_key}
use Rattle.lk_model.specs.Stretches.{Stretch}
use Rattle.lk_model.specs.Tables.{table_of_key}
use Rattle.lk_model.specs.Views.{KeptPiece, Resolved}
use Rattle.lk_model.specs.declared.layouts.Hole.{Hole}
use Rattle.lk_model.specs.declared.layouts.PieceRow.{PieceRow}
use Rattle.lk_model.specs.declared.layouts.Placement.{Placement}
use Rattle.lk_model.specs.declared.layouts.SectionKey.{SectionKey}
use Rattle.lk_model.specs.declared.layouts.SectionRow.{SectionRow}
use Rattle.lk_model.proofs.KeysFound.{same_key_reports}
use Rattle.lk_model.proofs.Rising.{all_map}
use Rattle.lk_law_writes.specs.WrittenLaws.{ShareNothing}
use Rattle.lk_law_placement.proofs.DistinctLists.{all_both, all_joined, all_mapped}
use Rattle.lk_law_loading.proofs.PairsInOrder.{pairs_joined}
use Rattle.lk_law_writes.proofs.HolesApart.{HolesApart, HolesLie}
use Rattle.lk_law_writes.proofs.PairsOfLists.{pairs_mapped, pairs_with}
use Rattle.lk_law_writes.proofs.PiecesInRows.{InRow, Pair, holes_free_of_end, holes_free_of_table, taken_in}
use Rattle.lk_law_writes.proofs.SpansApart.{above_apart, moved_apart, turned_apart}

-- a stretch lies between two places
abbrev pub Lies : ℕ → ℕ → Stretch → Type 0
Lies low high s = (low ≤ s.at) × (s.at + length s.bytes ≤ high)

-- each of some stretches shares nothing with each of others
abbrev pub Across : List Stretch → List Stretch → Type 0
Across ss ts = AllByRecursion (λ s. AllByRecursion (ShareNothing s) ts) ss

-- ---- tables and ends, where they are

pub table_all : (P : Stretch → Type 0) (r : Resolved) (place : Placement) (row : SectionRow) → (is_table row.key ≡ true → P (stretch row.offset (table_of_key r place row.key))) → AllByRecursion P (table_stretches r place row)
table_all P r place row holds = go (is_table row.key) refl
  where
    go : (b : Bool) → is_table row.key ≡ b → AllByRecursion P (table_stretches r place row)
    go true e = rw e (holds e, tt)
    go false e = rw e tt

pub end_all : (P : Stretch → Type 0) (row : SectionRow) → (same_key row.key eh_frame ≡ true → P (stretch (row.offset + (row.room - 4)) (replicate 4 0))) → AllByRecursion P (end_stretches row)
end_all P row holds = go (same_key row.key eh_frame) refl
  where
    go : (b : Bool) → same_key row.key eh_frame ≡ b → AllByRecursion P (end_stretches row)
    go true e = rw e (holds e, tt)
    go false e = rw e tt

table_pairs : (r : Resolved) (place : Placement) (row : SectionRow) → Pairs ShareNothing (table_stretches r place row)
table_pairs r place row = go (is_table row.key) refl
  where
    go : (b : Bool) → is_table row.key ≡ b → Pairs ShareNothing (table_stretches r place row)
    go true e = rw e (tt, tt)
    go false e = rw e tt

end_pairs : (row : SectionRow) → Pairs ShareNothing (end_stretches row)
end_pairs row = go (same_key row.key eh_frame) refl
  where
    go : (b : Bool) → same_key row.key eh_frame ≡ b → Pairs ShareNothing (end_stretches row)
    go true e = rw e (tt, tt)
    go false e = rw e tt

-- frames are no table, and reserve four bytes
frames_no_table : (key : SectionKey) → same_key key eh_frame ≡ true → is_table key ≡ false
frames_no_table key e = ap is_table (same_key_reports key eh_frame e)

four_reserved : (key : SectionKey) → same_key key eh_frame ≡ true → reserved_of key ≡ 4
four_reserved key e = rw e refl

-- ---- one row

-- what is known of a row that the file holds, and of what is in it
pub record RowKnown (r : Resolved) (place : Placement) (number : ℕ) (row : SectionRow) : Type 0 where
  pub pieces : AllByRecursion (InRow r place number row) (filter (is_in_row number) (zip r.kept place.pieces))
  pub apart : Pairs (λ (a b : Pair). IsTrue (pieces_apart a.1 b.1)) (filter (is_in_row number) (zip r.kept place.pieces))
  pub holes : HolesLie place number row
  pub filled : AllByRecursion (λ (h : Hole). length (hole_bytes row h) ≡ h.length) (holes_of place number)
  pub none : AllByRecursion (λ (z : Pair). is_table z.0.key ≡ false) (filter (is_in_row number) (zip r.kept place.pieces))
  pub table : is_table row.key ≡ true → length (table_of_key r place row.key) ≡ row.size
  pub size : row.size ≤ row.room
  pub end : reserved_of row.key ≤ row.room

abbrev PiecesOf : Resolved → Placement → ℕ → SectionRow → List Stretch
PiecesOf r place number row = map (piece_stretch r place row) (filter (is_in_row number) (zip r.kept place.pieces))

abbrev HolesOf : Placement → ℕ → SectionRow → List Stretch
HolesOf place number row = map (hole_stretch row) (holes_of place number)

-- ---- where it lies

abbrev LiesIn : SectionRow → Stretch → Type 0
LiesIn row s = Lies row.offset (row.offset + row.room) s

piece_lies : (r : Resolved) (place : Placement) (number : ℕ) (row : SectionRow) (kept : KeptPiece) (p : PieceRow) → InRow r place number row (kept, p) → LiesIn row (piece_stretch r place row (kept, p))
piece_lies r place number row kept p q =
    let from = q.from in
    let to = q.to in
    let long = q.long in
    (omega arith, omega (arith, from, to, long))

hole_lies : (row : SectionRow) (h : Hole) → h.start + h.length ≤ row.room → length (hole_bytes row h) ≡ h.length → LiesIn row (hole_stretch row h)
hole_lies row h under long = (omega arith, omega (arith, under, long))

pub row_lies : (r : Resolved) (place : Placement) (number : ℕ) (row : SectionRow) → RowKnown r place number row → AllByRecursion (LiesIn row) (PiecesOf r place number row ++ table_stretches r place row ++ HolesOf place number row ++ end_stretches row)
row_lies r place number row k =
    let pieces = PiecesOf r place number row in
    let table = table_stretches r place row in
    let holes = HolesOf place number row in
    all_joined (LiesIn row) (pieces ++ table ++ holes) (end_stretches row)
    (all_joined (LiesIn row) (pieces ++ table) holes
    (all_joined (LiesIn row) pieces table
    (all_mapped (piece_stretch r place row) (LiesIn row) (filter (is_in_row number) (zip r.kept place.pieces))
    (all_map {Q = λ z. LiesIn row (piece_stretch r place row z)} (λ z q. piece_lies r place number row z.0 z.1 q) (filter (is_in_row number) (zip r.kept place.pieces)) k.pieces))
    (table_all (LiesIn row) r place row (λ is. let long = k.table is in let under = k.size in (omega arith, omega (arith, long, under)))))
    (all_mapped (hole_stretch row) (LiesIn row) (holes_of place number)
    (all_both {R = λ h. LiesIn row (hole_stretch row h)} (λ h under long. hole_lies row h under long) (holes_of place number) k.holes.within k.filled)))
    (end_all (LiesIn row) row (λ is. let four = four_reserved row.key is in let room = k.end in (omega arith, omega (arith, four, room))))

-- ---- that it shares nothing

same_number : (x y n : ℕ) → (x == n) ≡ true → (y == n) ≡ true → (x == y) ≡ true
same_number x y n one other = grind (arith, nat_tests)

-- addresses and places in the file
placed_apart : (base off x m y n : ℕ) → base ≤ x → base ≤ y → IsTrue (share_nothing x m y n) → IsTrue (share_nothing (off + (x - base)) m (off + (y - base)) n)
placed_apart base off x m y n one other apart =
    let first : base + (x - base) ≡ x = omega (arith, one) in
    let second : base + (y - base) ≡ y = omega (arith, other) in
    let back : IsTrue (share_nothing (base + (x - base)) m (base + (y - base)) n) = rw first (rw second apart) in
    grind (arith, nat_tests, back)

in_one_section : (a b : PieceRow) → (a.section == b.section) ≡ true → IsTrue (pieces_apart a b) → IsTrue (share_nothing a.addr a.size b.addr b.size)
in_one_section a b same apart = rw same at apart

two_pieces : (r : Resolved) (place : Placement) (number : ℕ) (row : SectionRow) (k l : KeptPiece) (a b : PieceRow) → InRow r place number row (k, a) → InRow r place number row (l, b) → IsTrue (pieces_apart a b) → ShareNothing (piece_stretch r place row (k, a)) (piece_stretch r place row (l, b))
two_pieces r place number row k l a b one other apart =
    let reported = in_one_section a b (same_number a.section b.section number one.own other.own) apart in
    rw (one.long) (rw (other.long) (placed_apart row.addr row.offset a.addr a.size b.addr b.size one.from other.from reported))

piece_and_hole : (r : Resolved) (place : Placement) (number : ℕ) (row : SectionRow) (kept : KeptPiece) (p : PieceRow) (h : Hole) → InRow r place number row (kept, p) → HolesApart h (taken_in row p) → length (hole_bytes row h) ≡ h.length → ShareNothing (piece_stretch r place row (kept, p)) (hole_stretch row h)
piece_and_hole r place number row kept p h q apart long =
    rw (q.long) (rw long (moved_apart row.offset (p.addr - row.addr) p.size h.start h.length (turned_apart h.start h.length (p.addr - row.addr) p.size apart)))

two_holes : (row : SectionRow) (g h : Hole) → length (hole_bytes row g) ≡ g.length → length (hole_bytes row h) ≡ h.length → HolesApart g h → ShareNothing (hole_stretch row g) (hole_stretch row h)
two_holes row g h one other apart = rw one (rw other (moved_apart row.offset g.start g.length h.start h.length apart))

table_and_hole : (r : Resolved) (place : Placement) (row : SectionRow) (h : Hole) → length (table_of_key r place row.key) ≡ row.size → HolesApart h (record { start = 0; length = row.size }) → length (hole_bytes row h) ≡ h.length → ShareNothing (stretch row.offset (table_of_key r place row.key)) (hole_stretch row h)
table_and_hole r place row h size apart long =
    let start : row.offset + 0 ≡ row.offset = omega arith in
    rw size (rw long (subst (λ n. IsTrue (share_nothing n row.size (row.offset + h.start) h.length)) start (moved_apart row.offset 0 row.size h.start h.length (turned_apart h.start h.length 0 row.size apart))))

piece_and_end : (r : Resolved) (place : Placement) (number : ℕ) (row : SectionRow) (kept : KeptPiece) (p : PieceRow) → InRow r place number row (kept, p) → reserved_of row.key ≡ 4 → ShareNothing (piece_stretch r place row (kept, p)) (stretch (row.offset + (row.room - 4)) (replicate 4 0))
piece_and_end r place number row kept p q four =
    let from = q.from in
    let to = q.to in
    let long = q.long in
    above_apart (row.offset + (p.addr - row.addr)) (length (linked_bytes r place kept)) (row.offset + (row.room - 4)) 4 (omega (arith, from, to, long, four))

hole_and_end : (row : SectionRow) (h : Hole) → reserved_of row.key ≡ 4 → HolesApart h (reserved_end row) → length (hole_bytes row h) ≡ h.length → ShareNothing (hole_stretch row h) (stretch (row.offset + (row.room - 4)) (replicate 4 0))
hole_and_end row h four apart long =
    rw long (moved_apart row.offset h.start h.length (row.room - 4) 4 (subst (λ n. IsTrue (share_nothing h.start h.length (row.room - n) n)) four apart))

-- pieces
pieces_share : (r : Resolved) (place : Placement) (number : ℕ) (row : SectionRow) → RowKnown r place number row → Pairs ShareNothing (PiecesOf r place number row)
pieces_share r place number row k =
    pairs_mapped (piece_stretch r place row) ShareNothing (filter (is_in_row number) (zip r.kept place.pieces))
    (pairs_with {S = λ a b. ShareNothing (piece_stretch r place row a) (piece_stretch r place row b)}
    (λ a b one other apart. two_pieces r place number row a.0 b.0 a.1 b.1 one other apart)
    (filter (is_in_row number) (zip r.kept place.pieces)) k.pieces k.apart)

-- pieces and what else is in the row
piece_free : (r : Resolved) (place : Placement) (number : ℕ) (row : SectionRow) → RowKnown r place number row → (z : Pair) → InRow r place number row z → AllByRecursion (ShareNothing (piece_stretch r place row z)) (HolesOf place number row)
piece_free r place number row k z q =
    all_mapped (hole_stretch row) (ShareNothing (piece_stretch r place row z)) (holes_of place number)
    (all_both {R = λ h. ShareNothing (piece_stretch r place row z) (hole_stretch row h)} (λ h apart long. piece_and_hole r place number row z.0 z.1 h q apart long) (holes_of place number) q.holes k.filled)

pieces_across : (r : Resolved) (place : Placement) (number : ℕ) (row : SectionRow) (ts : List Stretch) → ((z : Pair) → InRow r place number row z → is_table z.0.key ≡ false → AllByRecursion (ShareNothing (piece_stretch r place row z)) ts) → RowKnown r place number row → Across (PiecesOf r place number row) ts
pieces_across r place number row ts holds k =
    all_mapped (piece_stretch r place row) (λ s. AllByRecursion (ShareNothing s) ts) (filter (is_in_row number) (zip r.kept place.pieces))
    (all_both {R = λ z. AllByRecursion (ShareNothing (piece_stretch r place row z)) ts} holds (filter (is_in_row number) (zip r.kept place.pieces)) k.pieces k.none)

-- holes
holes_share : (r : Resolved) (place : Placement) (number : ℕ) (row : SectionRow) → RowKnown r place number row → Pairs ShareNothing (HolesOf place number row)
holes_share r place number row k =
    pairs_mapped (hole_stretch row) ShareNothing (holes_of place number)
    (pairs_with {S = λ g h. ShareNothing (hole_stretch row g) (hole_stretch row h)} (λ g h one other apart. two_holes row g h one other apart) (holes_of place number) k.filled k.holes.apart)

table_free : (r : Resolved) (place : Placement) (number : ℕ) (row : SectionRow) → RowKnown r place number row → is_table row.key ≡ true → AllByRecursion (ShareNothing (stretch row.offset (table_of_key r place row.key))) (HolesOf place number row)
table_free r place number row k is =
    let first : AllByRecursion (λ (c : Hole). AllByRecursion (λ (h : Hole). HolesApart h c) (holes_of place number)) (record { start = 0; length = row.size } ∷ []) = rw is at (holes_free_of_table place number row k.holes) in
    all_mapped (hole_stretch row) (ShareNothing (stretch row.offset (table_of_key r place row.key))) (holes_of place number)
    (all_both {R = λ h. ShareNothing (stretch row.offset (table_of_key r place row.key)) (hole_stretch row h)} (λ h apart long. table_and_hole r place row h (k.table is) apart long) (holes_of place number) first.0 k.filled)

-- all of it
pub row_apart : (r : Resolved) (place : Placement) (number : ℕ) (row : SectionRow) → RowKnown r place number row → Pairs ShareNothing (PiecesOf r place number row ++ table_stretches r place row ++ HolesOf place number row ++ end_stretches row)
row_apart r place number row k =
    let pieces = PiecesOf r place number row in
    let table = table_stretches r place row in
    let holes = HolesOf place number row in
    let end = end_stretches row in
    pairs_joined ShareNothing (pieces ++ table ++ holes) end
    (pairs_joined ShareNothing (pieces ++ table) holes
    (pairs_joined ShareNothing pieces table (pieces_share r place number row k) piece_table (table_pairs r place row))
    (all_joined (λ s. AllByRecursion (ShareNothing s) holes) pieces table
    (pieces_across r place number row holes (λ z q none. piece_free r place number row k z q) k)
    (table_all (λ s. AllByRecursion (ShareNothing s) holes) r place row (λ is. table_free r place number row k is)))
    (holes_share r place number row k))
    (all_joined (λ s. AllByRecursion (ShareNothing s) end) (pieces ++ table) holes
    (all_joined (λ s. AllByRecursion (ShareNothing s) end) pieces table piece_end
    (table_all (λ s. AllByRecursion (ShareNothing s) end) r place row (λ is. end_all (ShareNothing (stretch row.offset (table_of_key r place row.key))) row (λ frames. absurd (both_ways (is_table row.key) (frames_no_table row.key frames) is)))))
    hole_end)
    (end_pairs row)
  where
    piece_table : Across (PiecesOf r place number row) (table_stretches r place row)
    piece_table =
        pieces_across r place number row (table_stretches r place row)
        (λ z q none. table_all (ShareNothing (piece_stretch r place row z)) r place row (λ is. absurd (both_ways (is_table row.key) (ap is_table (q.keys) ∙ none) is))) k

    piece_end : Across (PiecesOf r place number row) (end_stretches row)
    piece_end =
        pieces_across r place number row (end_stretches row)
        (λ z q none. end_all (ShareNothing (piece_stretch r place row z)) row (λ frames. piece_and_end r place number row z.0 z.1 q (four_reserved row.key frames))) k

    hole_end : Across (HolesOf place number row) (end_stretches row)
    hole_end =
        all_mapped (hole_stretch row) (λ s. AllByRecursion (ShareNothing s) (end_stretches row)) (holes_of place number)
        (all_both {R = λ h. AllByRecursion (ShareNothing (hole_stretch row h)) (end_stretches row)}
        (λ h apart long. end_all (ShareNothing (hole_stretch row h)) row (λ frames. hole_and_end row h (four_reserved row.key frames) apart long))
        (holes_of place number) (holes_free_of_end place number row k.holes) k.filled)
