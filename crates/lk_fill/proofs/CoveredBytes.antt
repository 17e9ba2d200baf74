-- The ranges of a row cover exactly the bytes of its room that lk_model's pieces, table and reserved end cover.
use Rattle.std.proofs.Common.{◌≡◌, ℕ, zero, suc, Bool, true, false, cond, ◌&&◌, ◌||◌, ◌==◌, not, nat_lt, ◌+◌, ◌-◌, ◌^◌, ◌<◌, min, List, [], ◌∷◌, map, filter, Option, Some, None, if◌then◌else◌, refl, sym, ap, ◌∙◌, arith}
use Rattle.std.specs.List.{enumerate_from, flat_map, list_any, slice_get}
use Rattle.std.proofs.lemmas.Bool.Decides.{nat_tests}
use Rattle.std.proofs.lemmas.List.Folds.{list_any-append}
use Rattle.lk_model.specs.Holes.{covered, covered_by_pieces, covered_by_table, reserved_end}
use Rattle.lk_model.specs.SectionKeys.{is_table, reserved_of}
use Rattle.lk_model.specs.declared.layouts.Hole.{Hole}
use Rattle.lk_model.specs.declared.layouts.PieceRow.{PieceRow}
use Rattle.lk_model.specs.declared.layouts.Placement.{Placement}
use Rattle.lk_model.specs.declared.layouts.SectionRow.{SectionRow}
use Rattle.lk_freelist.specs.FreeBytes.{is_free, is_in}
use Rattle.lk_fill.specs.Covering.{all_covers, covers, is_in_row, piece_covers, piece_covers_in, row_covers}
use Rattle.lk_fill.specs.declared.covering.Covered.{Covered}
use Rattle.lk_fill.proofs.GapBytes.{has_byte}

-- the greatest place that a range reaches
abbrev most : ℕ
most = 2 ^ 64 - 1

-- whether a range of the row has the byte
abbrev pub has : ℕ → ℕ → Covered → Bool
has n byte range = is_in_row n range && has_byte byte range

-- the bytes of one range, cut where numbers end
cut_free : (end section n start size byte : ℕ) → byte < end → list_any (has n byte) (if nat_lt start (min (start + size) end) then record { section = section; start = start; end = min (start + size) end } ∷ [] else []) ≡ ((section == n) && is_in start size byte)
cut_free end section n start size byte small = grind (arith, nat_tests)

covers_free : (section n start size byte : ℕ) → byte < most → list_any (has n byte) (covers section start size) ≡ ((section == n) && is_in start size byte)
covers_free section n start size byte small = cut_free most section n start size byte small

or_false : (a : Bool) → (a || false) ≡ a
or_false true = refl
or_false false = refl

-- ---- the pieces

-- what a piece covers, as lk_model has it
abbrev piece_hole : SectionRow → PieceRow → Hole
piece_hole row piece = record { start = piece.addr - row.addr; length = piece.size }

-- a piece of another row covers nothing
other_row : (o : Option SectionRow) (piece : PieceRow) (n byte : ℕ) → byte < most → (piece.section == n) ≡ false → list_any (has n byte) (piece_covers_in o piece) ≡ false
other_row None piece n byte small other = refl
other_row (Some row) piece n byte small other =
    covers_free piece.section n (piece.addr - row.addr) piece.size byte small
    ∙ ap (λ b. b && is_in (piece.addr - row.addr) piece.size byte) other

same_row : (o : Option SectionRow) (piece : PieceRow) (n byte : ℕ) (row : SectionRow) → byte < most → (piece.section == n) ≡ true → o ≡ Some row → list_any (has n byte) (piece_covers_in o piece) ≡ is_in (piece.addr - row.addr) piece.size byte
same_row o piece n byte row small same there =
    ap (λ p. list_any (has n byte) (piece_covers_in p piece)) there
    ∙ covers_free piece.section n (piece.addr - row.addr) piece.size byte small
    ∙ ap (λ b. b && is_in (piece.addr - row.addr) piece.size byte) same

reports : (a n : ℕ) → (a == n) ≡ true → a ≡ n
reports a n is = grind (arith, nat_tests)

pieces_free :
    (rows : List SectionRow) (n : ℕ) (row : SectionRow) (byte : ℕ)
    → slice_get rows n ≡ Some row
    → byte < most
    → (pieces : List PieceRow)
    → list_any (has n byte) (flat_map (piece_covers rows) pieces) ≡ is_free (map (piece_hole row) (filter (λ (piece : PieceRow). piece.section == n) pieces)) byte
pieces_free rows n row byte there small [] = refl
pieces_free rows n row byte there small (p ∷ ps) =
    list_any-append (has n byte) (piece_covers rows p) (flat_map (piece_covers rows) ps)
    ∙ ap (λ b. list_any (has n byte) (piece_covers rows p) || b) (pieces_free rows n row byte there small ps)
    ∙ by_row (p.section == n) refl
  where
    later : List PieceRow
    later = filter (λ (piece : PieceRow). piece.section == n) ps

    by_row :
        (b : Bool)
        → (p.section == n) ≡ b
        → (list_any (has n byte) (piece_covers rows p) || is_free (map (piece_hole row) later) byte)
        ≡ is_free (map (piece_hole row) (cond (p.section == n) (p ∷ later) later)) byte
    by_row true is =
        ap (λ b. b || is_free (map (piece_hole row) later) byte) (same_row (slice_get rows p.section) p n byte row small is (ap (slice_get rows) (reports p.section n is) ∙ there))
        ∙ ap (λ b. is_free (map (piece_hole row) (cond b (p ∷ later) later)) byte) (sym is)
    by_row false is =
        ap (λ b. b || is_free (map (piece_hole row) later) byte) (other_row (slice_get rows p.section) p n byte small is)
        ∙ ap (λ b. is_free (map (piece_hole row) (cond b (p ∷ later) later)) byte) (sym is)

-- ---- what covers bytes of a row beside its pieces

-- what covers bytes of a row beside its pieces, as lk_model has it
abbrev beside : SectionRow → List Hole
beside row = reserved_end row ∷ covered_by_table row

both_parts : (a b c : Bool) → ((a && b) || (a && c)) ≡ (a && (b || (c || false)))
both_parts true true c = refl
both_parts true false true = refl
both_parts true false false = refl
both_parts false b c = refl

one_part : (a b : Bool) → ((a && b) || false) ≡ (a && (b || false))
one_part true b = refl
one_part false b = refl

row_free : (n number byte : ℕ) (row : SectionRow) → byte < most → list_any (has n byte) (row_covers (number, row)) ≡ ((number == n) && is_free (beside row) byte)
row_free n number byte row small =
    list_any-append (has n byte) (covers number (row.room - reserved_of row.key) (reserved_of row.key)) (if is_table row.key then covers number 0 row.size else [])
    ∙ ap (λ b. b || list_any (has n byte) (if is_table row.key then covers number 0 row.size else [])) (covers_free number n (row.room - reserved_of row.key) (reserved_of row.key) byte small)
    ∙ by_table (is_table row.key)
  where
    end : Bool
    end = is_in (row.room - reserved_of row.key) (reserved_of row.key) byte

    by_table :
        (b : Bool)
        → (((number == n) && end) || list_any (has n byte) (if b then covers number 0 row.size else []))
        ≡ ((number == n) && (end || is_free (if b then record { start = 0; length = row.size } ∷ [] else []) byte))
    by_table true =
        ap (λ b. ((number == n) && end) || b) (covers_free number n 0 row.size byte small)
        ∙ both_parts (number == n) end (is_in 0 row.size byte)
    by_table false = one_part (number == n) end

above : (a n : ℕ) → n < a → (a == n) ≡ false
above a n less = grind (arith, nat_tests)

-- later rows cover nothing of the row
none_later : (n k byte : ℕ) (rows : List SectionRow) → n < k → byte < most → list_any (has n byte) (flat_map row_covers (enumerate_from k rows)) ≡ false
none_later n k byte [] less small = refl
none_later n k byte (r ∷ rs) less small =
    list_any-append (has n byte) (row_covers (k, r)) (flat_map row_covers (enumerate_from (k + 1) rs))
    ∙ ap (λ b. b || list_any (has n byte) (flat_map row_covers (enumerate_from (k + 1) rs))) (row_free n k byte r small ∙ ap (λ b. b && is_free (beside r) byte) (above k n less))
    ∙ none_later n (k + 1) byte rs (omega arith) small

below : (a n : ℕ) → a < n → (a == n) ≡ false
below a n less = grind (arith, nat_tests)

itself : (a n : ℕ) → n ≡ a → (a == n) ≡ true
itself a n same = grind (arith, nat_tests)

rows_free :
    (i n k byte : ℕ) (rows : List SectionRow) (row : SectionRow)
    → n ≡ k + i
    → slice_get rows i ≡ Some row
    → byte < most
    → list_any (has n byte) (flat_map row_covers (enumerate_from k rows)) ≡ is_free (beside row) byte
rows_free i n k byte [] row place there small = absurd (cc)
rows_free zero n k byte (r ∷ rs) row place there small =
    let same : r ≡ row = cc in
    list_any-append (has n byte) (row_covers (k, r)) (flat_map row_covers (enumerate_from (k + 1) rs))
    ∙ ap (λ b. b || list_any (has n byte) (flat_map row_covers (enumerate_from (k + 1) rs))) (row_free n k byte r small ∙ ap (λ b. b && is_free (beside r) byte) (itself k n (omega arith)))
    ∙ ap (λ b. is_free (beside r) byte || b) (none_later n (k + 1) byte rs (omega arith) small)
    ∙ or_false (is_free (beside r) byte)
    ∙ ap (λ r. is_free (beside r) byte) same
rows_free (suc i) n k byte (r ∷ rs) row place there small =
    list_any-append (has n byte) (row_covers (k, r)) (flat_map row_covers (enumerate_from (k + 1) rs))
    ∙ ap (λ b. b || list_any (has n byte) (flat_map row_covers (enumerate_from (k + 1) rs))) (row_free n k byte r small ∙ ap (λ b. b && is_free (beside r) byte) (below k n (omega arith)))
    ∙ rows_free i n (k + 1) byte rs row (omega arith) there small

or_swap : (a b : Bool) → (a || b) ≡ (b || a)
or_swap true true = refl
or_swap true false = refl
or_swap false true = refl
or_swap false false = refl

-- all that covers bytes of the row
pub all_free :
    (place : Placement) (n : ℕ) (row : SectionRow) (byte : ℕ)
    → slice_get place.sections n ≡ Some row
    → byte < 2 ^ 64 - 1
    → list_any (has n byte) (all_covers place) ≡ is_free (covered place n row) byte
all_free place n row byte there small =
    list_any-append (has n byte) (flat_map (piece_covers place.sections) place.pieces) (flat_map row_covers (enumerate_from 0 place.sections))
    ∙ ap (λ b. b || list_any (has n byte) (flat_map row_covers (enumerate_from 0 place.sections))) (pieces_free place.sections n row byte there small place.pieces)
    ∙ ap (λ b. is_free (covered_by_pieces place n row) byte || b) (rows_free n n 0 byte place.sections row (omega arith) there small)
    ∙ or_swap (is_free (covered_by_pieces place n row) byte) (is_free (beside row) byte)
    ∙ sym (list_any-append (λ (hole : Hole). is_in hole.start hole.length byte) (beside row) (covered_by_pieces place n row))

-- ---- no range is empty

abbrev pub is_empty : Covered → Bool
is_empty range = not (nat_lt range.start range.end)

cut_some : (end section start size : ℕ) → list_any is_empty (if nat_lt start (min (start + size) end) then record { section = section; start = start; end = min (start + size) end } ∷ [] else []) ≡ false
cut_some end section start size = grind (arith, nat_tests)

covers_some : (section start size : ℕ) → list_any is_empty (covers section start size) ≡ false
covers_some section start size = cut_some most section start size

none_in_flat : {A : Type 0} (p : Covered → Bool) (f : A → List Covered) → ((x : A) → list_any p (f x) ≡ false) → (xs : List A) → list_any p (flat_map f xs) ≡ false
none_in_flat p f none [] = refl
none_in_flat p f none (x ∷ xs) =
    list_any-append p (f x) (flat_map f xs)
    ∙ ap (λ b. b || list_any p (flat_map f xs)) (none x)
    ∙ none_in_flat p f none xs

piece_some : (o : Option SectionRow) (piece : PieceRow) → list_any is_empty (piece_covers_in o piece) ≡ false
piece_some None piece = refl
piece_some (Some row) piece = covers_some piece.section (piece.addr - row.addr) piece.size

row_some : (entry : ℕ × SectionRow) → list_any is_empty (row_covers entry) ≡ false
row_some (number, row) =
    list_any-append is_empty (covers number (row.room - reserved_of row.key) (reserved_of row.key)) (if is_table row.key then covers number 0 row.size else [])
    ∙ ap (λ b. b || list_any is_empty (if is_table row.key then covers number 0 row.size else [])) (covers_some number (row.room - reserved_of row.key) (reserved_of row.key))
    ∙ by_table (is_table row.key)
  where
    by_table : (b : Bool) → list_any is_empty (if b then covers number 0 row.size else []) ≡ false
    by_table true = covers_some number 0 row.size
    by_table false = refl

pub all_some : (place : Placement) → list_any is_empty (all_covers place) ≡ false
all_some place =
    list_any-append is_empty (flat_map (piece_covers place.sections) place.pieces) (flat_map row_covers (enumerate_from 0 place.sections))
    ∙ ap (λ b. b || list_any is_empty (flat_map row_covers (enumerate_from 0 place.sections))) (none_in_flat is_empty (piece_covers place.sections) (λ (piece : PieceRow). piece_some (slice_get place.sections piece.section) piece) place.pieces)
    ∙ none_in_flat is_empty row_covers row_some (enumerate_from 0 place.sections)
