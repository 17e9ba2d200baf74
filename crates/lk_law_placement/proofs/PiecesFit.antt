-- A piece of a full placement lies in its section's room, before the reserved end, at a multiple of its
-- alignment; one without bytes is at its section's start, a terminator in the reserved end.
use Rattle.std.specs.Prelude.{◌≡◌, ℕ, Bool, true, false, IsTrue, List, ◌∷◌, ◌++◌, ◌+◌, ◌-◌, ◌/◌, ◌%◌, ◌==◌, ◌≤◌, ◌&&◌, ◌||◌, not, nat_le, refl}
use Rattle.std.specs.List.{AllByRecursion}
use Rattle.std.proofs.Common.{arith, sym, ap, subst, ◌∙◌}
use Rattle.std.specs.Int.{◌∣◌}
use Rattle.std.proofs.Math.Nat.{dvd-add, dvd-mul_left}
use Rattle.std.proofs.lemmas.Bool.Decides.{nat_tests}
use Rattle.std.proofs.lemmas.Nat.Gcd.{dvd_trans, mod-eq-zero_of_dvd}
use Rattle.lk_model.specs.SectionKeys.{same_key, is_numbered_array, is_patched, is_table, least_of, reserved_of}
use Rattle.lk_model.specs.Rooms.{patched_end, patched_room, room_of, sequence_end, sequence_of, before_in_sequence}
use Rattle.lk_model.specs.FullPlace.{align_of, full_place, offset_in, piece_rows, pieces_extent, pieces_in, placed_at}
use Rattle.lk_model.specs.Lawful.{Placed, RowOf, empty_is_at, placed_of}
use Rattle.lk_model.specs.Views.{KeptPiece, Resolved}
use Rattle.lk_model.specs.declared.layouts.PieceRow.{PieceRow}
use Rattle.lk_model.specs.declared.layouts.SectionRow.{SectionRow}
use Rattle.lk_model.proofs.KeysFound.{kept_has_row, same_key_self, same_key_reports}
use Rattle.lk_model.proofs.PiecesApart.{room_above}
use Rattle.lk_model.proofs.PiecesPlaced.{FoundRow}
use Rattle.lk_law_placement.specs.SoundPieces.{SoundPiece, SoundPieces}
use Rattle.lk_law_placement.proofs.PiecesAddresses.{sound_in}
use Rattle.lk_law_placement.proofs.PiecesLists.{all_behind, all_between}
use Rattle.lk_law_placement.proofs.PiecesPatched.{patched_fits, patched_multiple}
use Rattle.lk_law_placement.proofs.PiecesPowers.{align_of_divides}
use Rattle.lk_law_placement.proofs.PiecesSections.{IsOfPieces, row_of_pieces, split_in, unpatched_reserves}
use Rattle.lk_law_placement.proofs.PiecesWalk.{all_placed, all_rows}
use Rattle.lk_law_placement.proofs.SequencesParted.{sequence_fits}

-- a piece of a full placement among the kept ones, with its row
pub record IsPlaced (r : Resolved) (earlier : List KeptPiece) (piece : KeptPiece) (more : List KeptPiece) (row : SectionRow) : Type 0 where
  pub sound : SoundPiece piece
  pub keys : row.key ≡ piece.key
  pub of_pieces : IsOfPieces r row
  pub split : pieces_in row.key r.kept ≡ pieces_in row.key earlier ++ piece ∷ pieces_in row.key more
  pub all_sound : AllByRecursion SoundPiece (pieces_in row.key r.kept)

-- each kept piece is placed
pub is_placed :
    (r : Resolved) (earlier : List KeptPiece) (piece : KeptPiece) (more : List KeptPiece)
    → SoundPieces r
    → r.kept ≡ earlier ++ piece ∷ more
    → (f : FoundRow (full_place r).sections piece.key 0)
    → IsPlaced r earlier piece more f.row
is_placed r earlier piece more sound split f =
    let here = all_between SoundPiece r.kept earlier piece more split sound in
    let keys : f.row.key ≡ piece.key = same_key_reports f.row.key piece.key f.same in
    let back : same_key piece.key f.row.key ≡ true = rw keys (same_key_self piece.key) in
    let no_table : is_table f.row.key ≡ false = ap is_table keys ∙ here.no_table in
    record {
      sound = here;
      keys = keys;
      of_pieces = row_of_pieces r f.number f.row sound f.there no_table;
      split = split_in f.row.key r.kept earlier piece more split back;
      all_sound = sound_in f.row.key r.kept sound;
    }

-- a terminator's section reserves four bytes
pub four_reserved : (r : Resolved) (earlier : List KeptPiece) (piece : KeptPiece) (more : List KeptPiece) (row : SectionRow) → IsPlaced r earlier piece more row → piece.terminator ≡ true → reserved_of row.key ≡ 4
four_reserved r earlier piece more row p ending = ap reserved_of (p.keys ∙ p.sound.framed ending)

-- the room of a section by its kind
room_by_kind : (r : Resolved) (row : SectionRow) (b : Bool) → IsOfPieces r row → is_patched row.key ≡ b → row.room ≡ (pieces_extent b r.options.patch row.key (pieces_in row.key r.kept)).room
room_by_kind r row b p e = rw e at (ap (λ x. x.room) p.reported)

-- and its alignment
align_by_kind : (r : Resolved) (row : SectionRow) (b : Bool) → IsOfPieces r row → is_patched row.key ≡ b → row.align ≡ (pieces_extent b r.options.patch row.key (pieces_in row.key r.kept)).align
align_by_kind r row b p e = rw e at (ap (λ x. x.align) p.reported)

pub room_patched : (r : Resolved) (row : SectionRow) → IsOfPieces r row → is_patched row.key ≡ true → row.room ≡ patched_room r.options.patch (least_of row.key) (reserved_of row.key) (patched_end (least_of row.key) (pieces_in row.key r.kept))
room_patched r row p e = room_by_kind r row true p e

pub align_reported : (r : Resolved) (row : SectionRow) → IsOfPieces r row → row.align ≡ align_of (pieces_in row.key r.kept)
align_reported r row p = go (is_patched row.key) refl
  where
    go : (b : Bool) → is_patched row.key ≡ b → row.align ≡ align_of (pieces_in row.key r.kept)
    go true e = align_by_kind r row true p e
    go false e = align_by_kind r row false p e

-- a piece ends before the reserved end
pub placed_fits :
    (r : Resolved) (earlier : List KeptPiece) (piece : KeptPiece) (more : List KeptPiece) (row : SectionRow)
    → IsPlaced r earlier piece more row
    → offset_in row r.kept earlier piece + piece.size + reserved_of row.key ≤ row.room
placed_fits r earlier piece more row p = go (is_patched row.key) refl
  where
    go : (b : Bool) → is_patched row.key ≡ b → offset_in row r.kept earlier piece + piece.size + reserved_of row.key ≤ row.room
    go true e =
        rw e
        (patched_fits r.options.patch (least_of row.key) (reserved_of row.key) row.room (pieces_in row.key r.kept) (pieces_in row.key earlier) piece (pieces_in row.key more) p.split
        (all_behind SoundPiece (pieces_in row.key r.kept) (pieces_in row.key earlier) piece (pieces_in row.key more) p.split p.all_sound)
        p.sound
        (four_reserved r earlier piece more row p)
        (room_patched r row p.of_pieces e))
    go false e =
        let fits = sequence_fits (is_numbered_array row.key) (pieces_in row.key r.kept) (pieces_in row.key earlier) piece (pieces_in row.key more) p.split p.all_sound in
        let room : row.room ≡ room_of r.options.patch (sequence_end (sequence_of (is_numbered_array row.key) (pieces_in row.key r.kept))) = room_by_kind r row false p.of_pieces e in
        let above = room_above r.options.patch (sequence_end (sequence_of (is_numbered_array row.key) (pieces_in row.key r.kept))) in
        let none = unpatched_reserves row.key e in
        rw e (omega (arith, fits, room, above, none))

-- it is at a multiple of its alignment
pub placed_aligned :
    (r : Resolved) (earlier : List KeptPiece) (piece : KeptPiece) (more : List KeptPiece) (row : SectionRow)
    → IsPlaced r earlier piece more row
    → piece.terminator ≡ false
    → piece.align ∣ row.addr + offset_in row r.kept earlier piece
placed_aligned r earlier piece more row p other =
    let divides : piece.align ∣ align_of (pieces_in row.key r.kept) = align_of_divides (pieces_in row.key r.kept) (pieces_in row.key earlier) piece (pieces_in row.key more) p.split p.all_sound p.sound in
    let row_divides : piece.align ∣ row.align = subst (λ n. piece.align ∣ n) (sym (align_reported r row p.of_pieces)) divides in
    dvd-add piece.align (dvd_trans piece.align row_divides p.of_pieces.on_multiple) (go (is_patched row.key) refl)
  where
    go : (b : Bool) → is_patched row.key ≡ b → piece.align ∣ offset_in row r.kept earlier piece
    go true e = rw e (rw other (patched_multiple (least_of row.key) (patched_end (least_of row.key) (pieces_in row.key earlier)) piece))
    go false e =
        let before : ℕ = sequence_end (before_in_sequence (is_numbered_array row.key) (pieces_in row.key r.kept) (pieces_in row.key earlier) piece) in
        rw e (dvd-mul_left piece.align ((before + (piece.align - 1)) / piece.align))

-- ---- the fields of a lawful placement

-- bytes that end in the room
within : (base offset size reserved room : ℕ) → offset + size + reserved ≤ room → IsTrue (nat_le base (base + offset) && nat_le (base + offset + size) (base + room))
within base offset size reserved room fits = grind (arith, nat_tests, fits)

ends_before : (base offset size reserved room : ℕ) → offset + size + reserved ≤ room → IsTrue (nat_le (base + offset + size + reserved) (base + room))
ends_before base offset size reserved room fits = grind (arith, nat_tests, fits)

-- a piece lies in its section's room
pub full_in_room : (r : Resolved) → SoundPieces r → AllByRecursion (λ (piece : PieceRow). RowOf (full_place r) piece (λ row. nat_le row.addr piece.addr && nat_le (piece.addr + piece.size) (row.addr + row.room))) (full_place r).pieces
unfolding full_place piece_rows
full_in_room r sound =
    all_rows (full_place r).sections r.kept
    (λ (piece : PieceRow). RowOf (full_place r) piece (λ row. nat_le row.addr piece.addr && nat_le (piece.addr + piece.size) (row.addr + row.room)))
    (λ earlier piece more split f.
    let p = is_placed r earlier piece more sound split f in
    rw (f.there) (within f.row.addr (offset_in f.row r.kept earlier piece) piece.size (reserved_of f.row.key) f.row.room (placed_fits r earlier piece more f.row p)))
    (kept_has_row r)

-- no piece covers the reserved end
pub full_end_is_free : (r : Resolved) → SoundPieces r → AllByRecursion (λ (piece : PieceRow). RowOf (full_place r) piece (λ row. nat_le (piece.addr + piece.size + reserved_of row.key) (row.addr + row.room))) (full_place r).pieces
unfolding full_place piece_rows
full_end_is_free r sound =
    all_rows (full_place r).sections r.kept
    (λ (piece : PieceRow). RowOf (full_place r) piece (λ row. nat_le (piece.addr + piece.size + reserved_of row.key) (row.addr + row.room)))
    (λ earlier piece more split f.
    let p = is_placed r earlier piece more sound split f in
    rw (f.there) (ends_before f.row.addr (offset_in f.row r.kept earlier piece) piece.size (reserved_of f.row.key) f.row.room (placed_fits r earlier piece more f.row p)))
    (kept_has_row r)

multiple_reported : (terminator : Bool) (address align : ℕ) → (terminator ≡ false → align ∣ address) → IsTrue (terminator || address % align == 0)
multiple_reported true address align divides = refl
multiple_reported false address align divides = let none = mod-eq-zero_of_dvd align (divides refl) in rw none refl

-- a piece is at a multiple of its alignment
pub full_aligned : (r : Resolved) → SoundPieces r → AllByRecursion (λ (p : Placed). IsTrue (p.1.0.terminator || p.1.1.addr % p.1.1.align == 0)) (placed_of r (full_place r))
unfolding full_place piece_rows
full_aligned r sound =
    all_placed (full_place r).sections r.kept
    (λ (p : Placed). IsTrue (p.1.0.terminator || p.1.1.addr % p.1.1.align == 0))
    (λ i earlier piece more taken split f.
    let p = is_placed r earlier piece more sound split f in
    multiple_reported piece.terminator (f.row.addr + offset_in f.row r.kept earlier piece) piece.align (placed_aligned r earlier piece more f.row p))
    (kept_has_row r)

last_four : (base offset room size : ℕ) → offset ≡ room - 4 → size ≡ 0 → offset + size + 4 ≤ room → IsTrue (base + offset + 4 == base + room)
last_four base offset room size at none fits = grind (arith, nat_tests, at, none, fits)

at_start : (base : ℕ) → IsTrue (base + 0 == base)
at_start base = grind (arith, nat_tests)

-- a piece without bytes is at its section's start, and a terminator before its last four bytes
empty_reported :
    (r : Resolved) (earlier : List KeptPiece) (piece : KeptPiece) (more : List KeptPiece) (number : ℕ) (row : SectionRow)
    → IsPlaced r earlier piece more row
    → IsTrue (not (is_patched row.key) || not (piece.size == 0) || empty_is_at row piece (placed_at piece number row (offset_in row r.kept earlier piece)))
empty_reported r earlier piece more number row p = go (is_patched row.key) (piece.size == 0) piece.terminator refl refl refl
  where
    go : (a b c : Bool) → is_patched row.key ≡ a → (piece.size == 0) ≡ b → piece.terminator ≡ c → IsTrue (not (is_patched row.key) || not (piece.size == 0) || empty_is_at row piece (placed_at piece number row (offset_in row r.kept earlier piece)))
    go false b c e f g = rw e refl
    go true false c e f g = rw e (rw f refl)
    go true true true e f g =
        let fits = placed_fits r earlier piece more row p in
        let four = four_reserved r earlier piece more row p g in
        let empty : piece.size ≡ 0 = p.sound.empty g in
        let offset : offset_in row r.kept earlier piece ≡ row.room - 4 = rw e (rw g refl) in
        let there = last_four row.addr (offset_in row r.kept earlier piece) row.room piece.size offset empty (omega (arith, fits, four)) in
        rw e (rw f (rw g (rw e at (rw g at there))))
    go true true false e f g = rw e (rw f (rw g (at_start row.addr)))

pub full_empties : (r : Resolved) → SoundPieces r → AllByRecursion (λ (p : Placed). RowOf (full_place r) p.1.1 (λ row. not (is_patched row.key) || not (p.1.0.size == 0) || empty_is_at row p.1.0 p.1.1)) (placed_of r (full_place r))
unfolding full_place piece_rows
full_empties r sound =
    all_placed (full_place r).sections r.kept
    (λ (p : Placed). RowOf (full_place r) p.1.1 (λ row. not (is_patched row.key) || not (p.1.0.size == 0) || empty_is_at row p.1.0 p.1.1))
    (λ i earlier piece more taken split f.
    let p = is_placed r earlier piece more sound split f in
    rw (f.there) (empty_reported r earlier piece more f.number f.row p))
    (kept_has_row r)
