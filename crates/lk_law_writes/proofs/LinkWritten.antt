-- An image of zeros with the writes of a link in it is laid out.
use Rattle.std.specs.Prelude.{◌≡◌, ◌≤◌, ◌+◌, ◌-◌, ◌⊎◌, ℕ, Bool, true, false, List, [], ◌∷◌, ◌++◌, Option, Some, None, ◌==◌, filter, flat_map, fold, length, map, refl, replicate, zip}
use Rattle.std.specs.List.{AllByRecursion, Contains, enumerate_from, slice_get}
use Rattle.std.proofs.Common.{ap, arith, inl, inr, subst, sym, ◌∙◌}
use Rattle.std.proofs.lemmas.Bool.{eq-eqb, eqb-true}
use Rattle.std.proofs.lemmas.List.{append-nil, append_assoc, length-append, length-replicate}
use Rattle.lk_elf.specs.Records.{shdr_bytes}
use Rattle.lk_model.specs.Answers.{length_with}
use Rattle.lk_model.specs.FileHeader.{header_bytes}
use Rattle.lk_model.specs.FullPlace.{tail_start}
use Rattle.lk_model.specs.Holes.{holes_of}
use Rattle.lk_model.specs.Images.{end_stretches, hole_stretch, is_in_row, part_stretch, piece_stretch, row_stretches, seal, seal_offset, stretch, stretches_with, table_stretches}
use Rattle.lk_model.specs.SectionKeys.{in_file, is_table}
use Rattle.lk_model.specs.Stretches.{IsLaidOut, Stretch, end_of_all}
use Rattle.lk_model.specs.Tables.{table_of_key}
use Rattle.lk_model.specs.Tail.{Part, headers_offset, parts_from, section_headers}
use Rattle.lk_model.specs.Views.{KeptPiece, Resolved}
use Rattle.lk_model.specs.declared.layouts.PieceRow.{PieceRow}
use Rattle.lk_model.specs.declared.layouts.Placement.{Placement}
use Rattle.lk_model.specs.declared.layouts.SectionRow.{SectionRow}
use Rattle.lk_model.proofs.Rising.{all_map, all_of_map}
use Rattle.lk_law_placement.proofs.DistinctLists.{all_both, all_joined, all_mapped}
use Rattle.lk_law_placement.proofs.PiecesLists.{all_back, all_front, all_numbered}
use Rattle.lk_law_loading.proofs.Greatest.{all_filtered, all_unfiltered}
use Rattle.lk_law_loading.proofs.PairsInOrder.{all_for}
use Rattle.lk_law_loading.proofs.PiecesAreAt.{StoredRow}
use Rattle.lk_law_writes.specs.LaidLaws.{AreLaid, GroupsAreWritten, HaveSame, LinkIsWritten, LinkIsWrittenInOrder, SealedLinkIsWritten, TablesAreWritten, TablesAreZeros, link_groups, link_writes}
use Rattle.lk_law_writes.specs.Layable.{Layable}
use Rattle.lk_law_writes.specs.Written.{fill_stretches, front_with, piece_stretches, placed_stretch, row_fill, row_table, stretch_in, table_stretches_of, tail_stretches, written}
use Rattle.lk_law_writes.specs.WrittenLaws.{AllEndWithin, IsZeros, Puts}
use Rattle.lk_law_writes.proofs.LinkApart.{all_laid, beginning_with, headers_short}
use Rattle.lk_law_writes.proofs.PairsOfLists.{all_flat, all_seconds, each_flat, of_numbered}
use Rattle.lk_law_writes.proofs.PiecesInRows.{Pair}
use Rattle.lk_law_writes.proofs.RowStretches.{end_all, table_all}
use Rattle.lk_law_writes.proofs.WrittenBytes.{each_contained, of_contained, padding_is_zeros, written_in_turn, written_is_laid_out}
use Rattle.lk_law_writes.proofs.ZeroTables.{zero_tables}

-- ---- from the stretches of an image to the writes

-- what is in a row that the file holds
abbrev PiecesIn : Resolved → Placement → ℕ → SectionRow → List Stretch
PiecesIn r place n row = map (piece_stretch r place row) (filter (is_in_row n) (zip r.kept place.pieces))

abbrev StoredStretches : Resolved → Placement → ℕ → SectionRow → List Stretch
StoredStretches r place n row = PiecesIn r place n row ++ table_stretches r place row ++ map (hole_stretch row) (holes_of place n) ++ end_stretches row

stored_stretches : (r : Resolved) (place : Placement) (n : ℕ) (row : SectionRow) → in_file row.key.class ≡ true → row_stretches r place (n, row) ≡ StoredStretches r place n row
stored_stretches r place n row stored = rw stored refl

-- what holds of all stretches of an image, part by part
record OfParts (P : Stretch → Type 0) (front : List ℕ) (r : Resolved) (place : Placement) (parts : List Part) : Type 0 where
  first : P (stretch 0 front)
  second : P (stretch seal_offset seal)
  rows : AllByRecursion (λ e. AllByRecursion P (row_stretches r place e)) (enumerate_from 0 place.sections)
  tail : AllByRecursion P (tail_stretches place parts)

of_parts : (P : Stretch → Type 0) (front : List ℕ) (r : Resolved) (place : Placement) (parts : List Part) → AllByRecursion P (beginning_with front r place parts) → OfParts P front r place parts
of_parts P front r place parts all =
    let rows = flat_map (row_stretches r place) (enumerate_from 0 place.sections) in
    let before = stretch 0 front ∷ stretch seal_offset seal ∷ rows in
    let tail = map part_stretch (parts_from (tail_start place) parts) in
    let last = stretch (headers_offset place parts) (flat_map shdr_bytes (section_headers place parts)) ∷ [] in
    let both : AllByRecursion P (before ++ tail) = all_front P (before ++ tail) last all in
    let start : AllByRecursion P before = all_front P before tail both in
    record {
      first = start.0;
      second = start.1.0;
      rows = each_flat P (row_stretches r place) (enumerate_from 0 place.sections) start.1.1;
      tail = all_joined P tail last (all_back P before tail both) (all_back P (before ++ tail) last all);
    }

row_of_number : (P : Stretch → Type 0) (r : Resolved) (place : Placement) (h : StoredRow place) → AllByRecursion (λ e. AllByRecursion P (row_stretches r place e)) (enumerate_from 0 place.sections) → AllByRecursion P (StoredStretches r place h.number h.row)
row_of_number P r place h rows =
    subst (AllByRecursion P) (stored_stretches r place h.number h.row h.stored)
    (of_numbered (λ e. AllByRecursion P (row_stretches r place e)) place.sections h.number h.row h.there rows)

-- the pieces of a row
row_pieces : (P : Stretch → Type 0) (r : Resolved) (place : Placement) (n : ℕ) (row : SectionRow) → AllByRecursion P (StoredStretches r place n row) → AllByRecursion (λ z. is_in_row n z ≡ true → P (piece_stretch r place row z)) (zip r.kept place.pieces)
row_pieces P r place n row all =
    let pieces = PiecesIn r place n row in
    let table = table_stretches r place row in
    let holes = map (hole_stretch row) (holes_of place n) in
    all_unfiltered (λ z. P (piece_stretch r place row z)) (is_in_row n) (zip r.kept place.pieces)
    (all_of_map (piece_stretch r place row) P (filter (is_in_row n) (zip r.kept place.pieces))
    (all_front P pieces table (all_front P (pieces ++ table) holes (all_front P (pieces ++ table ++ holes) (end_stretches row) all))))

row_holes : (P : Stretch → Type 0) (r : Resolved) (place : Placement) (n : ℕ) (row : SectionRow) → AllByRecursion P (StoredStretches r place n row) → AllByRecursion P (map (hole_stretch row) (holes_of place n))
row_holes P r place n row all =
    let pieces = PiecesIn r place n row in
    let table = table_stretches r place row in
    let holes = map (hole_stretch row) (holes_of place n) in
    all_back P (pieces ++ table) holes (all_front P (pieces ++ table ++ holes) (end_stretches row) all)

row_table_of : (P : Stretch → Type 0) (r : Resolved) (place : Placement) (n : ℕ) (row : SectionRow) → AllByRecursion P (StoredStretches r place n row) → AllByRecursion P (table_stretches r place row)
row_table_of P r place n row all =
    let pieces = PiecesIn r place n row in
    let table = table_stretches r place row in
    let holes = map (hole_stretch row) (holes_of place n) in
    all_back P pieces table (all_front P (pieces ++ table) holes (all_front P (pieces ++ table ++ holes) (end_stretches row) all))

-- all pieces
abbrev PieceHas : (Stretch → Type 0) → Resolved → Placement → Pair → Type 0
PieceHas P r place z = (h : StoredRow place) → is_in_row h.number z ≡ true → P (piece_stretch r place h.row z)

is_itself : (n : ℕ) → (n == n) ≡ true
is_itself n = eq-eqb n n refl

in_stored : (P : Stretch → Type 0) (r : Resolved) (place : Placement) (z : Pair) (row : SectionRow) → (in_file row.key.class ≡ true → P (piece_stretch r place row z)) → AllByRecursion P (stretch_in r place z (Some row))
in_stored P r place z row has = go (in_file row.key.class) refl
  where
    go : (b : Bool) → in_file row.key.class ≡ b → AllByRecursion P (stretch_in r place z (Some row))
    go true e = rw e (has e, tt)
    go false e = rw e tt

one_piece : (P : Stretch → Type 0) (r : Resolved) (place : Placement) (kept : KeptPiece) (p : PieceRow) → PieceHas P r place (kept, p) → AllByRecursion P (placed_stretch r place (kept, p))
one_piece P r place kept p has = go (slice_get place.sections p.section) refl
  where
    go : (o : Option SectionRow) → slice_get place.sections p.section ≡ o → AllByRecursion P (placed_stretch r place (kept, p))
    go None e = rw e tt
    go (Some row) e = rw e (in_stored P r place (kept, p) row (λ stored. has (record { number = p.section; row = row; there = e; stored = stored }) (is_itself p.section)))

all_pieces : (P : Stretch → Type 0) (r : Resolved) (place : Placement) → AllByRecursion (λ e. AllByRecursion P (row_stretches r place e)) (enumerate_from 0 place.sections) → AllByRecursion P (piece_stretches r place)
all_pieces P r place rows =
    all_flat P (placed_stretch r place) (zip r.kept place.pieces)
    (all_map {Q = λ z. AllByRecursion P (placed_stretch r place z)} (λ z has. one_piece P r place z.0 z.1 has) (zip r.kept place.pieces)
    (all_for (λ (h : StoredRow place) z. is_in_row h.number z ≡ true → P (piece_stretch r place h.row z)) (zip r.kept place.pieces)
    (λ h. row_pieces P r place h.number h.row (row_of_number P r place h rows))))

-- all fill
one_fill : (P : Stretch → Type 0) (r : Resolved) (place : Placement) (n : ℕ) (row : SectionRow) → AllByRecursion P (row_stretches r place (n, row)) → AllByRecursion P (row_fill place (n, row))
one_fill P r place n row all = go (in_file row.key.class) refl
  where
    go : (b : Bool) → in_file row.key.class ≡ b → AllByRecursion P (row_fill place (n, row))
    go true e = rw e (row_holes P r place n row (subst (AllByRecursion P) (stored_stretches r place n row e) all))
    go false e = rw e tt

all_fill : (P : Stretch → Type 0) (r : Resolved) (place : Placement) → AllByRecursion (λ e. AllByRecursion P (row_stretches r place e)) (enumerate_from 0 place.sections) → AllByRecursion P (fill_stretches place)
all_fill P r place rows =
    all_flat P (row_fill place) (enumerate_from 0 place.sections)
    (all_map {Q = λ e. AllByRecursion P (row_fill place e)} (λ e all. one_fill P r place e.0 e.1 all) (enumerate_from 0 place.sections) rows)

-- all tables
one_table : (P : Stretch → Type 0) (r : Resolved) (place : Placement) (n : ℕ) (row : SectionRow) → AllByRecursion P (row_stretches r place (n, row)) → AllByRecursion P (row_table r place row)
one_table P r place n row all = go (in_file row.key.class) refl
  where
    go : (b : Bool) → in_file row.key.class ≡ b → AllByRecursion P (row_table r place row)
    go true e = rw e (row_table_of P r place n row (subst (AllByRecursion P) (stored_stretches r place n row e) all))
    go false e = rw e tt

from_seconds : (P : SectionRow → Type 0) (i : ℕ) (rows : List SectionRow) → AllByRecursion (λ (e : ℕ × SectionRow). P e.1) (enumerate_from i rows) → AllByRecursion P rows
from_seconds P i [] all = tt
from_seconds P i (row ∷ rows) all = (all.0, from_seconds P (i + 1) rows all.1)

all_tables : (P : Stretch → Type 0) (r : Resolved) (place : Placement) → AllByRecursion (λ e. AllByRecursion P (row_stretches r place e)) (enumerate_from 0 place.sections) → AllByRecursion P (table_stretches_of r place)
all_tables P r place rows =
    all_flat P (row_table r place) place.sections
    (from_seconds (λ row. AllByRecursion P (row_table r place row)) 0 place.sections
    (all_map {Q = λ e. AllByRecursion P (row_table r place e.1)} (λ e all. one_table P r place e.0 e.1 all) (enumerate_from 0 place.sections) rows))

-- so what holds of all stretches holds of all writes
writes_have :
    (P : Stretch → Type 0) (zeros : ℕ) (r : Resolved) (place : Placement) (parts : List Part)
    → AllByRecursion P (beginning_with (header_bytes r place parts ++ replicate zeros 0) r place parts)
    → AllByRecursion P (link_writes zeros r place parts ++ table_stretches_of r place)
writes_have P zeros r place parts all =
    let k = of_parts P (header_bytes r place parts ++ replicate zeros 0) r place parts all in
    let front = front_with zeros r place parts in
    let pieces = piece_stretches r place in
    let fill = fill_stretches place in
    all_joined P (link_writes zeros r place parts) (table_stretches_of r place)
    (all_joined P (front ++ pieces ++ fill) (tail_stretches place parts)
    (all_joined P (front ++ pieces) fill
    (all_joined P front pieces (k.first, (k.second, tt)) (all_pieces P r place k.rows))
    (all_fill P r place k.rows))
    k.tail)
    (all_tables P r place k.rows)

-- ---- from the writes to the stretches

-- what holds of all writes, part by part
record OfWrites (P : Stretch → Type 0) (zeros : ℕ) (r : Resolved) (place : Placement) (parts : List Part) : Type 0 where
  front : AllByRecursion P (front_with zeros r place parts)
  pieces : AllByRecursion (λ z. AllByRecursion P (placed_stretch r place z)) (zip r.kept place.pieces)
  fill : AllByRecursion (λ e. AllByRecursion P (row_fill place e)) (enumerate_from 0 place.sections)
  tail : AllByRecursion P (tail_stretches place parts)

of_writes : (P : Stretch → Type 0) (zeros : ℕ) (r : Resolved) (place : Placement) (parts : List Part) → AllByRecursion P (link_writes zeros r place parts) → OfWrites P zeros r place parts
of_writes P zeros r place parts all =
    let front = front_with zeros r place parts in
    let pieces = piece_stretches r place in
    let fill = fill_stretches place in
    let tail = tail_stretches place parts in
    let three : AllByRecursion P (front ++ pieces ++ fill) = all_front P (front ++ pieces ++ fill) tail all in
    let two : AllByRecursion P (front ++ pieces) = all_front P (front ++ pieces) fill three in
    record {
      front = all_front P front pieces two;
      pieces = each_flat P (placed_stretch r place) (zip r.kept place.pieces) (all_back P front pieces two);
      fill = each_flat P (row_fill place) (enumerate_from 0 place.sections) (all_back P (front ++ pieces) fill three);
      tail = all_back P (front ++ pieces ++ fill) tail all;
    }

-- a piece that is in a row
placed_there : (P : Stretch → Type 0) (r : Resolved) (place : Placement) (n : ℕ) (row : SectionRow) → slice_get place.sections n ≡ Some row → in_file row.key.class ≡ true → (kept : KeptPiece) (p : PieceRow) → AllByRecursion P (placed_stretch r place (kept, p)) → is_in_row n (kept, p) ≡ true → P (piece_stretch r place row (kept, p))
placed_there P r place n row there stored kept p all own =
    let number : p.section ≡ n = eqb-true p.section n own in
    let here : slice_get place.sections p.section ≡ Some row = ap (slice_get place.sections) number ∙ there in
    let one : AllByRecursion P (stretch_in r place (kept, p) (Some row)) = subst (λ (o : Option SectionRow). AllByRecursion P (stretch_in r place (kept, p) o)) here all in
    (rw stored at one).0

row_has :
    (P : Stretch → Type 0) (r : Resolved) (place : Placement)
    → ((row : SectionRow) → P (stretch (row.offset + (row.room - 4)) (replicate 4 0)))
    → AllByRecursion (λ z. AllByRecursion P (placed_stretch r place z)) (zip r.kept place.pieces)
    → (n : ℕ) (row : SectionRow)
    → slice_get place.sections n ≡ Some row
    → AllByRecursion P (row_table r place row)
    → AllByRecursion P (row_fill place (n, row))
    → AllByRecursion P (row_stretches r place (n, row))
row_has P r place ends pieces n row there table fill = go (in_file row.key.class) refl
  where
    go : (b : Bool) → in_file row.key.class ≡ b → AllByRecursion P (row_stretches r place (n, row))
    go true e =
        let items = zip r.kept place.pieces in
        let own = PiecesIn r place n row in
        let tables = table_stretches r place row in
        let holes = map (hole_stretch row) (holes_of place n) in
        let has : AllByRecursion P own =
        all_mapped (piece_stretch r place row) P (filter (is_in_row n) items)
        (all_filtered (λ z. P (piece_stretch r place row z)) (is_in_row n) items
        (all_map {Q = λ z. is_in_row n z ≡ true → P (piece_stretch r place row z)} (λ z all inside. placed_there P r place n row there e z.0 z.1 all inside) items pieces)) in
        subst (AllByRecursion P) (sym (stored_stretches r place n row e))
        (all_joined P (own ++ tables ++ holes) (end_stretches row)
        (all_joined P (own ++ tables) holes
        (all_joined P own tables has (rw e at table))
        (rw e at fill))
        (end_all P row (λ frames. ends row)))
    go false e = rw e tt

stretches_have :
    (P : Stretch → Type 0) (zeros : ℕ) (r : Resolved) (place : Placement) (parts : List Part)
    → ((s : Stretch) → IsZeros s → P s)
    → AllByRecursion P (link_writes zeros r place parts)
    → AllByRecursion (λ row. AllByRecursion P (row_table r place row)) place.sections
    → AllByRecursion P (beginning_with (header_bytes r place parts ++ replicate zeros 0) r place parts)
stretches_have P zeros r place parts zero all tables =
    let k = of_writes P zeros r place parts all in
    let entries = enumerate_from 0 place.sections in
    let rows = flat_map (row_stretches r place) entries in
    let before = stretch 0 (header_bytes r place parts ++ replicate zeros 0) ∷ stretch seal_offset seal ∷ rows in
    let tail = map part_stretch (parts_from (tail_start place) parts) in
    let last = stretch (headers_offset place parts) (flat_map shdr_bytes (section_headers place parts)) ∷ [] in
    let there : AllByRecursion (λ (e : ℕ × SectionRow). slice_get place.sections e.0 ≡ Some e.1) entries = all_numbered (λ (e : ℕ × SectionRow). slice_get place.sections e.0 ≡ Some e.1) place.sections (λ n row here. here) in
    let numbered : AllByRecursion (λ (e : ℕ × SectionRow). AllByRecursion P (row_table r place e.1)) entries = all_seconds (λ row. AllByRecursion P (row_table r place row)) 0 place.sections tables in
    let each : AllByRecursion (λ e. AllByRecursion P (row_stretches r place e)) entries =
    all_both {R = λ e. AllByRecursion P (row_stretches r place e)}
    (λ e here both. row_has P r place (λ row. zero (stretch (row.offset + (row.room - 4)) (replicate 4 0)) refl) k.pieces e.0 e.1 here both.0 both.1)
    entries there
    (all_both {R = λ e. AllByRecursion P (row_table r place e.1) × AllByRecursion P (row_fill place e)} (λ e one other. (one, other)) entries numbered k.fill) in
    all_joined P (before ++ tail) last
    (all_joined P before tail (k.front.0, (k.front.1.0, all_flat P (row_stretches r place) entries each)) (all_front P tail last k.tail))
    (all_back P tail last k.tail)

-- ---- images

-- writes that have all stretches but zeros, and no others
puts_laid :
    (r : Resolved) (place : Placement) (parts : List Part) (zeros : ℕ) (ts : List Stretch)
    → Layable r place
    → length (header_bytes r place parts) + zeros ≤ seal_offset
    → Puts (beginning_with (header_bytes r place parts ++ replicate zeros 0) r place parts) ts
    → IsLaidOut (stretches_with r place parts) (written (replicate (length_with place parts) 0) ts)
puts_laid r place parts zeros ts l short puts =
    let headers = header_bytes r place parts in
    let front = headers ++ replicate zeros 0 in
    let ss = beginning_with front r place parts in
    let n : ℕ = length_with place parts in
    let long = length-append headers (replicate zeros 0) in
    let more = length-replicate {A = ℕ} zeros 0 in
    let laid : AreLaid ss n = all_laid front r place parts l (omega (arith, long, more, short)) in
    let ends : end_of_all ss ≡ n = laid.ends in
    let image : IsLaidOut ss (written (replicate (end_of_all ss) 0) ts) = written_is_laid_out ss ts laid.apart (subst (λ k. AllEndWithin k ss) (sym ends) laid.within) puts in
    let rows = flat_map (row_stretches r place) (enumerate_from 0 place.sections) in
    let others = (rows ++ map part_stretch (parts_from (tail_start place) parts)) ++ stretch (headers_offset place parts) (flat_map shdr_bytes (section_headers place parts)) ∷ [] in
    padding_is_zeros 0 zeros headers (stretch seal_offset seal) others (written (replicate n 0) ts)
    (subst (λ k. IsLaidOut ss (written (replicate k 0) ts)) ends image)

-- each is zeros, or is written
abbrev IsPut : List Stretch → Stretch → Type 0
IsPut ts s = IsZeros s ⊎ Contains ts s

-- the writes of a list are among its stretches
only_these : (ss writes ts : List Stretch) → AllByRecursion (λ s. Contains ss s) writes → AllByRecursion (λ t. Contains writes t) ts → AllByRecursion (λ t. Contains ss t) ts
only_these ss writes ts among there = all_map {Q = λ t. Contains ss t} (λ t here. of_contained (λ s. Contains ss s) writes t among here) ts there

each_put : (ts writes : List Stretch) → AllByRecursion (λ s. Contains ts s) writes → AllByRecursion (IsPut ts) writes
each_put ts writes there = all_map {Q = IsPut ts} (λ s here. inr here) writes there

-- zeros for the tables
zeros_reported : (n : ℕ) (bytes : List ℕ) → bytes ≡ replicate n 0 → bytes ≡ replicate (length bytes) 0
zeros_reported n bytes zero = zero ∙ ap (λ k. replicate k 0) (sym (ap length zero ∙ length-replicate n 0))

tables_zero : (ts : List Stretch) (r : Resolved) (place : Placement) (row : SectionRow) → (is_table row.key ≡ true → table_of_key r place row.key ≡ replicate row.size 0) → AllByRecursion (IsPut ts) (row_table r place row)
tables_zero ts r place row zero = go (in_file row.key.class) refl
  where
    go : (b : Bool) → in_file row.key.class ≡ b → AllByRecursion (IsPut ts) (row_table r place row)
    go true e = rw e (table_all (IsPut ts) r place row (λ is. inl (zeros_reported row.size (table_of_key r place row.key) (zero is))))
    go false e = rw e tt

pub tables_are_zeros : TablesAreZeros
tables_are_zeros r place l static = zero_tables r place l.loadable.lawful l.no_tables static.static static.nothing

pub link_is_written : LinkIsWritten
link_is_written r place parts zeros ts l static short same =
    let ss = beginning_with (header_bytes r place parts ++ replicate zeros 0) r place parts in
    let writes = link_writes zeros r place parts in
    puts_laid r place parts zeros ts l short
    (record {
      only = only_these ss writes ts (all_front (λ s. Contains ss s) writes (table_stretches_of r place) (writes_have (λ s. Contains ss s) zeros r place parts (each_contained ss))) same.0;
      each =
          stretches_have (IsPut ts) zeros r place parts (λ s zero. inl zero) (each_put ts writes same.1)
          (all_map {Q = λ row. AllByRecursion (IsPut ts) (row_table r place row)} (λ row zero. tables_zero ts r place row zero) place.sections (tables_are_zeros r place l static));
    })

-- ---- group by group

-- the items of groups
abbrev items : List (List Stretch) → List Stretch
items groups = flat_map (λ group. group) groups

fold_is_written : (image : List ℕ) (groups : List (List Stretch)) → fold written image groups ≡ written image (items groups)
fold_is_written image [] = refl
fold_is_written image (g ∷ gs) = fold_is_written (written image g) gs ∙ sym (written_in_turn image g (items gs))

-- groups among others have items among theirs
items_among : (gs hs : List (List Stretch)) → AllByRecursion (λ h. Contains gs h) hs → AllByRecursion (λ t. Contains (items gs) t) (items hs)
items_among gs hs among =
    let among_items = λ (t : Stretch). Contains (items gs) t in
    all_flat among_items (λ group. group) hs
    (all_map {Q = λ h. AllByRecursion among_items h}
    (λ h there. of_contained (λ g. AllByRecursion among_items g) gs h (each_flat among_items (λ group. group) gs (each_contained (items gs))) there)
    hs among)

groups_are_writes : (zeros : ℕ) (r : Resolved) (place : Placement) (parts : List Part) → items (link_groups zeros r place parts) ≡ link_writes zeros r place parts
groups_are_writes zeros r place parts =
    let front = front_with zeros r place parts in
    ap (λ l. front ++ l) (sym (append_assoc (piece_stretches r place) (fill_stretches place) (tail_stretches place parts)))

pub groups_are_written : GroupsAreWritten
groups_are_written r place parts zeros groups l static short same =
    let own = link_groups zeros r place parts in
    let both : HaveSame (link_writes zeros r place parts) (items groups) =
    subst (λ (ss : List Stretch). HaveSame ss (items groups)) (groups_are_writes zeros r place parts) (items_among own groups same.0, items_among groups own same.1) in
    subst (IsLaidOut (stretches_with r place parts)) (sym (fold_is_written (replicate (length_with place parts) 0) groups))
    (link_is_written r place parts zeros (items groups) l static short both)

-- ---- in their order

-- a list lies within itself
same_as_itself : (ss : List Stretch) → HaveSame ss ss
same_as_itself ss = (each_contained ss, each_contained ss)

pub link_is_written_in_order : LinkIsWrittenInOrder
link_is_written_in_order r place parts l static =
    let headers = header_bytes r place parts in
    let short = headers_short r place parts l in
    subst
    (λ (bytes : List ℕ). IsLaidOut (stretches_with r place parts) (written (replicate (length_with place parts) 0) ((stretch 0 bytes ∷ stretch seal_offset seal ∷ []) ++ piece_stretches r place ++ fill_stretches place ++ tail_stretches place parts)))
    (append-nil headers)
    (link_is_written r place parts 0 (link_writes 0 r place parts) l static (omega (arith, short)) (same_as_itself (link_writes 0 r place parts)))

pub sealed_link_is_written : SealedLinkIsWritten
sealed_link_is_written r place parts l static =
    let short = headers_short r place parts l in
    let zeros : ℕ = seal_offset - length (header_bytes r place parts) in
    link_is_written r place parts zeros (link_writes zeros r place parts) l static (omega (arith, short)) (same_as_itself (link_writes zeros r place parts))

-- ---- with tables

pub tables_are_written : TablesAreWritten
tables_are_written r place parts zeros ts l short same =
    let ss = beginning_with (header_bytes r place parts ++ replicate zeros 0) r place parts in
    let writes = link_writes zeros r place parts in
    let tables = table_stretches_of r place in
    let put : AllByRecursion (IsPut ts) (writes ++ tables) = each_put ts (writes ++ tables) same.1 in
    puts_laid r place parts zeros ts l short
    (record {
      only = only_these ss (writes ++ tables) ts (writes_have (λ s. Contains ss s) zeros r place parts (each_contained ss)) same.0;
      each =
          stretches_have (IsPut ts) zeros r place parts (λ s zero. inl zero) (all_front (IsPut ts) writes tables put)
          (each_flat (IsPut ts) (row_table r place) place.sections (all_back (IsPut ts) writes tables put));
    })
