-- The stretches of a link share no byte, and the last one ends the image.
use Rattle.std.specs.Prelude.{◌≡◌, ℕ, Bool, true, false, IsTrue, List, [], ◌∷◌, ◌++◌, Some, ◌+◌, ◌==◌, ◌≤◌, ◌&&◌, flat_map, length, map, nat_le, refl, zip}
use Rattle.std.specs.List.{AllByRecursion, enumerate_from, slice_get}
use Rattle.std.proofs.Common.{arith, subst, sym, ◌∙◌}
use Rattle.std.proofs.lemmas.Bool.{and_parts, leb-true}
use Rattle.lk_elf.specs.Records.{shdr_bytes}
use Rattle.lk_model.specs.Answers.{length_with}
use Rattle.lk_model.specs.FileHeader.{exec_stack_of, header_bytes}
use Rattle.lk_model.specs.FullPlace.{tail_start}
use Rattle.lk_model.specs.Images.{is_in_row, part_stretch, row_stretches, seal, seal_offset, stretch}
use Rattle.lk_model.specs.Lawful.{Lawful, Pairs, holes_are_fillable, is_no_strange_table, offsets_apart, pieces_apart, size_of}
use Rattle.lk_model.specs.SectionKeys.{in_file, is_table, reserved_of}
use Rattle.lk_model.specs.Segments.{program_headers}
use Rattle.lk_model.specs.Stretches.{Stretch, end_of_all}
use Rattle.lk_model.specs.Tail.{Part, headers_offset, parts_end, parts_from, section_headers}
use Rattle.lk_model.specs.Views.{KeptPiece, Resolved}
use Rattle.lk_model.specs.declared.layouts.Placement.{Placement}
use Rattle.lk_model.specs.declared.layouts.SectionRow.{SectionRow}
use Rattle.lk_model.proofs.Multiples.{round_up_above}
use Rattle.lk_model.proofs.Rising.{all_filter, all_map, rising_above, rising_apart}
use Rattle.lk_law_placement.proofs.DistinctLists.{all_always, all_both, all_joined}
use Rattle.lk_law_placement.proofs.PiecesLists.{all_numbered, all_numbered_one}
use Rattle.lk_law_loading.proofs.Greatest.{all_filtered}
use Rattle.lk_law_loading.proofs.PairsInOrder.{pairs_joined}
use Rattle.lk_law_writes.specs.Layable.{Layable}
use Rattle.lk_law_writes.specs.LaidLaws.{AreLaid, HeadersAreShort, SectionsEndWithin, StretchesAreLaid}
use Rattle.lk_law_writes.specs.WrittenLaws.{EndsWithin, ShareNothing}
use Rattle.lk_law_writes.proofs.FillLengths.{fill_lengths}
use Rattle.lk_law_writes.proofs.HolesApart.{holes_lie}
use Rattle.lk_law_writes.proofs.PairsOfLists.{all_flat, all_zipped_first, of_numbered, pairs_filtered, pairs_flat, pairs_numbered, pairs_unfiltered, pairs_with, pairs_zipped}
use Rattle.lk_law_writes.proofs.PiecesInRows.{Pair, pieces_in_row, pieces_lie}
use Rattle.lk_law_writes.proofs.RowBounds.{RowBetween, front_end, rows_between, tail_late}
use Rattle.lk_law_writes.proofs.RowStretches.{Across, Lies, RowKnown, row_apart, row_lies}
use Rattle.lk_law_writes.proofs.SpansApart.{above_apart, smaller_apart, turned_apart}
use Rattle.lk_law_writes.proofs.TableLengths.{table_length}
use Rattle.lk_law_writes.proofs.TailRises.{at_of, end_above, length_header_bytes, length_section_headers, parts_below, parts_rise, size_in, tail_parts_at}

-- ---- one row

no_tables_in : (place : Placement) (r : Resolved) → AllByRecursion (λ (kept : KeptPiece). is_table kept.key ≡ false) r.kept → AllByRecursion (λ (z : Pair). is_table z.0.key ≡ false) (zip r.kept place.pieces)
no_tables_in place r none = all_zipped_first (λ (kept : KeptPiece). is_table kept.key ≡ false) r.kept place.pieces none

fillable_at : (place : Placement) (number : ℕ) (row : SectionRow) → slice_get place.sections number ≡ Some row → AllByRecursion (λ (e : ℕ × SectionRow). IsTrue (holes_are_fillable place e.0 e.1)) (enumerate_from 0 place.sections) → IsTrue (holes_are_fillable place number row)
fillable_at place number row there all = of_numbered (λ (e : ℕ × SectionRow). IsTrue (holes_are_fillable place e.0 e.1)) place.sections number row there all

-- what is known of a row that the file holds
row_known : (r : Resolved) (place : Placement) (number : ℕ) (row : SectionRow) → Layable r place → slice_get place.sections number ≡ Some row → in_file row.key.class ≡ true → RowKnown r place number row
row_known r place number row l there stored =
    let lawful : Lawful r place = l.loadable.lawful in
    let lie = holes_lie place number row there in
    let test = is_in_row number in
    let items = zip r.kept place.pieces in
    let sized = all_numbered_one (λ (w : SectionRow). IsTrue (w.size == size_of r place w && nat_le w.size w.room)) place.sections number row there lawful.sizes in
    record {
      pieces = all_filtered _ test items (pieces_in_row r place number row there stored lie (pieces_lie r place lawful l.loadable.whole));
      apart = pairs_filtered (λ (a b : Pair). IsTrue (pieces_apart a.1 b.1)) test items (pairs_zipped (λ a b. IsTrue (pieces_apart a b)) r.kept place.pieces lawful.pieces_share_nothing);
      holes = lie;
      filled = fill_lengths place number row (fillable_at place number row there lawful.fillable);
      none = all_filter (λ (z : Pair). is_table z.0.key ≡ false) test items (no_tables_in place r l.no_tables);
      table = λ is. table_length r place row l.no_tables is (all_numbered_one (λ (w : SectionRow). IsTrue (is_no_strange_table r place.slots w)) place.sections number row there lawful.no_other_tables) sized;
      size = leb-true row.size row.room (and_parts (row.size == size_of r place row) (nat_le row.size row.room) sized).1;
      end = all_numbered_one (λ (w : SectionRow). reserved_of w.key ≤ w.room) place.sections number row there l.ends;
    }

-- what is in a row lies in its room, and shares no byte
abbrev InOwnRoom : Resolved → Placement → ℕ × SectionRow → Type 0
InOwnRoom r place e = AllByRecursion (Lies e.1.offset (e.1.offset + e.1.room)) (row_stretches r place e)

row_in_room : (r : Resolved) (place : Placement) → Layable r place → (number : ℕ) (row : SectionRow) → slice_get place.sections number ≡ Some row → InOwnRoom r place (number, row)
row_in_room r place l number row there = go (in_file row.key.class) refl
  where
    go : (b : Bool) → in_file row.key.class ≡ b → InOwnRoom r place (number, row)
    go true e = rw e (row_lies r place number row (row_known r place number row l there e))
    go false e = rw e tt

row_shares_nothing : (r : Resolved) (place : Placement) → Layable r place → (number : ℕ) (row : SectionRow) → slice_get place.sections number ≡ Some row → Pairs ShareNothing (row_stretches r place (number, row))
row_shares_nothing r place l number row there = go (in_file row.key.class) refl
  where
    go : (b : Bool) → in_file row.key.class ≡ b → Pairs ShareNothing (row_stretches r place (number, row))
    go true e = rw e (row_apart r place number row (row_known r place number row l there e))
    go false e = rw e tt

-- ---- all rows

-- what lies in rooms that share no byte shares none
rooms_apart : (a b : SectionRow) (s t : Stretch) → IsTrue (offsets_apart a b) → Lies a.offset (a.offset + a.room) s → Lies b.offset (b.offset + b.room) t → ShareNothing s t
rooms_apart a b s t apart one other =
    let first = smaller_apart a.offset a.room b.offset b.room s.at (length s.bytes) one.0 one.1 apart in
    turned_apart t.at (length t.bytes) s.at (length s.bytes)
    (smaller_apart b.offset b.room s.at (length s.bytes) t.at (length t.bytes) other.0 other.1 (turned_apart s.at (length s.bytes) b.offset b.room first))

across_rooms : (a b : SectionRow) (ss ts : List Stretch) → IsTrue (offsets_apart a b) → AllByRecursion (Lies a.offset (a.offset + a.room)) ss → AllByRecursion (Lies b.offset (b.offset + b.room)) ts → Across ss ts
across_rooms a b ss ts apart one other =
    all_map {Q = λ s. AllByRecursion (ShareNothing s) ts} (λ s lies. all_map {Q = ShareNothing s} (λ t lies_too. rooms_apart a b s t apart lies lies_too) ts other) ss one

-- nothing is in a row that the file does not hold
nothing_in : (r : Resolved) (place : Placement) (e : ℕ × SectionRow) → in_file e.1.key.class ≡ false → row_stretches r place e ≡ []
nothing_in r place (n, row) none = rw none refl

abbrev StoredApart : ℕ × SectionRow → ℕ × SectionRow → Type 0
StoredApart a b = in_file a.1.key.class ≡ true → in_file b.1.key.class ≡ true → IsTrue (offsets_apart a.1 b.1)

two_rows : (r : Resolved) (place : Placement) (a b : ℕ × SectionRow) → InOwnRoom r place a → InOwnRoom r place b → StoredApart a b → Across (row_stretches r place a) (row_stretches r place b)
two_rows r place a b one other apart = go (in_file a.1.key.class) (in_file b.1.key.class) refl refl
  where
    go : (c d : Bool) → in_file a.1.key.class ≡ c → in_file b.1.key.class ≡ d → Across (row_stretches r place a) (row_stretches r place b)
    go true true e f = across_rooms a.1 b.1 (row_stretches r place a) (row_stretches r place b) (apart e f) one other
    go false d e f = subst (λ (ss : List Stretch). Across ss (row_stretches r place b)) (sym (nothing_in r place a e)) tt
    go true false e f = subst (λ (ts : List Stretch). Across (row_stretches r place a) ts) (sym (nothing_in r place b f)) (all_always (λ s. tt) (row_stretches r place a))

abbrev rows_in : Resolved → Placement → List Stretch
rows_in r place = flat_map (row_stretches r place) (enumerate_from 0 place.sections)

rows_share_nothing : (r : Resolved) (place : Placement) → Layable r place → Pairs ShareNothing (rows_in r place)
rows_share_nothing r place l =
    let entries = enumerate_from 0 place.sections in
    let stored = λ (row : SectionRow). in_file row.key.class in
    let apart : Pairs (λ (a b : SectionRow). stored a ≡ true → stored b ≡ true → IsTrue (offsets_apart a b)) place.sections =
    pairs_unfiltered (λ a b. IsTrue (offsets_apart a b)) stored place.sections l.loadable.lawful.offsets_share_nothing in
    pairs_flat ShareNothing (row_stretches r place) entries
    (all_numbered (λ e. Pairs ShareNothing (row_stretches r place e)) place.sections (row_shares_nothing r place l))
    (pairs_with {P = InOwnRoom r place} {R = StoredApart} {S = λ a b. Across (row_stretches r place a) (row_stretches r place b)}
    (λ a b one other apart. two_rows r place a b one other apart)
    entries
    (all_numbered (InOwnRoom r place) place.sections (row_in_room r place l))
    (pairs_numbered (λ (a b : SectionRow). stored a ≡ true → stored b ≡ true → IsTrue (offsets_apart a b)) 0 place.sections apart))

-- they lie behind the headers and before the tail
between_rows : (r : Resolved) (place : Placement) → Layable r place → (number : ℕ) (row : SectionRow) → slice_get place.sections number ≡ Some row → AllByRecursion (Lies front_end (tail_start place)) (row_stretches r place (number, row))
between_rows r place l number row there = go (in_file row.key.class) refl
  where
    go : (b : Bool) → in_file row.key.class ≡ b → AllByRecursion (Lies front_end (tail_start place)) (row_stretches r place (number, row))
    go true e =
        let both = all_numbered_one (RowBetween place) place.sections number row there (rows_between r place l.loadable.lawful) e in
        let late = both.0 in
        let under = both.1 in
        all_map {Q = Lies front_end (tail_start place)} (λ s lies. let low = lies.0 in let high = lies.1 in (omega (arith, late, low), omega (arith, under, high))) (row_stretches r place (number, row)) (row_in_room r place l number row there)
    go false e = subst (AllByRecursion (Lies front_end (tail_start place))) (sym (nothing_in r place (number, row) e)) tt

rows_lie : (r : Resolved) (place : Placement) → Layable r place → AllByRecursion (Lies front_end (tail_start place)) (rows_in r place)
rows_lie r place l =
    all_flat (Lies front_end (tail_start place)) (row_stretches r place) (enumerate_from 0 place.sections)
    (all_numbered (λ e. AllByRecursion (Lies front_end (tail_start place)) (row_stretches r place e)) place.sections (between_rows r place l))

-- ---- the tail

tail_lies : (place : Placement) (parts : List Part) → AllByRecursion (Lies (tail_start place) (headers_offset place parts)) (tail_parts_at (tail_start place) parts)
tail_lies place parts =
    let start = tail_start place in
    let up = round_up_above (parts_end start parts) 8 (omega arith) in
    all_both {R = Lies start (headers_offset place parts)} (λ s low high. (low, omega (arith, high, up))) (tail_parts_at start parts)
    (rising_above at_of size_in start (tail_parts_at start parts) (parts_rise start parts))
    (parts_below start parts)

-- ---- all stretches

lower_apart : (low middle high : ℕ) (s t : Stretch) → Lies low middle s → Lies middle high t → ShareNothing s t
lower_apart low middle high s t one other = let under = one.1 in let above = other.0 in above_apart s.at (length s.bytes) t.at (length t.bytes) (omega (arith, under, above))

across_lower : (low middle high : ℕ) (ss ts : List Stretch) → AllByRecursion (Lies low middle) ss → AllByRecursion (Lies middle high) ts → Across ss ts
across_lower low middle high ss ts one other =
    all_map {Q = λ s. AllByRecursion (ShareNothing s) ts} (λ s lies. all_map {Q = ShareNothing s} (λ t lies_too. lower_apart low middle high s t lies lies_too) ts other) ss one

widened : (low high lower higher : ℕ) (ss : List Stretch) → lower ≤ low → high ≤ higher → AllByRecursion (Lies low high) ss → AllByRecursion (Lies lower higher) ss
widened low high lower higher ss down up lies =
    all_map {Q = Lies lower higher} (λ s l. let from = l.0 in let to = l.1 in (omega (arith, down, from), omega (arith, up, to))) ss lies

end_of_last : (ss : List Stretch) (s : Stretch) → end_of_all (ss ++ s ∷ []) ≡ s.at + length s.bytes
end_of_last [] s = refl
end_of_last (x ∷ []) s = refl
end_of_last (x ∷ y ∷ ss) s = end_of_last (y ∷ ss) s

-- the stretches of an image that begins with these bytes
abbrev pub beginning_with : List ℕ → Resolved → Placement → List Part → List Stretch
beginning_with front r place parts =
    stretch 0 front ∷ stretch seal_offset seal
    ∷ flat_map (row_stretches r place) (enumerate_from 0 place.sections)
    ++ map part_stretch (parts_from (tail_start place) parts)
    ++ stretch (headers_offset place parts) (flat_map shdr_bytes (section_headers place parts)) ∷ []

abbrev last_of : Placement → List Part → Stretch
last_of place parts = stretch (headers_offset place parts) (flat_map shdr_bytes (section_headers place parts))

last_ends : (place : Placement) (parts : List Part) → headers_offset place parts + length (flat_map shdr_bytes (section_headers place parts)) ≡ length_with place parts
last_ends place parts = let long = length_section_headers place parts in omega (arith, long)

pub all_laid : (front : List ℕ) (r : Resolved) (place : Placement) (parts : List Part) → Layable r place → length front ≤ seal_offset → AreLaid (beginning_with front r place parts) (length_with place parts)
all_laid front r place parts l short =
    let start : ℕ = tail_start place in
    let headers : ℕ = headers_offset place parts in
    let n : ℕ = length_with place parts in
    let rows = rows_in r place in
    let tail = tail_parts_at start parts in
    let last = last_of place parts in
    let first : Stretch = stretch 0 front in
    let second : Stretch = stretch seal_offset seal in
    let late : front_end ≤ start = tail_late r place l.loadable.lawful in
    let ends : headers + length last.bytes ≡ n = last_ends place parts in
    let end = end_above start parts in
    let up = round_up_above (parts_end start parts) 8 (omega arith) in
    let behind : start ≤ headers = omega (arith, end, up) in
    let here : Lies 0 seal_offset first = (omega arith, omega (arith, short)) in
    let sealed : Lies seal_offset front_end second = (omega arith, omega arith) in
    let in_rows = rows_lie r place l in
    let in_tail = tail_lies place parts in
    let at_end : Lies headers n last = (omega arith, omega (arith, ends)) in
    let before_rows : AllByRecursion (Lies 0 start) rows = widened front_end start 0 start rows (omega arith) (omega arith) in_rows in
    let first_before : Lies 0 front_end first = (omega arith, omega (arith, short)) in
    let second_before : Lies 0 front_end second = (omega arith, omega arith) in
    let front_before : AllByRecursion (Lies 0 start) (first ∷ second ∷ rows) = ((omega arith, omega (arith, short, late)), ((omega arith, omega (arith, late)), before_rows)) in
    let front_apart : Pairs ShareNothing (first ∷ second ∷ rows) = (
      (lower_apart 0 seal_offset front_end first second here sealed, all_map {Q = ShareNothing first} (λ t lies. lower_apart 0 front_end start first t first_before lies) rows in_rows),
      (all_map {Q = ShareNothing second} (λ t lies. lower_apart 0 front_end start second t second_before lies) rows in_rows, rows_share_nothing r place l),
    ) in
    let all_before : AllByRecursion (Lies 0 headers) ((first ∷ second ∷ rows) ++ tail) =
    all_joined (Lies 0 headers) (first ∷ second ∷ rows) tail
    (widened 0 start 0 headers (first ∷ second ∷ rows) (omega arith) behind front_before)
    (widened start headers 0 headers tail (omega arith) (omega arith) in_tail) in
    record {
      apart =
          pairs_joined ShareNothing ((first ∷ second ∷ rows) ++ tail) (last ∷ [])
          (pairs_joined ShareNothing (first ∷ second ∷ rows) tail front_apart (across_lower 0 start headers (first ∷ second ∷ rows) tail front_before in_tail)
          (rising_apart at_of size_in start tail (parts_rise start parts)))
          (across_lower 0 headers n ((first ∷ second ∷ rows) ++ tail) (last ∷ []) all_before (at_end, tt))
          (tt, tt);
      within =
          all_map {Q = EndsWithin n} (λ s lies. lies.1) ((first ∷ second ∷ rows) ++ tail ++ last ∷ [])
          (all_joined (Lies 0 n) ((first ∷ second ∷ rows) ++ tail) (last ∷ [])
          (widened 0 headers 0 n ((first ∷ second ∷ rows) ++ tail) (omega arith) (omega (arith, ends)) all_before)
          ((omega arith, omega (arith, ends)), tt));
      ends = end_of_last ((first ∷ second ∷ rows) ++ tail) last ∙ ends;
    }

-- the headers end below the seal
pub headers_short : (r : Resolved) (place : Placement) (parts : List Part) → Layable r place → length (header_bytes r place parts) ≤ seal_offset
headers_short r place parts l =
    let long = length_header_bytes r place parts in
    let few : length (program_headers place (exec_stack_of r)) ≤ 64 = l.loadable.limits.headers in
    omega (arith, long, few)

pub headers_are_short : HeadersAreShort
headers_are_short r place parts l = headers_short r place parts l

pub sections_end_within : SectionsEndWithin
sections_end_within place parts =
    let end = end_above (tail_start place) parts in
    let up = round_up_above (parts_end (tail_start place) parts) 8 (omega arith) in
    omega (arith, end, up)

pub stretches_are_laid : StretchesAreLaid
stretches_are_laid r place parts l = all_laid (header_bytes r place parts) r place parts l (headers_short r place parts l)
