-- The rows of a lawful placement: each loaded row lies in its segment, from the segment's start to its end
-- in the file and in memory; zeros lie behind what the file holds.
use Rattle.std.specs.Prelude.{◌≡◌, ℕ, Bool, true, false, IsTrue, ◌+◌, ◌-◌, ◌<◌, ◌≤◌, ◌^◌, ◌&&◌, ◌==◌, min, not, nat_le, Some, map, filter, refl}
use Rattle.std.specs.List.{AllByRecursion, slice_get}
use Rattle.std.proofs.Common.{arith, subst, ap}
use Rattle.std.proofs.lemmas.Bool.{and_parts, both_ways, leb-true}
use Rattle.lk_model.specs.Amounts.{round_up}
use Rattle.lk_model.specs.FullPlace.{load_base, first_address, page, greatest, Extent, extent_of, memory_of}
use Rattle.lk_model.specs.Lawful.{Lawful, Pairs, extent_of_row, is_aligned_enough, size_of}
use Rattle.lk_model.specs.SectionKeys.{same_class, is_alloc, in_file}
use Rattle.lk_model.specs.SectionOrder.{Segment, First, Second, Third, NotLoaded, segment_of, same_segment, section_rank}
use Rattle.lk_model.specs.Segments.{segment_rows, memory_end, stored_end, first_segment_end, second_segment_start, third_segment_start}
use Rattle.lk_model.specs.Views.{Resolved}
use Rattle.lk_model.specs.declared.layouts.Class.{Class}
use Rattle.lk_model.specs.declared.layouts.Class.TheVariants.{R, X, W, WX, Tdata, Tbss, Bss, N}
use Rattle.lk_model.specs.declared.layouts.Placement.{Placement}
use Rattle.lk_model.specs.declared.layouts.SectionRow.{SectionRow}
use Rattle.lk_model.proofs.FullRows.{extent_aligned}
use Rattle.lk_model.proofs.Rising.{all_map, all_of_map, below_greatest}
use Rattle.lk_model.proofs.RowsApart.{Aligned}
use Rattle.lk_law_placement.proofs.DistinctLists.{all_mapped}
use Rattle.lk_law_placement.proofs.PiecesLists.{all_numbered_one}
use Rattle.lk_law_loading.proofs.Greatest.{all_unfiltered, below_where, greater_rounded, where_rounded, where_under}
use Rattle.lk_law_loading.proofs.PairsInOrder.{lower_before}
use Rattle.lk_law_loading.proofs.RanksRise.{greatest_rank, least_rank, rank_within_class, row_ranks}
use Rattle.lk_law_loading.proofs.RowsRise.{Behind, BehindLoaded, IsAtLoaded, IsWhere, rows_behind, rows_are_at, same_segment_reports, takes_room}

-- ---- the rows are those of their extents

aligned_enough : (r : Resolved) (place : Placement) (row : SectionRow) → IsTrue (is_aligned_enough r place.slots row) → 0 < row.align
aligned_enough r place row enough =
    let least = extent_aligned r place.slots row.key in
    let up : (extent_of r place.slots row.key).align ≤ row.align = leb-true (extent_of r place.slots row.key).align row.align enough in
    omega (arith, least, up)

place_aligned : (r : Resolved) (place : Placement) → Lawful r place → Aligned (map extent_of_row place.sections)
place_aligned r place l =
    all_mapped extent_of_row (λ (extent : Extent). 0 < extent.align) place.sections
    (all_map (λ (row : SectionRow) enough. aligned_enough r place row enough) place.sections l.alignments)

-- rows of lower rank are before a loaded row
abbrev IsBefore : SectionRow → SectionRow → Type 0
IsBefore b a = section_rank a.key < section_rank b.key → BehindLoaded a b

ranks_before : (r : Resolved) (place : Placement) → Lawful r place → AllByRecursion (λ b. AllByRecursion (IsBefore b) place.sections) place.sections
ranks_before r place l =
    lower_before (λ (row : SectionRow). section_rank row.key) BehindLoaded place.sections
    (row_ranks place.sections l.ordered)
    (subst (Pairs BehindLoaded) l.places (rows_behind (map extent_of_row place.sections) (place_aligned r place l)))

-- ---- one row by its number

-- a row of a placement
pub record IsRow (place : Placement) (row : SectionRow) : Type 0 where
  pub number : ℕ
  pub there : slice_get place.sections number ≡ Some row

-- what holds of all rows holds of one
pub of_row : (P : SectionRow → Type 0) (place : Placement) (row : SectionRow) → IsRow place row → AllByRecursion P place.sections → P row
of_row P place row is all = all_numbered_one P place.sections is.number row is.there all

pub row_is_at : (r : Resolved) (place : Placement) → Lawful r place → (row : SectionRow) → IsRow place row → is_alloc row.key.class ≡ true → IsAtLoaded row
row_is_at r place l row is =
    of_row IsWhere place row is (subst (AllByRecursion IsWhere) l.places (rows_are_at (map extent_of_row place.sections) (place_aligned r place l)))

-- the size of a row is at most its room
pub row_size : (r : Resolved) (place : Placement) → Lawful r place → (row : SectionRow) → IsRow place row → row.size ≤ row.room
row_size r place l row is =
    leb-true row.size row.room (and_parts (row.size == size_of r place row) (nat_le row.size row.room) (of_row (λ (w : SectionRow). IsTrue (w.size == size_of r place w && nat_le w.size w.room)) place row is l.sizes)).1

-- a row of lower class is before a loaded row
abbrev LowerBefore : SectionRow → SectionRow → Type 0
LowerBefore row a = greatest_rank a.key.class < least_rank row.key.class → Behind a row

lower_is_before : (row a : SectionRow) → is_alloc row.key.class ≡ true → IsBefore row a → LowerBefore row a
lower_is_before row a loads before less =
    let one = rank_within_class a.key in
    let other = rank_within_class row.key in
    before (let up = one.1 in let low = other.0 in omega (arith, less, up, low)) loads

pub row_before :
    (r : Resolved) (place : Placement)
    → Lawful r place
    → (row : SectionRow)
    → IsRow place row
    → is_alloc row.key.class ≡ true
    → AllByRecursion (LowerBefore row) place.sections
row_before r place l row is loads =
    all_map {Q = LowerBefore row} (λ a before. lower_is_before row a loads before) place.sections
    (of_row (λ b. AllByRecursion (IsBefore b) place.sections) place row is (ranks_before r place l))

-- ---- segments

-- the greatest rank of a segment's sections, and the least
abbrev top_of : Segment → ℕ
top_of First = 10
top_of Second = 15
top_of Third = 29
top_of NotLoaded = 30

abbrev bottom_of : Segment → ℕ
bottom_of First = 0
bottom_of Second = 11
bottom_of Third = 16
bottom_of NotLoaded = 30

class_top : (c : Class) → greatest_rank c ≤ top_of (segment_of c)
class_top R = omega arith
class_top X = omega arith
class_top W = omega arith
class_top WX = omega arith
class_top Tdata = omega arith
class_top Tbss = omega arith
class_top Bss = omega arith
class_top N = omega arith

class_bottom : (c : Class) → bottom_of (segment_of c) ≤ least_rank c
class_bottom R = omega arith
class_bottom X = omega arith
class_bottom W = omega arith
class_bottom WX = omega arith
class_bottom Tdata = omega arith
class_bottom Tbss = omega arith
class_bottom Bss = omega arith
class_bottom N = omega arith

abbrev pub is_in_segment : Segment → SectionRow → Bool
is_in_segment s row = same_segment (segment_of row.key.class) s

abbrev pub end_of : SectionRow → ℕ
end_of row = row.addr + row.room

-- a row of an earlier segment ends on an earlier page
paged_before :
    (s t : Segment) (a row : SectionRow)
    → segment_of row.key.class ≡ t
    → top_of s < bottom_of t
    → same_segment s t ≡ false
    → LowerBefore row a
    → is_in_segment s a ≡ true
    → takes_room a ≡ true
    → round_up (end_of a) page ≤ row.addr
paged_before s t a row at less apart before inside takes =
    let own : segment_of a.key.class ≡ s = same_segment_reports (segment_of a.key.class) s inside in
    let up : greatest_rank a.key.class ≤ top_of s = subst (λ (x : Segment). greatest_rank a.key.class ≤ top_of x) own (class_top a.key.class) in
    let low : bottom_of t ≤ least_rank row.key.class = subst (λ (x : Segment). bottom_of x ≤ least_rank row.key.class) at (class_bottom row.key.class) in
    let behind = before (omega (arith, less, up, low)) in
    let other : same_segment (segment_of a.key.class) (segment_of row.key.class) ≡ false = rw own (rw at apart) in
    behind.paged takes other

-- all rooms of an earlier segment do
segment_before :
    (s t : Segment) (place : Placement) (row : SectionRow)
    → segment_of row.key.class ≡ t
    → top_of s < bottom_of t
    → same_segment s t ≡ false
    → AllByRecursion (LowerBefore row) place.sections
    → round_up (memory_end (segment_rows s place)) page ≤ row.addr
segment_before s t place row at less apart before =
    where_rounded end_of (is_in_segment s) takes_room row.addr page place.sections (omega arith)
    (all_map {Q = λ a. is_in_segment s a ≡ true → takes_room a ≡ true → round_up (end_of a) page ≤ row.addr}
    (λ a b. paged_before s t a row at less apart b)
    place.sections before)

-- a row lies in what a segment holds of the file, or behind it, as zeros do
pub record Stored (start stored end : ℕ) (row : SectionRow) : Type 0 where
  pub from : start ≤ row.addr
  pub in_file : row.addr + row.room ≤ stored
  pub in_memory : row.addr + row.room ≤ end

pub record Zeroed (start stored end : ℕ) (row : SectionRow) : Type 0 where
  pub from : start ≤ row.addr
  pub behind : stored ≤ row.addr
  pub in_memory : row.addr + row.room ≤ end

-- a row is not above where its segment ends
under_memory : (s : Segment) (place : Placement) (row : SectionRow) → IsRow place row → is_in_segment s row ≡ true → takes_room row ≡ true → end_of row ≤ memory_end (segment_rows s place)
under_memory s place row is inside takes =
    of_row (λ w. is_in_segment s w ≡ true → takes_room w ≡ true → end_of w ≤ memory_end (segment_rows s place)) place row is
    (below_where end_of (is_in_segment s) takes_room place.sections) inside takes

under_stored : (s : Segment) (place : Placement) (row : SectionRow) → IsRow place row → is_in_segment s row ≡ true → in_file row.key.class ≡ true → end_of row ≤ stored_end (segment_rows s place)
under_stored s place row is inside stored =
    of_row (λ w. is_in_segment s w ≡ true → in_file w.key.class ≡ true → end_of w ≤ stored_end (segment_rows s place)) place row is
    (below_where end_of (is_in_segment s) (λ (w : SectionRow). in_file w.key.class) place.sections) inside stored

stored_in :
    (start : ℕ) (s : Segment) (place : Placement) (row : SectionRow)
    → IsRow place row
    → start ≤ row.addr
    → is_in_segment s row ≡ true
    → takes_room row ≡ true
    → in_file row.key.class ≡ true
    → Stored start (stored_end (segment_rows s place)) (memory_end (segment_rows s place)) row
stored_in start s place row is from inside takes stored =
    record { from = from; in_file = under_stored s place row is inside stored; in_memory = under_memory s place row is inside takes }

-- where each row of a class lies
abbrev pub InSegment : Placement → SectionRow → Class → Type 0
InSegment place row R = Stored load_base (first_segment_end place) (first_segment_end place) row
InSegment place row X = Stored (second_segment_start place) (stored_end (segment_rows Second place)) (memory_end (segment_rows Second place)) row
InSegment place row W = Stored (third_segment_start place) (stored_end (segment_rows Third place)) (memory_end (segment_rows Third place)) row
InSegment place row WX = Stored (third_segment_start place) (stored_end (segment_rows Third place)) (memory_end (segment_rows Third place)) row
InSegment place row Tdata = Stored (third_segment_start place) (stored_end (segment_rows Third place)) (memory_end (segment_rows Third place)) row
InSegment place row Tbss = Unit {0}
InSegment place row Bss = Zeroed (third_segment_start place) (stored_end (segment_rows Third place)) (memory_end (segment_rows Third place)) row
InSegment place row N = Unit {0}

-- the third segment begins at or below its rows
third_start :
    (r : Resolved) (place : Placement)
    → Lawful r place
    → (row : SectionRow)
    → IsRow place row
    → is_alloc row.key.class ≡ true
    → segment_of row.key.class ≡ Third
    → third_segment_start place ≤ row.addr
third_start r place l row is loads at =
    let before = row_before r place l row is loads in
    let is_at = row_is_at r place l row is loads in
    let base : round_up first_address page ≤ row.addr = is_at.base in
    let first = segment_before First Third place row at (omega arith) refl before in
    let second = segment_before Second Third place row at (omega arith) refl before in
    greater_rounded row.addr page (first_segment_end place) (memory_end (segment_rows Second place))
    (greater_rounded row.addr page first_address (memory_end (segment_rows First place)) base first)
    second

-- rows of the third segment that the file holds are no zeros, and come before them
stored_third : (c : Class) → same_segment (segment_of c) Third ≡ true → in_file c ≡ true → (greatest_rank c ≤ 27) × (not (same_class c Tbss) ≡ true)
stored_third R inside stored = absurd (both_ways false refl inside)
stored_third X inside stored = absurd (both_ways false refl inside)
stored_third W inside stored = (omega arith, refl)
stored_third WX inside stored = (omega arith, refl)
stored_third Tdata inside stored = (omega arith, refl)
stored_third Tbss inside stored = absurd (both_ways false refl stored)
stored_third Bss inside stored = absurd (both_ways false refl stored)
stored_third N inside stored = absurd (both_ways false refl inside)

zeros_behind : (place : Placement) (row : SectionRow) → row.key.class ≡ Bss → AllByRecursion (LowerBefore row) place.sections → stored_end (segment_rows Third place) ≤ row.addr
zeros_behind place row class before =
    where_under end_of (is_in_segment Third) (λ (w : SectionRow). in_file w.key.class) row.addr place.sections
    (all_map {Q = λ a. is_in_segment Third a ≡ true → in_file a.key.class ≡ true → end_of a ≤ row.addr} (λ a b. one a b) place.sections before)
  where
    one : (a : SectionRow) → LowerBefore row a → is_in_segment Third a ≡ true → in_file a.key.class ≡ true → end_of a ≤ row.addr
    one a b inside stored =
        let parts = stored_third a.key.class inside stored in
        let up = parts.0 in
        let low : 28 ≤ least_rank row.key.class = rw class (omega arith) in
        (b (omega (arith, up, low))).above parts.1

-- each row of a lawful placement lies in its segment
pub row_in_segment : (r : Resolved) (place : Placement) → Lawful r place → (row : SectionRow) → IsRow place row → (c : Class) → row.key.class ≡ c → InSegment place row c
row_in_segment r place l row is R e =
    let is_at = row_is_at r place l row is (ap is_alloc e) in
    let base = is_at.base in
    let end = under_memory First place row is (ap (λ c. same_segment (segment_of c) First) e) (ap (λ c. not (same_class c Tbss)) e) in
    record { from = omega (arith, base); in_file = omega (arith, end); in_memory = omega (arith, end) }
row_in_segment r place l row is X e =
    let loads = ap is_alloc e in
    let is_at = row_is_at r place l row is loads in
    let base : round_up first_address page ≤ row.addr = is_at.base in
    let first = segment_before First Second place row (ap segment_of e) (omega arith) refl (row_before r place l row is loads) in
    stored_in (second_segment_start place) Second place row is
    (greater_rounded row.addr page first_address (memory_end (segment_rows First place)) base first)
    (ap (λ c. same_segment (segment_of c) Second) e) (ap (λ c. not (same_class c Tbss)) e) (ap in_file e)
row_in_segment r place l row is W e =
    stored_in (third_segment_start place) Third place row is (third_start r place l row is (ap is_alloc e) (ap segment_of e))
    (ap (λ c. same_segment (segment_of c) Third) e) (ap (λ c. not (same_class c Tbss)) e) (ap in_file e)
row_in_segment r place l row is WX e =
    stored_in (third_segment_start place) Third place row is (third_start r place l row is (ap is_alloc e) (ap segment_of e))
    (ap (λ c. same_segment (segment_of c) Third) e) (ap (λ c. not (same_class c Tbss)) e) (ap in_file e)
row_in_segment r place l row is Tdata e =
    stored_in (third_segment_start place) Third place row is (third_start r place l row is (ap is_alloc e) (ap segment_of e))
    (ap (λ c. same_segment (segment_of c) Third) e) (ap (λ c. not (same_class c Tbss)) e) (ap in_file e)
row_in_segment r place l row is Tbss e = tt
row_in_segment r place l row is Bss e = record {
  from = third_start r place l row is (ap is_alloc e) (ap segment_of e);
  behind = zeros_behind place row e (row_before r place l row is (ap is_alloc e));
  in_memory = under_memory Third place row is (ap (λ c. same_segment (segment_of c) Third) e) (ap (λ c. not (same_class c Tbss)) e);
}
row_in_segment r place l row is N e = tt

-- the thread-local zeros are behind the thread-local bytes
pub thread_zeros_behind :
    (r : Resolved) (place : Placement)
    → Lawful r place
    → (bytes zeros : SectionRow)
    → IsRow place bytes
    → IsRow place zeros
    → bytes.key.class ≡ Tdata
    → zeros.key.class ≡ Tbss
    → bytes.addr + bytes.room ≤ zeros.addr
thread_zeros_behind r place l bytes zeros first second data_class zero_class =
    let before = of_row (LowerBefore zeros) place bytes first (row_before r place l zeros second (ap is_alloc zero_class)) in
    let up : greatest_rank bytes.key.class ≤ 16 = rw data_class (omega arith) in
    let low : 17 ≤ least_rank zeros.key.class = rw zero_class (omega arith) in
    (before (omega (arith, up, low))).above (ap (λ c. not (same_class c Tbss)) data_class)

-- ---- numbers

least_of_two : (great n bound : ℕ) → bound < great → min great n ≤ bound → n ≤ bound
least_of_two great n bound below least = omega arith

-- a loaded row ends within the memory
pub row_in_memory : (place : Placement) → memory_of place ≤ 2 ^ 31 → (row : SectionRow) → IsRow place row → is_alloc row.key.class ≡ true → row.addr + row.room ≤ load_base + 2 ^ 31
unfolding memory_of
row_in_memory place memory row is loads =
    let alloc = λ (w : SectionRow). is_alloc w.key.class in
    let ends = map end_of (filter alloc place.sections) in
    let all =
    all_unfiltered (λ w. end_of w ≤ greatest ends) alloc place.sections
    (all_of_map end_of (λ n. n ≤ greatest ends) (filter alloc place.sections) (below_greatest ends)) in
    let under : end_of row ≤ greatest ends = of_row (λ w. alloc w ≡ true → end_of w ≤ greatest ends) place row is all loads in
    let small = least_of_two (2 ^ 64 - 1) (greatest ends - load_base) (2 ^ 31) (omega arith) memory in
    omega (arith, under, small)
