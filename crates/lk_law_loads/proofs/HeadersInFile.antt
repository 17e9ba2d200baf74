-- The ranges of the file that the program headers of a lawful placement name end at or before the tail.
use Rattle.std.specs.Prelude.{◌≡◌, ℕ, Bool, true, false, List, [], ◌∷◌, ◌++◌, Option, Some, None, ◌+◌, ◌-◌, ◌*◌, ◌<◌, ◌≤◌, codes, bytes_eq, filter, length, refl}
use Rattle.std.specs.List.{AllByRecursion}
use Rattle.std.proofs.Common.{arith, subst, sym, inl, inr, ⊎_elim}
use Rattle.std.proofs.lemmas.Bool.{and_parts, both_ways, cases_lt, eqb-true}
use mathlib.Core.Logic.{◌⊎◌}
use Rattle.lk_elf.specs.Numbers.{pt_dynamic, pt_interp, pt_note, pf_r, pf_w, pf_x}
use Rattle.lk_elf.specs.declared.program_header.Phdr.{Phdr}
use Rattle.lk_model.specs.FullPlace.{first_address, load_base, tail_start}
use Rattle.lk_model.specs.Lawful.{Lawful}
use Rattle.lk_model.specs.SectionKeys.{in_file, is_alloc, is_note, named, same_class, same_key, class_number}
use Rattle.lk_model.specs.SectionOrder.{Segment, First, Second, Third, NotLoaded, same_segment, segment_of}
use Rattle.lk_model.specs.Segments.{first_load, first_segment_end, headers_from_loads, headers_where, stored_end, load_header, memory_end, note_headers, program_headers, row_of_class, second_load, second_segment_start, section_header_of, segment_rows, stack_header, table_header, third_flags, third_load, third_segment_start, thread_segment, tls_header, tls_segment}
use Rattle.lk_model.specs.Views.{Resolved}
use Rattle.lk_model.specs.declared.layouts.Class.{Class}
use Rattle.lk_model.specs.declared.layouts.Class.TheVariants.{R, X, W, WX, Tdata, Tbss, Bss, N}
use Rattle.lk_model.specs.declared.layouts.Placement.{Placement}
use Rattle.lk_model.specs.declared.layouts.SectionRow.{SectionRow}
use Rattle.lk_model.proofs.Rising.{all_map}
use Rattle.lk_law_placement.proofs.DistinctLists.{all_joined, all_mapped}
use Rattle.lk_law_loading.proofs.ClassRows.{all_rows_of, class_row}
use Rattle.lk_law_loading.proofs.Greatest.{all_filtered, where_under}
use Rattle.lk_law_loading.proofs.HeadersFound.{before_loads, behind_loads, dynamic_headers, in_groups, interp_headers, loads, second_above, third_above}
use Rattle.lk_law_loading.proofs.RowsOfPlace.{IsRow, end_of, is_in_segment, of_row, row_is_at, row_size}
use Rattle.lk_law_loading.proofs.RowsRise.{takes_room}
use Rattle.lk_law_writes.proofs.RowBounds.{rows_between, tail_late}

-- the range of a header has no byte, or ends in a file of this size
abbrev pub EndsIn : ℕ → Phdr → Type 0
EndsIn size h = (h.p_filesz ≡ 0) ⊎ (h.p_offset + h.p_filesz ≤ size)

-- where a loaded row that the file holds ends
record Within (size : ℕ) (row : SectionRow) : Type 0 where
  offset : row.offset ≡ row.addr - load_base
  base : first_address ≤ row.addr
  small : row.size ≤ row.room
  end : row.offset + row.room ≤ size

abbrev StoredWithin : ℕ → SectionRow → Type 0
StoredWithin size row = is_alloc row.key.class ≡ true → in_file row.key.class ≡ true → Within size row

row_within : (r : Resolved) (place : Placement) → Lawful r place → (row : SectionRow) → IsRow place row → StoredWithin (tail_start place) row
row_within r place l row is loads stored =
    let is_at = row_is_at r place l row is loads in
    let between = of_row (λ (w : SectionRow). in_file w.key.class ≡ true → (0x1000 ≤ w.offset) × (w.offset + w.room ≤ tail_start place)) place row is (rows_between r place l) stored in
    record { offset = is_at.offset; base = is_at.base; small = row_size r place l row is; end = between.1 }

-- ---- segments

loaded_segment : (s : Segment) → same_segment NotLoaded s ≡ false → (c : Class) → same_segment (segment_of c) s ≡ true → is_alloc c ≡ true
loaded_segment s other R inside = refl
loaded_segment s other X inside = refl
loaded_segment s other W inside = refl
loaded_segment s other WX inside = refl
loaded_segment s other Tdata inside = refl
loaded_segment s other Tbss inside = refl
loaded_segment s other Bss inside = refl
loaded_segment s other N inside = absurd (both_ways (same_segment NotLoaded s) other inside)

-- rows of the first segment are in the file
first_stored : (c : Class) → same_segment (segment_of c) First ≡ true → in_file c ≡ true
first_stored R inside = refl
first_stored X inside = absurd (both_ways false refl inside)
first_stored W inside = absurd (both_ways false refl inside)
first_stored WX inside = absurd (both_ways false refl inside)
first_stored Tdata inside = absurd (both_ways false refl inside)
first_stored Tbss inside = absurd (both_ways false refl inside)
first_stored Bss inside = absurd (both_ways false refl inside)
first_stored N inside = absurd (both_ways false refl inside)

ends_low : (size : ℕ) (row : SectionRow) → Within size row → end_of row ≤ load_base + size
ends_low size row w =
    let offset = w.offset in
    let base = w.base in
    let end = w.end in
    omega (arith, offset, base, end)

stored_low : (s : Segment) (size : ℕ) (place : Placement) → same_segment NotLoaded s ≡ false → AllByRecursion (StoredWithin size) place.sections → stored_end (segment_rows s place) ≤ load_base + size
stored_low s size place other within =
    where_under end_of (is_in_segment s) (λ (row : SectionRow). in_file row.key.class) (load_base + size) place.sections
    (all_map {Q = λ row. is_in_segment s row ≡ true → in_file row.key.class ≡ true → end_of row ≤ load_base + size}
    (λ row w inside stored. ends_low size row (w (loaded_segment s other row.key.class inside) stored))
    place.sections within)

first_low : (size : ℕ) (place : Placement) → 0x1000 ≤ size → AllByRecursion (StoredWithin size) place.sections → first_segment_end place ≤ load_base + size
first_low size place late within =
    let rows : memory_end (segment_rows First place) ≤ load_base + size =
    where_under end_of (is_in_segment First) takes_room (load_base + size) place.sections
    (all_map {Q = λ row. is_in_segment First row ≡ true → takes_room row ≡ true → end_of row ≤ load_base + size}
    (λ row w inside takes. ends_low size row (w (loaded_segment First refl row.key.class inside) (first_stored row.key.class inside)))
    place.sections within) in
    omega (arith, late, rows)

load_ends : (flags start stored end size : ℕ) → load_base ≤ start → stored ≤ load_base + size → EndsIn size (load_header flags start stored end)
load_ends flags start stored end size base low =
    ⊎_elim
    (λ (more : start < stored). inr (omega (arith, base, low, more)))
    (λ (none : stored ≤ start). inl (omega (arith, none)))
    (cases_lt start stored)

second_ends : (place : Placement) (rows : List SectionRow) (size : ℕ) → load_base ≤ second_segment_start place → stored_end rows ≤ load_base + size → AllByRecursion (EndsIn size) (second_load place rows)
second_ends place [] size base low = tt
second_ends place (row ∷ rows) size base low = (load_ends (pf_r + pf_x) (second_segment_start place) (stored_end (row ∷ rows)) (memory_end (row ∷ rows)) size base low, tt)

-- ---- headers of sections

section_ends : (type flags size : ℕ) (row : SectionRow) → Within size row → EndsIn size (section_header_of type flags row)
section_ends type flags size row w =
    let small = w.small in
    let end = w.end in
    inr (omega (arith, small, end))

sections_end :
    (type flags size : ℕ) (test : SectionRow → Bool) (place : Placement)
    → ((row : SectionRow) → test row ≡ true → (is_alloc row.key.class ≡ true) × (in_file row.key.class ≡ true))
    → AllByRecursion (StoredWithin size) place.sections
    → AllByRecursion (EndsIn size) (headers_where type flags test place)
sections_end type flags size test place known within =
    all_mapped (section_header_of type flags) (EndsIn size) (filter test place.sections)
    (all_filtered (λ row. EndsIn size (section_header_of type flags row)) test place.sections
    (all_map {Q = λ row. test row ≡ true → EndsIn size (section_header_of type flags row)} (λ row w passes. let k = known row passes in section_ends type flags size row (w k.0 k.1)) place.sections within))

-- a row of a class that is loaded from the file
class_stored : (a c : Class) → same_class a c ≡ true → is_alloc c ≡ true → in_file c ≡ true → (is_alloc a ≡ true) × (in_file a ≡ true)
class_stored a c same loads stored = let e = eqb-true (class_number a) (class_number c) same in (rw e loads, rw e stored)

key_stored : (name : List ℕ) (c : Class) → is_alloc c ≡ true → in_file c ≡ true → (row : SectionRow) → same_key row.key (named name c) ≡ true → (is_alloc row.key.class ≡ true) × (in_file row.key.class ≡ true)
key_stored name c loads stored row same = class_stored row.key.class c (and_parts (same_class row.key.class c) (bytes_eq row.key.name name) same).0 loads stored

note_stored : (row : SectionRow) → is_note row.key ≡ true → (is_alloc row.key.class ≡ true) × (in_file row.key.class ≡ true)
note_stored row note = class_stored row.key.class R (and_parts (same_class row.key.class R) _ note).0 refl refl

-- ---- the others

table_ends : (interps : List Phdr) (others size : ℕ) → (64 + 56 * (others + 1) ≤ size) ⊎ (interps ≡ []) → AllByRecursion (EndsIn size) (table_header interps others)
table_ends [] others size few = tt
table_ends (interp ∷ interps) others size few = (inr (less few), tt)
  where
    less : (64 + 56 * (others + 1) ≤ size) ⊎ (interp ∷ interps ≡ []) → 64 + 56 * (others + 1) ≤ size
    less (inl l) = l
    less (inr e) = absurd (cc)

abbrev DataWithin : ℕ → Option SectionRow → Type 0
DataWithin size None = Unit {0}
DataWithin size (Some row) = Within size row

thread_ends : (size : ℕ) (a b : Option SectionRow) → DataWithin size a → AllByRecursion (EndsIn size) (tls_header (thread_segment a b))
thread_ends size None None w = tt
thread_ends size None (Some z) w = (inl refl, tt)
thread_ends size (Some d) None w =
    let offset = w.offset in
    let end = w.end in
    (inr (omega (arith, offset, end)), tt)
thread_ends size (Some d) (Some z) w =
    let offset = w.offset in
    let end = w.end in
    (inr (omega (arith, offset, end)), tt)

data_within : (size : ℕ) (place : Placement) → AllByRecursion (StoredWithin size) place.sections → DataWithin size (row_of_class Tdata place)
data_within size place within = go (row_of_class Tdata place) refl
  where
    go : (o : Option SectionRow) → row_of_class Tdata place ≡ o → DataWithin size o
    go None e = tt
    go (Some row) e =
        let found = class_row place Tdata row e in
        let known = class_stored row.key.class Tdata found.same refl refl in
        of_row (StoredWithin size) place row found.is within known.0 known.1

-- ---- all

table_or_none : (place : Placement) (exec_stack : Bool) (size : ℕ) (interps rest : List Phdr) → 64 + 56 * length (table_header interps (length rest) ++ rest) ≤ size → (64 + 56 * (length rest + 1) ≤ size) ⊎ (interps ≡ [])
table_or_none place exec_stack size [] rest few = inr refl
table_or_none place exec_stack size (i ∷ is) rest few = inl (omega (arith, few))

pub headers_end :
    (r : Resolved) (place : Placement) (exec_stack : Bool) (size : ℕ)
    → Lawful r place
    → tail_start place ≤ size
    → 64 + 56 * length (program_headers place exec_stack) ≤ size
    → AllByRecursion (EndsIn size) (program_headers place exec_stack)
unfolding tls_segment program_headers
headers_end r place exec_stack size l tail few =
    let late = tail_late r place l in
    let within : AllByRecursion (StoredWithin size) place.sections =
    all_rows_of (StoredWithin size) place
    (λ row is loads stored. let w = row_within r place l row is loads stored in let end = w.end in record { offset = w.offset; base = w.base; small = w.small; end = omega (arith, end, tail) }) in
    let rest : List Phdr = interp_headers place ++ headers_from_loads place exec_stack in
    let table = table_ends (interp_headers place) (length rest) size (table_or_none place exec_stack size (interp_headers place) rest few) in
    let interp = sections_end pt_interp pf_r size (λ (row : SectionRow). same_key row.key (named (codes ".interp") R)) place (key_stored (codes ".interp") R refl refl) within in
    let dynamic = sections_end pt_dynamic (pf_r + pf_w) size (λ (row : SectionRow). same_key row.key (named (codes ".dynamic") W)) place (key_stored (codes ".dynamic") W refl refl) within in
    let notes = sections_end pt_note pf_r size (λ (row : SectionRow). is_note row.key) place note_stored within in
    let tls = thread_ends size (row_of_class Tdata place) (row_of_class Tbss place) (data_within size place within) in
    let stack : AllByRecursion (EndsIn size) (stack_header exec_stack ∷ []) = (inl refl, tt) in
    let behind : AllByRecursion (EndsIn size) (behind_loads place exec_stack) =
    all_joined (EndsIn size) (dynamic_headers place) (note_headers place ++ (tls_header (tls_segment place) ++ stack_header exec_stack ∷ [])) dynamic
    (all_joined (EndsIn size) (note_headers place) (tls_header (tls_segment place) ++ stack_header exec_stack ∷ []) notes
    (all_joined (EndsIn size) (tls_header (tls_segment place)) (stack_header exec_stack ∷ []) tls stack)) in
    let base : first_address ≤ first_segment_end place = omega arith in
    let up = second_above place in
    let next = third_above place in
    let third_up = next.0 in
    let first : EndsIn size (first_load place) = load_ends pf_r load_base (first_segment_end place) (first_segment_end place) size (omega arith) (first_low size place (omega (arith, late, tail)) within) in
    let second = second_ends place (segment_rows Second place) size (omega (arith, base, up)) (stored_low Second size place refl within) in
    let third : EndsIn size (third_load place) =
    load_ends (third_flags place) (third_segment_start place) (stored_end (segment_rows Third place)) (memory_end (segment_rows Third place)) size (omega (arith, base, up, third_up)) (stored_low Third size place refl within) in
    let last : AllByRecursion (EndsIn size) (third_load place ∷ behind_loads place exec_stack) = (third, behind) in
    let all_loads : AllByRecursion (EndsIn size) (loads place exec_stack) = (first, all_joined (EndsIn size) (second_load place (segment_rows Second place)) (third_load place ∷ behind_loads place exec_stack) second last) in
    subst (AllByRecursion (EndsIn size)) (sym (in_groups place exec_stack))
    (all_joined (EndsIn size) (before_loads place exec_stack) (loads place exec_stack)
    (all_joined (EndsIn size) (table_header (interp_headers place) (length rest)) (interp_headers place) table interp)
    all_loads)
