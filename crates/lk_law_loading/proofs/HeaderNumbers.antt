-- The numbers of the program headers of a lawful placement fit their fields.
use Rattle.std.specs.Prelude.{◌≡◌, ℕ, Bool, true, false, List, [], ◌∷◌, ◌++◌, Option, Some, None, ◌+◌, ◌-◌, ◌^◌, ◌<◌, ◌≤◌, if◌then◌else◌, codes, bytes_eq, filter, length, max, refl}
use Rattle.std.specs.List.{AllByRecursion, list_any}
use Rattle.std.proofs.Common.{arith, length-append, subst, sym}
use Rattle.std.proofs.lemmas.Bool.{and_parts, both_ways}
use Rattle.lk_elf.specs.Numbers.{pt_dynamic, pt_interp, pt_note, pf_r, pf_w, pf_x}
use Rattle.lk_elf.specs.declared.program_header.Phdr.{Phdr}
use Rattle.lk_model.specs.FullPlace.{load_base, memory_of, page}
use Rattle.lk_model.specs.Lawful.{Lawful}
use Rattle.lk_model.specs.SectionKeys.{in_file, is_alloc, is_note, named, same_class, same_key}
use Rattle.lk_model.specs.SectionOrder.{Segment, First, Second, Third, NotLoaded, same_segment, segment_of}
use Rattle.lk_model.specs.Segments.{first_segment_end, headers_from_loads, headers_where, stored_end, load_header, memory_end, note_headers, program_headers, row_of_class, second_load, second_segment_start, section_header_of, segment_rows, stack_header, table_header, third_flags, third_load, third_segment_start, thread_segment, tls_header, tls_segment}
use Rattle.lk_model.specs.Views.{Resolved}
use Rattle.lk_model.specs.declared.layouts.Class.{Class}
use Rattle.lk_model.specs.declared.layouts.Class.TheVariants.{R, X, W, WX, Tdata, Tbss, Bss, N}
use Rattle.lk_model.specs.declared.layouts.Placement.{Placement}
use Rattle.lk_model.specs.declared.layouts.SectionRow.{SectionRow}
use Rattle.lk_model.specs.declared.layouts.TlsSegment.{TlsSegment}
use Rattle.lk_model.proofs.Multiples.{round_up_below}
use Rattle.lk_model.proofs.Rising.{all_map}
use Rattle.lk_law_placement.proofs.DistinctLists.{all_joined, all_mapped}
use Rattle.lk_law_loading.proofs.ClassRows.{all_rows_of, class_row, same_loaded}
use Rattle.lk_law_loading.proofs.Greatest.{all_filtered, where_under}
use Rattle.lk_law_loading.proofs.HeadersBack.{HeaderFits}
use Rattle.lk_law_loading.proofs.HeadersFound.{before_loads, behind_loads, dynamic_headers, in_groups, interp_headers, loads}
use Rattle.lk_law_loading.proofs.RowsOfPlace.{IsRow, end_of, of_row, is_in_segment, row_in_memory, row_size, row_is_at}
use Rattle.lk_law_loading.proofs.RowsRise.{takes_room}

-- ---- rows

-- the numbers of a row fit the fields of a header
pub record RowFits (row : SectionRow) : Type 0 where
  pub offset : row.offset < 2 ^ 64
  pub addr : row.addr < 2 ^ 64
  pub size : row.size < 2 ^ 64
  pub align : row.align < 2 ^ 64
  pub end : row.addr + row.room ≤ load_base + 2 ^ 31

-- those of loaded rows do
abbrev pub FitsLoaded : SectionRow → Type 0
FitsLoaded row = is_alloc row.key.class ≡ true → RowFits row

pub row_fits : (r : Resolved) (place : Placement) → Lawful r place → memory_of place ≤ 2 ^ 31 → (row : SectionRow) → IsRow place row → FitsLoaded row
row_fits r place l memory row is loads =
    let is_at = row_is_at r place l row is loads in
    let offset = is_at.offset in
    let align = is_at.align in
    let size = row_size r place l row is in
    let end = row_in_memory place memory row is loads in
    record {
      offset = omega (arith, offset, end);
      addr = omega (arith, end);
      size = omega (arith, size, end);
      align = omega (arith, align, end);
      end = end;
    }

-- ---- segments

-- a segment's rows are loaded
loaded_segment : (s : Segment) → same_segment NotLoaded s ≡ false → (c : Class) → same_segment (segment_of c) s ≡ true → is_alloc c ≡ true
loaded_segment s other R inside = refl
loaded_segment s other X inside = refl
loaded_segment s other W inside = refl
loaded_segment s other WX inside = refl
loaded_segment s other Tdata inside = refl
loaded_segment s other Tbss inside = refl
loaded_segment s other Bss inside = refl
loaded_segment s other N inside = absurd (both_ways (same_segment NotLoaded s) other inside)

segment_row_ends : (s : Segment) → same_segment NotLoaded s ≡ false → (row : SectionRow) → FitsLoaded row → is_in_segment s row ≡ true → end_of row ≤ load_base + 2 ^ 31
segment_row_ends s other row fits inside = (fits (loaded_segment s other row.key.class inside)).end

memory_ends : (s : Segment) (place : Placement) → same_segment NotLoaded s ≡ false → AllByRecursion FitsLoaded place.sections → memory_end (segment_rows s place) ≤ load_base + 2 ^ 31
memory_ends s place other fits =
    where_under end_of (is_in_segment s) takes_room (load_base + 2 ^ 31) place.sections
    (all_map {Q = λ row. is_in_segment s row ≡ true → takes_room row ≡ true → end_of row ≤ load_base + 2 ^ 31} (λ row f inside takes. segment_row_ends s other row f inside) place.sections fits)

stored_ends : (s : Segment) (place : Placement) → same_segment NotLoaded s ≡ false → AllByRecursion FitsLoaded place.sections → stored_end (segment_rows s place) ≤ load_base + 2 ^ 31
stored_ends s place other fits =
    where_under end_of (is_in_segment s) (λ (row : SectionRow). in_file row.key.class) (load_base + 2 ^ 31) place.sections
    (all_map {Q = λ row. is_in_segment s row ≡ true → in_file row.key.class ≡ true → end_of row ≤ load_base + 2 ^ 31} (λ row f inside stored. segment_row_ends s other row f inside) place.sections fits)

load_fits : (flags start stored end : ℕ) → flags < 2 ^ 32 → start < 2 ^ 63 → stored < 2 ^ 63 → end < 2 ^ 63 → HeaderFits (load_header flags start stored end)
load_fits flags start stored end low from in_file in_memory = record {
  type = omega arith;
  flags = low;
  offset = omega arith;
  vaddr = omega arith;
  paddr = omega arith;
  filesz = omega arith;
  memsz = omega arith;
  align = omega arith;
}

first_fits : (place : Placement) → AllByRecursion FitsLoaded place.sections → first_segment_end place ≤ load_base + 2 ^ 31
first_fits place fits = let end = memory_ends First place refl fits in omega (arith, end)

second_start_fits : (place : Placement) → AllByRecursion FitsLoaded place.sections → second_segment_start place < 2 ^ 63
second_start_fits place fits =
    let end = first_fits place fits in
    let below = round_up_below (first_segment_end place) page (omega arith) in
    omega (arith, end, below)

third_start_fits : (place : Placement) → AllByRecursion FitsLoaded place.sections → third_segment_start place < 2 ^ 63
third_start_fits place fits =
    let end = first_fits place fits in
    let other = memory_ends Second place refl fits in
    let below = round_up_below (max (first_segment_end place) (memory_end (segment_rows Second place))) page (omega arith) in
    omega (arith, end, other, below)

second_fits : (place : Placement) (rows : List SectionRow) → second_segment_start place < 2 ^ 63 → stored_end rows < 2 ^ 63 → memory_end rows < 2 ^ 63 → AllByRecursion HeaderFits (second_load place rows)
second_fits place [] from stored end = tt
second_fits place (row ∷ rows) from stored end = (load_fits (pf_r + pf_x) (second_segment_start place) (stored_end (row ∷ rows)) (memory_end (row ∷ rows)) (omega arith) from stored end, tt)

flags_fit : (place : Placement) → third_flags place < 2 ^ 32
flags_fit place = go (list_any (λ (row : SectionRow). same_class row.key.class WX) place.sections)
  where
    go : (b : Bool) → (if b then pf_r + pf_w + pf_x else pf_r + pf_w) < 2 ^ 32
    go true = omega arith
    go false = omega arith

-- ---- headers of sections

section_fits : (type flags : ℕ) (row : SectionRow) → type < 2 ^ 32 → flags < 2 ^ 32 → RowFits row → HeaderFits (section_header_of type flags row)
section_fits type flags row low under f =
    record { type = low; flags = under; offset = f.offset; vaddr = f.addr; paddr = f.addr; filesz = f.size; memsz = f.size; align = f.align }

sections_fit :
    (type flags : ℕ) (test : SectionRow → Bool) (place : Placement)
    → type < 2 ^ 32
    → flags < 2 ^ 32
    → ((row : SectionRow) → test row ≡ true → is_alloc row.key.class ≡ true)
    → AllByRecursion FitsLoaded place.sections
    → AllByRecursion HeaderFits (headers_where type flags test place)
sections_fit type flags test place low under loaded fits =
    all_mapped (section_header_of type flags) HeaderFits (filter test place.sections)
    (all_filtered (λ row. HeaderFits (section_header_of type flags row)) test place.sections
    (all_map {Q = λ row. test row ≡ true → HeaderFits (section_header_of type flags row)} (λ row f passes. section_fits type flags row low under (f (loaded row passes))) place.sections fits))

key_loaded : (name : List ℕ) (c : Class) → is_alloc c ≡ true → (row : SectionRow) → same_key row.key (named name c) ≡ true → is_alloc row.key.class ≡ true
key_loaded name c loads row same = same_loaded row.key.class c (and_parts (same_class row.key.class c) (bytes_eq row.key.name name) same).0 loads

note_loaded : (row : SectionRow) → is_note row.key ≡ true → is_alloc row.key.class ≡ true
note_loaded row note = same_loaded row.key.class R (and_parts (same_class row.key.class R) _ note).0 refl

-- ---- the others

table_fits : (interps : List Phdr) (others : ℕ) → others ≤ 64 → AllByRecursion HeaderFits (table_header interps others)
table_fits [] others few = tt
table_fits (interp ∷ interps) others few = (
  record {
    type = omega arith;
    flags = omega arith;
    offset = omega arith;
    vaddr = omega arith;
    paddr = omega arith;
    filesz = omega (arith, few);
    memsz = omega (arith, few);
    align = omega arith;
  },
  tt,
)

stack_fits : (exec_stack : Bool) → HeaderFits (stack_header exec_stack)
stack_fits true = record { type = omega arith; flags = omega arith; offset = omega arith; vaddr = omega arith; paddr = omega arith; filesz = omega arith; memsz = omega arith; align = omega arith }
stack_fits false = record { type = omega arith; flags = omega arith; offset = omega arith; vaddr = omega arith; paddr = omega arith; filesz = omega arith; memsz = omega arith; align = omega arith }

-- the numbers of the thread-local segment
abbrev SomeFits : Option SectionRow → Type 0
SomeFits None = Unit {0}
SomeFits (Some row) = RowFits row

tls_numbers : (s : TlsSegment) → s.addr < 2 ^ 63 → s.file < 2 ^ 63 → s.memory < 2 ^ 63 → s.align < 2 ^ 64 → AllByRecursion HeaderFits (tls_header (Some s))
tls_numbers s addr file memory align = (
  record {
    type = omega arith;
    flags = omega arith;
    offset = omega (arith, addr);
    vaddr = omega (arith, addr);
    paddr = omega (arith, addr);
    filesz = omega (arith, file);
    memsz = omega (arith, memory);
    align = align;
  },
  tt,
)

thread_fits : (a b : Option SectionRow) → SomeFits a → SomeFits b → AllByRecursion HeaderFits (tls_header (thread_segment a b))
thread_fits None None f g = tt
thread_fits (Some d) None f g =
    let end = f.end in
    tls_numbers (record { addr = d.addr; file = d.room; memory = d.room; align = d.align }) (omega (arith, end)) (omega (arith, end)) (omega (arith, end)) f.align
thread_fits None (Some z) f g =
    let end = g.end in
    tls_numbers (record { addr = z.addr; file = 0; memory = z.room; align = z.align }) (omega (arith, end)) (omega arith) (omega (arith, end)) g.align
thread_fits (Some d) (Some z) f g =
    let end = f.end in
    let other = g.end in
    let align = f.align in
    let wide = g.align in
    tls_numbers (record { addr = d.addr; file = d.room; memory = z.addr + z.room - d.addr; align = max d.align z.align })
    (omega (arith, end)) (omega (arith, end)) (omega (arith, other)) (omega (arith, align, wide))

class_row_fits : (place : Placement) (c : Class) → is_alloc c ≡ true → AllByRecursion FitsLoaded place.sections → SomeFits (row_of_class c place)
class_row_fits place c loads fits = go (row_of_class c place) refl
  where
    go : (o : Option SectionRow) → row_of_class c place ≡ o → SomeFits o
    go None e = tt
    go (Some row) e = let found = class_row place c row e in of_row FitsLoaded place row found.is fits (same_loaded row.key.class c found.same loads)

-- ---- all

-- the number of headers behind that of the table
others_few : (place : Placement) (exec_stack : Bool) → length (program_headers place exec_stack) ≤ 64 → length (interp_headers place ++ headers_from_loads place exec_stack) ≤ 64
unfolding program_headers
others_few place exec_stack few =
    let rest = interp_headers place ++ headers_from_loads place exec_stack in
    let whole = length-append (table_header (interp_headers place) (length rest)) rest in
    omega (arith, few, whole)

before_fit : (place : Placement) (exec_stack : Bool) → length (program_headers place exec_stack) ≤ 64 → AllByRecursion FitsLoaded place.sections → AllByRecursion HeaderFits (before_loads place exec_stack)
before_fit place exec_stack few fits =
    let others : ℕ = length (interp_headers place ++ headers_from_loads place exec_stack) in
    all_joined HeaderFits (table_header (interp_headers place) others) (interp_headers place)
    (table_fits (interp_headers place) others (others_few place exec_stack few))
    (sections_fit pt_interp pf_r (λ (row : SectionRow). same_key row.key (named (codes ".interp") R)) place (omega arith) (omega arith) (key_loaded (codes ".interp") R refl) fits)

behind_fit : (place : Placement) (exec_stack : Bool) → AllByRecursion FitsLoaded place.sections → AllByRecursion HeaderFits (behind_loads place exec_stack)
unfolding tls_segment
behind_fit place exec_stack fits =
    let stack : AllByRecursion HeaderFits (stack_header exec_stack ∷ []) = (stack_fits exec_stack, tt) in
    all_joined HeaderFits (dynamic_headers place) (note_headers place ++ (tls_header (tls_segment place) ++ stack_header exec_stack ∷ []))
    (sections_fit pt_dynamic (pf_r + pf_w) (λ (row : SectionRow). same_key row.key (named (codes ".dynamic") W)) place (omega arith) (omega arith) (key_loaded (codes ".dynamic") W refl) fits)
    (all_joined HeaderFits (note_headers place) (tls_header (tls_segment place) ++ stack_header exec_stack ∷ [])
    (sections_fit pt_note pf_r (λ (row : SectionRow). is_note row.key) place (omega arith) (omega arith) note_loaded fits)
    (all_joined HeaderFits (tls_header (tls_segment place)) (stack_header exec_stack ∷ [])
    (thread_fits (row_of_class Tdata place) (row_of_class Tbss place) (class_row_fits place Tdata refl fits) (class_row_fits place Tbss refl fits))
    stack))

loads_fit : (place : Placement) (exec_stack : Bool) → AllByRecursion FitsLoaded place.sections → AllByRecursion HeaderFits (loads place exec_stack)
loads_fit place exec_stack fits =
    let first_end = first_fits place fits in
    let second_stored = stored_ends Second place refl fits in
    let second_end = memory_ends Second place refl fits in
    let third_stored = stored_ends Third place refl fits in
    let third_end = memory_ends Third place refl fits in
    let third : HeaderFits (third_load place) =
    load_fits (third_flags place) (third_segment_start place) (stored_end (segment_rows Third place)) (memory_end (segment_rows Third place))
    (flags_fit place) (third_start_fits place fits) (omega (arith, third_stored)) (omega (arith, third_end)) in
    let rest : AllByRecursion HeaderFits (third_load place ∷ behind_loads place exec_stack) = (third, behind_fit place exec_stack fits) in (
      load_fits pf_r load_base (first_segment_end place) (first_segment_end place) (omega arith) (omega arith) (omega (arith, first_end)) (omega (arith, first_end)),
      all_joined HeaderFits (second_load place (segment_rows Second place)) (third_load place ∷ behind_loads place exec_stack)
          (second_fits place (segment_rows Second place) (second_start_fits place fits) (omega (arith, second_stored)) (omega (arith, second_end)))
          rest,
    )

-- every number of every program header of a lawful placement fits its field
pub headers_fit :
    (r : Resolved) (place : Placement) (exec_stack : Bool)
    → Lawful r place
    → memory_of place ≤ 2 ^ 31
    → length (program_headers place exec_stack) ≤ 64
    → AllByRecursion HeaderFits (program_headers place exec_stack)
headers_fit r place exec_stack l memory few =
    let fits = all_rows_of FitsLoaded place (λ row is. row_fits r place l memory row is) in
    subst (AllByRecursion HeaderFits) (sym (in_groups place exec_stack))
    (all_joined HeaderFits (before_loads place exec_stack) (loads place exec_stack) (before_fit place exec_stack few fits) (loads_fit place exec_stack fits))
