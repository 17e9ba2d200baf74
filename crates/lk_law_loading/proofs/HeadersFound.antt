-- Which program header maps an address: that of the segment in which the address lies. The headers that
-- map nothing are passed over, and so are the segments below it.
use Rattle.std.specs.Prelude.{◌≡◌, ℕ, Bool, true, false, List, [], ◌∷◌, ◌++◌, Option, Some, None, ◌+◌, ◌-◌, ◌<◌, ◌≤◌, ◌==◌, codes, find, filter, length, map, max, refl}
use Rattle.std.specs.List.{AllByRecursion}
use Rattle.std.proofs.Common.{arith, append_assoc, ap, sym, ◌∙◌}
use Rattle.std.proofs.lemmas.Bool.Decides.{nat_tests}
use Rattle.lk_elf.specs.Numbers.{pt_load, pt_dynamic, pt_interp, pt_note, pt_tls, pf_r, pf_w, pf_x}
use Rattle.lk_elf.specs.declared.program_header.Phdr.{Phdr}
use Rattle.lk_model.specs.FullPlace.{load_base, page}
use Rattle.lk_model.specs.Loading.{is_mapped_by, is_tls}
use Rattle.lk_model.specs.SectionKeys.{same_key, named, is_note}
use Rattle.lk_model.specs.SectionOrder.{Second, Third}
use Rattle.lk_model.specs.Segments.{first_load, first_segment_end, headers_from_loads, headers_where, stored_end, load_header, memory_end, note_headers, program_headers, second_load, second_segment_start, section_header_of, segment_rows, stack_header, table_header, third_flags, third_load, third_segment_start, tls_header, tls_segment}
use Rattle.lk_model.specs.declared.layouts.Class.TheVariants.{R, W}
use Rattle.lk_model.specs.declared.layouts.Placement.{Placement}
use Rattle.lk_model.specs.declared.layouts.SectionRow.{SectionRow}
use Rattle.lk_model.specs.declared.layouts.TlsSegment.{TlsSegment}
use Rattle.lk_model.proofs.Rising.{all_map}
use Rattle.lk_model.proofs.Multiples.{round_up_above}
use Rattle.lk_law_placement.proofs.DistinctLists.{all_joined}
use Rattle.lk_law_loading.proofs.RowsRise.{round_up_rises}

-- where no item of a list passes, the first that passes is among those behind the list
pub find_behind : {A : Type 0} (test : A → Bool) (xs ys : List A) → AllByRecursion (λ x. test x ≡ false) xs → find test (xs ++ ys) ≡ find test ys
find_behind test [] ys none = refl
find_behind test (x ∷ xs) ys none = rw (none.0) (find_behind test xs ys none.1)

-- ---- what a segment maps

-- whether a header is of the type
abbrev is_type : ℕ → Phdr → Bool
is_type type h = h.p_type == type

-- a header of another type maps no address
other_maps_none : (a : ℕ) (h : Phdr) → is_type pt_load h ≡ false → is_mapped_by a h ≡ false
other_maps_none a h other = rw other refl

-- an address from the start on, below the end
pub maps : (a flags start stored end : ℕ) → start ≤ a → a < end → is_mapped_by a (load_header flags start stored end) ≡ true
maps a flags start stored end from below = grind (arith, nat_tests)

-- an address below the start, or at or above start and end
pub maps_not : (a flags start stored end : ℕ) → start ≤ a → end ≤ a → is_mapped_by a (load_header flags start stored end) ≡ false
maps_not a flags start stored end from above = grind (arith, nat_tests)

-- ---- headers of other types

-- no header of such a list has the type
abbrev pub NoneOf : ℕ → List Phdr → Type 0
NoneOf type hs = AllByRecursion (λ (h : Phdr). (h.p_type == type) ≡ false) hs

none_where : (wanted type flags : ℕ) (test : SectionRow → Bool) (place : Placement) → (type == wanted) ≡ false → NoneOf wanted (headers_where type flags test place)
none_where wanted type flags test place other = go (filter test place.sections)
  where
    go : (rows : List SectionRow) → NoneOf wanted (map (section_header_of type flags) rows)
    go [] = tt
    go (row ∷ rows) = (other, go rows)

none_table : (wanted : ℕ) (interps : List Phdr) (others : ℕ) → (6 == wanted) ≡ false → NoneOf wanted (table_header interps others)
none_table wanted [] others other = tt
none_table wanted (interp ∷ interps) others other = (other, tt)

none_second : (wanted : ℕ) (place : Placement) (rows : List SectionRow) → (1 == wanted) ≡ false → NoneOf wanted (second_load place rows)
none_second wanted place [] other = tt
none_second wanted place (row ∷ rows) other = (other, tt)

-- ---- the headers that map addresses

abbrev pub interp_headers : Placement → List Phdr
interp_headers place = headers_where pt_interp pf_r (λ (row : SectionRow). same_key row.key (named (codes ".interp") R)) place

abbrev pub dynamic_headers : Placement → List Phdr
dynamic_headers place = headers_where pt_dynamic (pf_r + pf_w) (λ (row : SectionRow). same_key row.key (named (codes ".dynamic") W)) place

-- the headers before the segments
abbrev pub before_loads : Placement → Bool → List Phdr
before_loads place exec_stack =
    table_header (interp_headers place) (length (interp_headers place ++ headers_from_loads place exec_stack)) ++ interp_headers place

-- the headers behind them
abbrev pub behind_loads : Placement → Bool → List Phdr
behind_loads place exec_stack =
    dynamic_headers place ++ (note_headers place ++ (tls_header (tls_segment place) ++ stack_header exec_stack ∷ []))

-- the headers from the first segment on
abbrev pub loads : Placement → Bool → List Phdr
loads place exec_stack = first_load place ∷ (second_load place (segment_rows Second place) ++ third_load place ∷ behind_loads place exec_stack)

regroup : (x y : Phdr) (a b c d e : List Phdr) → (((x ∷ a) ++ y ∷ b) ++ c) ++ d ++ e ≡ x ∷ (a ++ y ∷ (b ++ (c ++ (d ++ e))))
regroup x y a b c d e = simp append_assoc

from_loads : (place : Placement) (exec_stack : Bool) → headers_from_loads place exec_stack ≡ loads place exec_stack
from_loads place exec_stack =
    regroup (first_load place) (third_load place) (second_load place (segment_rows Second place)) (dynamic_headers place) (note_headers place) (tls_header (tls_segment place)) (stack_header exec_stack ∷ [])

parted : (place : Placement) (exec_stack : Bool) → program_headers place exec_stack ≡ before_loads place exec_stack ++ headers_from_loads place exec_stack
unfolding program_headers
parted place exec_stack =
    sym (append_assoc (table_header (interp_headers place) (length (interp_headers place ++ headers_from_loads place exec_stack))) (interp_headers place) (headers_from_loads place exec_stack))

-- the program headers in their groups
pub in_groups : (place : Placement) (exec_stack : Bool) → program_headers place exec_stack ≡ before_loads place exec_stack ++ loads place exec_stack
in_groups place exec_stack = parted place exec_stack ∙ ap (λ hs. before_loads place exec_stack ++ hs) (from_loads place exec_stack)

-- none of those before the segments is one
none_before : (wanted : ℕ) (place : Placement) (exec_stack : Bool) → (6 == wanted) ≡ false → (3 == wanted) ≡ false → NoneOf wanted (before_loads place exec_stack)
none_before wanted place exec_stack table interp =
    all_joined (λ (h : Phdr). (h.p_type == wanted) ≡ false) (table_header (interp_headers place) (length (interp_headers place ++ headers_from_loads place exec_stack))) (interp_headers place)
    (none_table wanted (interp_headers place) (length (interp_headers place ++ headers_from_loads place exec_stack)) table)
    (none_where wanted pt_interp pf_r (λ (row : SectionRow). same_key row.key (named (codes ".interp") R)) place interp)

loads_found :
    (a : ℕ) (place : Placement) (exec_stack : Bool)
    → find (is_mapped_by a) (program_headers place exec_stack) ≡ find (is_mapped_by a) (loads place exec_stack)
loads_found a place exec_stack =
    ap (find (is_mapped_by a)) (in_groups place exec_stack)
    ∙ find_behind (is_mapped_by a) (before_loads place exec_stack) (loads place exec_stack)
    (all_map (λ (h : Phdr) other. other_maps_none a h other) (before_loads place exec_stack) (none_before pt_load place exec_stack refl refl))

-- the first item is found where it passes, and passed over where it does not
found_first : {A : Type 0} (test : A → Bool) (x : A) (xs : List A) → test x ≡ true → find test (x ∷ xs) ≡ Some x
found_first test x xs passes = rw passes refl

found_later : {A : Type 0} (test : A → Bool) (x : A) (xs : List A) → test x ≡ false → find test (x ∷ xs) ≡ find test xs
found_later test x xs fails = rw fails refl

-- the first segment maps its addresses
pub first_found :
    (a : ℕ) (place : Placement) (exec_stack : Bool)
    → load_base ≤ a
    → a < first_segment_end place
    → find (is_mapped_by a) (program_headers place exec_stack) ≡ Some (first_load place)
first_found a place exec_stack from below =
    loads_found a place exec_stack
    ∙ found_first (is_mapped_by a) (first_load place) (second_load place (segment_rows Second place) ++ third_load place ∷ behind_loads place exec_stack) (maps a pf_r load_base (first_segment_end place) (first_segment_end place) from below)

-- the header of the second segment
abbrev pub second_header : Placement → Phdr
second_header place =
    load_header (pf_r + pf_x) (second_segment_start place) (stored_end (segment_rows Second place)) (memory_end (segment_rows Second place))

second_mapped :
    (a : ℕ) (place : Placement) (rows : List SectionRow) (rest : List Phdr)
    → second_segment_start place ≤ a
    → a < memory_end rows
    → find (is_mapped_by a) (second_load place rows ++ rest) ≡ Some (load_header (pf_r + pf_x) (second_segment_start place) (stored_end rows) (memory_end rows))
second_mapped a place [] rest from below = absurd (omega (arith, below))
second_mapped a place (row ∷ rows) rest from below =
    found_first (is_mapped_by a) (load_header (pf_r + pf_x) (second_segment_start place) (stored_end (row ∷ rows)) (memory_end (row ∷ rows))) rest
    (maps a (pf_r + pf_x) (second_segment_start place) (stored_end (row ∷ rows)) (memory_end (row ∷ rows)) from below)

second_passed :
    (a : ℕ) (place : Placement) (rows : List SectionRow) (rest : List Phdr)
    → second_segment_start place ≤ a
    → memory_end rows ≤ a
    → find (is_mapped_by a) (second_load place rows ++ rest) ≡ find (is_mapped_by a) rest
second_passed a place [] rest from above = refl
second_passed a place (row ∷ rows) rest from above =
    found_later (is_mapped_by a) (load_header (pf_r + pf_x) (second_segment_start place) (stored_end (row ∷ rows)) (memory_end (row ∷ rows))) rest
    (maps_not a (pf_r + pf_x) (second_segment_start place) (stored_end (row ∷ rows)) (memory_end (row ∷ rows)) from above)

-- where segments begin
pub second_above : (place : Placement) → first_segment_end place ≤ second_segment_start place
second_above place = round_up_above (first_segment_end place) page (omega arith)

pub third_above : (place : Placement) → (second_segment_start place ≤ third_segment_start place) × (memory_end (segment_rows Second place) ≤ third_segment_start place)
third_above place =
    let first : ℕ = first_segment_end place in
    let second : ℕ = memory_end (segment_rows Second place) in
    let up = round_up_above (max first second) page (omega arith) in
    (round_up_rises first (max first second) page (omega arith) (omega arith), omega (arith, up))

base_below : (place : Placement) → load_base ≤ first_segment_end place
base_below place = omega arith

-- the second segment maps its addresses
pub second_found :
    (a : ℕ) (place : Placement) (exec_stack : Bool)
    → second_segment_start place ≤ a
    → a < memory_end (segment_rows Second place)
    → find (is_mapped_by a) (program_headers place exec_stack) ≡ Some (second_header place)
second_found a place exec_stack from below =
    let base = base_below place in
    let first = second_above place in
    let rest = third_load place ∷ behind_loads place exec_stack in
    loads_found a place exec_stack
    ∙ (found_later (is_mapped_by a) (first_load place) (second_load place (segment_rows Second place) ++ rest)
    (maps_not a pf_r load_base (first_segment_end place) (first_segment_end place) (omega (arith, base, first, from)) (omega (arith, first, from)))
    ∙ second_mapped a place (segment_rows Second place) rest from below)

-- and so does the third
pub third_found :
    (a : ℕ) (place : Placement) (exec_stack : Bool)
    → third_segment_start place ≤ a
    → a < memory_end (segment_rows Third place)
    → find (is_mapped_by a) (program_headers place exec_stack) ≡ Some (third_load place)
third_found a place exec_stack from below =
    let base = base_below place in
    let first = second_above place in
    let second = third_above place in
    let up = second.0 in
    let end = second.1 in
    let rest = third_load place ∷ behind_loads place exec_stack in
    loads_found a place exec_stack
    ∙ (found_later (is_mapped_by a) (first_load place) (second_load place (segment_rows Second place) ++ rest)
    (maps_not a pf_r load_base (first_segment_end place) (first_segment_end place) (omega (arith, base, first, up, from)) (omega (arith, first, up, from)))
    ∙ (second_passed a place (segment_rows Second place) rest (omega (arith, up, from)) (omega (arith, end, from))
    ∙ found_first (is_mapped_by a) (third_load place) (behind_loads place exec_stack)
    (maps a (third_flags place) (third_segment_start place) (stored_end (segment_rows Third place)) (memory_end (segment_rows Third place)) from below)))

-- ---- the thread-local segment

-- the header of a thread-local segment
abbrev pub tls_shown : Option TlsSegment → Option Phdr
tls_shown None = None
tls_shown (Some segment) =
    Some
    (record {
      p_type = pt_tls;
      p_flags = pf_r;
      p_offset = segment.addr - load_base;
      p_vaddr = segment.addr;
      p_paddr = segment.addr;
      p_filesz = segment.file;
      p_memsz = segment.memory;
      p_align = segment.align;
    })

tls_among : (o : Option TlsSegment) (exec_stack : Bool) → find is_tls (tls_header o ++ stack_header exec_stack ∷ []) ≡ tls_shown o
tls_among None exec_stack = refl
tls_among (Some segment) exec_stack = refl

-- the header of the thread-local segment is found
pub tls_found : (place : Placement) (exec_stack : Bool) → find is_tls (program_headers place exec_stack) ≡ tls_shown (tls_segment place)
tls_found place exec_stack =
    let last = tls_header (tls_segment place) ++ stack_header exec_stack ∷ [] in
    let notes = note_headers place in
    let dynamic = dynamic_headers place in
    let second = second_load place (segment_rows Second place) in
    ap (find is_tls) (in_groups place exec_stack)
    ∙ (find_behind is_tls (before_loads place exec_stack) (loads place exec_stack) (none_before pt_tls place exec_stack refl refl)
    ∙ (find_behind is_tls second (third_load place ∷ behind_loads place exec_stack) (none_second pt_tls place (segment_rows Second place) refl)
    ∙ (find_behind is_tls dynamic (notes ++ last) (none_where pt_tls pt_dynamic (pf_r + pf_w) (λ (row : SectionRow). same_key row.key (named (codes ".dynamic") W)) place refl)
    ∙ (find_behind is_tls notes last (none_where pt_tls pt_note pf_r (λ (row : SectionRow). is_note row.key) place refl)
    ∙ tls_among (tls_segment place) exec_stack))))
