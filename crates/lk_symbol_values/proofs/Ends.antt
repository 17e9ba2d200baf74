-- Where sections and segments begin and end at a lawful placement within the limit on memory.
use Rattle.std.proofs.Common.{◌≡◌, refl, sym, ap, ◌∙◌, subst, arith, ℕ, ◌+◌, ◌-◌, ◌^◌, ◌<◌, ◌≤◌, ◌==◌, nat_le, max, min, ◌&&◌, not, Bool, true, false, List, map, filter, find, Option, Some, None}
use Rattle.std.specs.Prelude.{IsTrue}
use Rattle.std.specs.List.{AllByRecursion}
use Rattle.std.specs.Str.{bytes_eq}
use Rattle.std.proofs.lemmas.Bool.{and_parts, both_ways}
use Rattle.std.proofs.lemmas.Bool.Decides.{nat_tests}
use Rattle.lk_model.specs.FullPlace.{first_address, greatest, load_base, memory_of}
use Rattle.lk_model.specs.Keys.{row_of}
use Rattle.lk_model.specs.Lawful.{Lawful, size_of}
use Rattle.lk_model.specs.MadeSymbols.{end_of, row_with_piece, start_of}
use Rattle.lk_model.specs.SectionKeys.{class_number, is_alloc, same_class, same_key}
use Rattle.lk_model.specs.SectionOrder.{Segment, NotLoaded, Second, Third, same_segment, segment_of}
use Rattle.lk_model.specs.Segments.{memory_end, second_segment_end, segment_rows, third_segment_end}
use Rattle.lk_model.specs.Views.{KeptPiece, Resolved}
use Rattle.lk_model.specs.declared.layouts.Class.{Class}
use Rattle.lk_model.specs.declared.layouts.Class.TheVariants.{R, X, W, WX, Tdata, Tbss, Bss, N}
use Rattle.lk_model.specs.declared.layouts.Placement.{Placement}
use Rattle.lk_model.specs.declared.layouts.SectionKey.{SectionKey}
use Rattle.lk_model.specs.declared.layouts.SectionRow.{SectionRow}
use Rattle.lk_model.proofs.KeysFound.{same_key_reports}
use Rattle.lk_model.proofs.Rising.{all_filter, all_map, all_of_map, all_pass, below_greatest}
use Rattle.lk_symbol_values.proofs.Lists.{all_both, all_found, all_mapped, all_unfiltered, greatest_under}

-- where a room ends
abbrev pub room_end : SectionRow → ℕ
room_end row = row.addr + row.room

-- a loaded row ends within the memory, and its section in its room
pub record Ends (row : SectionRow) : Type 0 where
  pub room : room_end row ≤ load_base + 2 ^ 31
  pub size : row.size ≤ row.room

abbrev pub EndsLoaded : SectionRow → Type 0
EndsLoaded row = is_alloc row.key.class ≡ true → Ends row

least_of_two : (great n bound : ℕ) → bound < great → min great n ≤ bound → n ≤ bound
least_of_two great n bound below least = omega arith

le_reports : (a b : ℕ) → nat_le a b ≡ true → a ≤ b
le_reports a b h = grind (arith, nat_tests)

memory_ends : (place : Placement) → memory_of place ≤ 2 ^ 31 → AllByRecursion (λ (row : SectionRow). is_alloc row.key.class ≡ true → room_end row ≤ load_base + 2 ^ 31) place.sections
unfolding memory_of
memory_ends place memory =
    let loaded = λ (row : SectionRow). is_alloc row.key.class in
    let ends = map room_end (filter loaded place.sections) in
    let small : greatest ends ≤ load_base + 2 ^ 31 = (let n = least_of_two (2 ^ 64 - 1) (greatest ends - load_base) (2 ^ 31) (omega arith) memory in omega (arith, n)) in
    all_unfiltered (λ (row : SectionRow). room_end row ≤ load_base + 2 ^ 31) loaded place.sections
    (all_of_map room_end (λ n. n ≤ load_base + 2 ^ 31) (filter loaded place.sections)
    (all_map (λ n (under : n ≤ greatest ends). omega (arith, under, small)) ends (below_greatest ends)))

sizes_within : (r : Resolved) (place : Placement) (row : SectionRow) → IsTrue (row.size == size_of r place row && nat_le row.size row.room) → row.size ≤ row.room
sizes_within r place row is = le_reports row.size row.room (and_parts (row.size == size_of r place row) (nat_le row.size row.room) is).1

pub rows_end : (r : Resolved) (place : Placement) → Lawful r place → memory_of place ≤ 2 ^ 31 → AllByRecursion EndsLoaded place.sections
rows_end r place lawful memory =
    all_both {P = λ (row : SectionRow). is_alloc row.key.class ≡ true → room_end row ≤ load_base + 2 ^ 31} {Q = λ (row : SectionRow). IsTrue (row.size == size_of r place row && nat_le row.size row.room)}
    (λ row end size loaded. record { room = end loaded; size = sizes_within r place row size }) place.sections
    (memory_ends place memory) lawful.sizes

-- the start and the end of a section that is found
found_start : (test : SectionRow → Bool) (rows : List SectionRow) → AllByRecursion EndsLoaded rows → ((row : SectionRow) → test row ≡ true → is_alloc row.key.class ≡ true)
    → (o : Option SectionRow) → find test rows ≡ o → (start_of o < 2 ^ 64) × (end_of o < 2 ^ 64)
found_start test rows all loads None is = (omega arith, omega arith)
found_start test rows all loads (Some row) is =
    let both = all_found EndsLoaded test rows row all is in
    let ends = both.0 (loads row both.1) in
    let room = ends.room in
    let size = ends.size in
    (omega (arith, room), omega (arith, room, size))

named_loads : (k : SectionKey) → is_alloc k.class ≡ true → (row : SectionRow) → same_key row.key k ≡ true → is_alloc row.key.class ≡ true
named_loads k loads row same = ap (λ (key : SectionKey). is_alloc key.class) (same_key_reports row.key k same) ∙ loads

pub row_small : (place : Placement) → AllByRecursion EndsLoaded place.sections → (k : SectionKey) → is_alloc k.class ≡ true → (start_of (row_of place k) < 2 ^ 64) × (end_of (row_of place k) < 2 ^ 64)
row_small place all k loads = found_start (λ row. same_key row.key k) place.sections all (named_loads k loads) (row_of place k) refl

other_loads : (c : Class) → not (class_number c == class_number N) ≡ true → is_alloc c ≡ true
other_loads c other = other

stored_loads : (r : Resolved) (name : List ℕ) (row : SectionRow) (a b c : Bool) → ((a && b) && c) ≡ true → b ≡ true
stored_loads r name row a b c all = (and_parts a b (and_parts (a && b) c all).0).1

-- segments
loaded_segment : (s : Segment) → same_segment NotLoaded s ≡ false → (c : Class) → same_segment (segment_of c) s ≡ true → is_alloc c ≡ true
loaded_segment s other R inside = refl
loaded_segment s other X inside = refl
loaded_segment s other W inside = refl
loaded_segment s other WX inside = refl
loaded_segment s other Tdata inside = refl
loaded_segment s other Tbss inside = refl
loaded_segment s other Bss inside = refl
loaded_segment s other N inside = absurd (both_ways (same_segment NotLoaded s) other inside)

segment_small : (s : Segment) (place : Placement) → same_segment NotLoaded s ≡ false → AllByRecursion EndsLoaded place.sections → memory_end (segment_rows s place) ≤ load_base + 2 ^ 31
segment_small s place other all =
    let inside = λ (row : SectionRow). same_segment (segment_of row.key.class) s in
    let rows = filter inside place.sections in
    let takes = λ (row : SectionRow). not (same_class row.key.class Tbss) in
    greatest_under (load_base + 2 ^ 31) (map room_end (filter takes rows))
    (all_mapped room_end (λ n. n ≤ load_base + 2 ^ 31) (filter takes rows)
    (all_filter (λ (row : SectionRow). room_end row ≤ load_base + 2 ^ 31) takes rows
    (all_both {P = EndsLoaded} {Q = λ (row : SectionRow). inside row ≡ true} (λ row ends is. (ends (loaded_segment s other row.key.class is)).room) rows
    (all_filter EndsLoaded inside place.sections all) (all_pass inside place.sections))))

pub second_small : (place : Placement) → AllByRecursion EndsLoaded place.sections → second_segment_end place < 2 ^ 64
unfolding second_segment_end
second_small place all = let small = segment_small Second place refl all in omega (arith, small)

pub third_small : (place : Placement) → AllByRecursion EndsLoaded place.sections → third_segment_end place < 2 ^ 64
unfolding third_segment_end
third_small place all = let small = segment_small Third place refl all in omega (arith, small)

pub stored_small : (r : Resolved) (place : Placement) → AllByRecursion EndsLoaded place.sections → (name : List ℕ) → (start_of (row_with_piece r place name) < 2 ^ 64) × (end_of (row_with_piece r place name) < 2 ^ 64)
stored_small r place all name =
    found_start _ place.sections all (λ row passes. stored_loads r name row _ _ _ passes) (row_with_piece r place name) refl
