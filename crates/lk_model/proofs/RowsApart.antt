-- The rooms of a full placement share no address and no byte of the file.
use Rattle.std.specs.Prelude.{◌≡◌, ℕ, Bool, true, false, IsTrue, List, [], ◌∷◌, ◌++◌, ◌+◌, ◌-◌, ◌<◌, ◌≤◌, ◌&&◌, ◌||◌, not, filter, map, refl}
use Rattle.std.specs.List.{AllByRecursion}
use Rattle.std.proofs.Common.{arith, ap, ◌∙◌}
use Rattle.std.proofs.lemmas.List.{append-nil}
use Rattle.std.proofs.lemmas.List.Elements.{filter-append}
use Rattle.lk_model.specs.Amounts.{round_up}
use Rattle.lk_model.specs.SectionKeys.{same_class, is_alloc, in_file}
use Rattle.lk_model.specs.SectionOrder.{Segment, First, segment_of, same_segment}
use Rattle.lk_model.specs.FullPlace.{load_base, first_address, page, Extent, thread_align, address_align, begin_from, next_address, loaded_row, loaded_rows, unloaded_rows, file_end, rows_of}
use Rattle.lk_model.specs.Lawful.{Pairs, addresses_apart, offsets_apart}
use Rattle.lk_model.specs.declared.layouts.Class.{Class}
use Rattle.lk_model.specs.declared.layouts.Class.TheVariants.{Tbss, Bss}
use Rattle.lk_model.specs.declared.layouts.SectionRow.{SectionRow}
use Rattle.lk_model.proofs.Multiples.{round_up_above}
use Rattle.lk_model.proofs.Rising.{Rising, all_filter, all_pass, all_of_map, below_greatest, rising_from_below, rising_apart, rising_filter, rising_append}

-- whether a row takes addresses of its own
abbrev pub takes_addresses : SectionRow → Bool
takes_addresses row = is_alloc row.key.class && not (same_class row.key.class Tbss)

-- whether a row takes bytes of the file
abbrev pub takes_bytes : SectionRow → Bool
takes_bytes row = in_file row.key.class

abbrev pub addr_of : SectionRow → ℕ
addr_of row = row.addr

abbrev pub offset_of : SectionRow → ℕ
offset_of row = row.offset

abbrev pub room_in : SectionRow → ℕ
room_in row = row.room

-- every alignment is above 0
abbrev pub Aligned : List Extent → Type 0
Aligned extents = AllByRecursion (λ (extent : Extent). 0 < extent.align) extents

-- a section begins at or above the end of the one before
begin_above : (segment : Segment) (class : Class) (at : ℕ) → at ≤ begin_from segment class at
begin_above segment class at = go (same_segment segment (segment_of class)) refl
  where
    go : (b : Bool) → same_segment segment (segment_of class) ≡ b → at ≤ begin_from segment class at
    go true e = rw e (omega arith)
    go false e = rw e (round_up_above at page (omega arith))

-- its alignment is above 0
align_positive : (thread : ℕ) (extent : Extent) → 0 < extent.align → 0 < address_align thread extent
align_positive thread extent positive = grind (arith, positive)

-- the next one begins at or above its end, but for the thread-local zeros
next_above : (begin address : ℕ) (extent : Extent) → begin ≤ address → begin ≤ next_address begin address extent
next_above begin address extent above = grind (arith, above)

next_ends : (begin address : ℕ) (extent : Extent) → not (same_class extent.key.class Tbss) ≡ true → next_address begin address extent ≡ address + extent.room
next_ends begin address extent other = grind (arith, other)

second_holds : (a b : Bool) → (a && b) ≡ true → b ≡ true
second_holds true b both = both
second_holds false b both = grind (arith, both)

neither_second : (a b : Bool) → not (a || b) ≡ true → not b ≡ true
neither_second false b neither = neither
neither_second true b neither = grind (arith, neither)

-- loaded rooms rise
loaded_rising :
    (thread : ℕ) (segment : Segment) (at : ℕ) (extents : List Extent)
    → Aligned extents
    → Rising addr_of room_in at (filter takes_addresses (loaded_rows thread segment at extents))
loaded_rising thread segment at [] aligned = tt
loaded_rising thread segment at (extent ∷ extents) aligned =
    let begin : ℕ = begin_from segment extent.key.class at in
    let address : ℕ = round_up begin (address_align thread extent) in
    let next : ℕ = next_address begin address extent in
    let from : at ≤ begin = begin_above segment extent.key.class at in
    let above : begin ≤ address = round_up_above begin (address_align thread extent) (align_positive thread extent aligned.0) in
    let on : begin ≤ next = next_above begin address extent above in
    rising_filter addr_of room_in takes_addresses at next (loaded_row address extent) (loaded_rows thread (segment_of extent.key.class) next extents)
    (omega (arith, from, above))
    (omega (arith, from, on))
    (λ takes. next_ends begin address extent (second_holds (is_alloc extent.key.class) (not (same_class extent.key.class Tbss)) takes))
    (loaded_rising thread (segment_of extent.key.class) next extents aligned.1)

-- and so do their places in the file
loaded_offsets_rising :
    (thread : ℕ) (segment : Segment) (at : ℕ) (extents : List Extent)
    → load_base ≤ at
    → Aligned extents
    → Rising offset_of room_in (at - load_base) (filter takes_bytes (loaded_rows thread segment at extents))
loaded_offsets_rising thread segment at [] base aligned = tt
loaded_offsets_rising thread segment at (extent ∷ extents) base aligned =
    let begin : ℕ = begin_from segment extent.key.class at in
    let address : ℕ = round_up begin (address_align thread extent) in
    let next : ℕ = next_address begin address extent in
    let from : at ≤ begin = begin_above segment extent.key.class at in
    let above : begin ≤ address = round_up_above begin (address_align thread extent) (align_positive thread extent aligned.0) in
    let on : begin ≤ next = next_above begin address extent above in
    rising_filter offset_of room_in takes_bytes (at - load_base) (next - load_base) (loaded_row address extent) (loaded_rows thread (segment_of extent.key.class) next extents)
    (omega (arith, from, above))
    (omega (arith, from, on))
    (λ takes.
    let ends = next_ends begin address extent (neither_second (same_class extent.key.class Bss) (same_class extent.key.class Tbss) takes) in
    let after : load_base ≤ address = omega (arith, base, from, above) in
    omega (arith, ends, after))
    (loaded_offsets_rising thread (segment_of extent.key.class) next extents (omega (arith, base, from, on)) aligned.1)

-- rooms that are not loaded rise in the file
unloaded_rising : (at : ℕ) (extents : List Extent) → Aligned extents → Rising offset_of room_in at (filter takes_bytes (unloaded_rows at extents))
unloaded_rising at [] aligned = tt
unloaded_rising at (extent ∷ extents) aligned =
    let offset : ℕ = round_up at extent.align in
    let above : at ≤ offset = round_up_above at extent.align aligned.0 in
    let row : SectionRow = record { key = extent.key; addr = 0; offset = offset; size = extent.size; room = extent.room; align = extent.align } in
    rising_filter offset_of room_in takes_bytes at (offset + extent.room) row (unloaded_rows (offset + extent.room) extents)
    above
    (omega (arith, above))
    (λ takes. refl)
    (unloaded_rising (offset + extent.room) extents aligned.1)

-- and take no addresses
unloaded_take_none :
    (at : ℕ) (extents : List Extent)
    → AllByRecursion (λ (extent : Extent). not (is_alloc extent.key.class) ≡ true) extents
    → filter takes_addresses (unloaded_rows at extents) ≡ []
unloaded_take_none at [] unloaded = refl
unloaded_take_none at (extent ∷ extents) unloaded =
    let rest = unloaded_take_none (round_up at extent.align + extent.room) extents unloaded.1 in
    let none : is_alloc extent.key.class ≡ false = grind (arith, unloaded.0) in
    rw none rest

-- the loaded rows of extents in their order, and those that are not loaded
abbrev pub loaded_of : List Extent → List SectionRow
loaded_of extents = loaded_rows (thread_align extents) First first_address (filter (λ (extent : Extent). is_alloc extent.key.class) extents)

abbrev pub unloaded_of : List Extent → List Extent
unloaded_of extents = filter (λ (extent : Extent). not (is_alloc extent.key.class)) extents

loaded_aligned : (extents : List Extent) → Aligned extents → Aligned (filter (λ (extent : Extent). is_alloc extent.key.class) extents)
loaded_aligned extents aligned = all_filter (λ (extent : Extent). 0 < extent.align) (λ (extent : Extent). is_alloc extent.key.class) extents aligned

-- rooms of loaded sections share no address, but for the thread-local zeros
pub addresses_are_apart :
    (extents : List Extent)
    → Aligned extents
    → Pairs (λ a b. IsTrue (addresses_apart a b)) (filter takes_addresses (rows_of extents))
unfolding rows_of
addresses_are_apart extents aligned =
    let loaded = loaded_of extents in
    let more = unloaded_rows (file_end loaded) (unloaded_of extents) in
    let none = unloaded_take_none (file_end loaded) (unloaded_of extents) (all_pass (λ (extent : Extent). not (is_alloc extent.key.class)) extents) in
    let parts : filter takes_addresses (rows_of extents) ≡ filter takes_addresses loaded =
    filter-append takes_addresses loaded more ∙ (ap (λ rows. filter takes_addresses loaded ++ rows) none ∙ append-nil (filter takes_addresses loaded)) in
    let rising = loaded_rising (thread_align extents) First first_address (filter (λ (extent : Extent). is_alloc extent.key.class) extents) (loaded_aligned extents aligned) in
    rw parts (rising_apart addr_of room_in first_address (filter takes_addresses loaded) rising)

-- what the file holds ends at or below the file's end
stored_below : (rows : List SectionRow) → AllByRecursion (λ (row : SectionRow). row.offset + row.room ≤ file_end rows) (filter takes_bytes rows)
stored_below rows =
    all_of_map
    (λ (row : SectionRow). row.offset + row.room)
    (λ end. end ≤ file_end rows)
    (filter takes_bytes rows)
    (below_greatest (map (λ (row : SectionRow). row.offset + row.room) (filter takes_bytes rows)))

-- rooms that the file holds share no byte of it
pub offsets_are_apart :
    (extents : List Extent)
    → Aligned extents
    → Pairs (λ a b. IsTrue (offsets_apart a b)) (filter takes_bytes (rows_of extents))
unfolding rows_of
offsets_are_apart extents aligned =
    let loaded = loaded_of extents in
    let more = unloaded_rows (file_end loaded) (unloaded_of extents) in
    let parts : filter takes_bytes (rows_of extents) ≡ filter takes_bytes loaded ++ filter takes_bytes more = filter-append takes_bytes loaded more in
    let first = loaded_offsets_rising (thread_align extents) First first_address (filter (λ (extent : Extent). is_alloc extent.key.class) extents) (omega arith) (loaded_aligned extents aligned) in
    let second = unloaded_rising (file_end loaded) (unloaded_of extents) (all_filter (λ (extent : Extent). 0 < extent.align) (λ (extent : Extent). not (is_alloc extent.key.class)) extents aligned) in
    let from_0 = rising_from_below offset_of room_in 0 (first_address - load_base) (filter takes_bytes loaded) (omega arith) first in
    let whole = rising_append offset_of room_in 0 (file_end loaded) (filter takes_bytes loaded) (filter takes_bytes more) (omega arith) (stored_below loaded) from_0 second in
    rw parts (rising_apart offset_of room_in 0 (filter takes_bytes loaded ++ filter takes_bytes more) whole)
