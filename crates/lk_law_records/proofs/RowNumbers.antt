-- The numbers of the rows of a full placement are small where its memory and its image are: addresses,
-- places in the file, sizes, rooms and alignments.
use Rattle.std.specs.Prelude.{◌≡◌, refl, ℕ, zero, suc, bytes_eq, ◌+◌, ◌-◌, ◌*◌, ◌/◌, ◌^◌, ◌<◌, ◌≤◌, Bool, true, false, ◌&&◌, ◌||◌, not, ◌==◌, nat_le, IsTrue, List, [], ◌∷◌, ◌++◌, filter, map}
use Rattle.std.specs.List.{AllByRecursion, list_any}
use Rattle.std.proofs.Common.{arith, ◌⊎◌, inl, inr, sym, ◌∙◌}
use Rattle.std.proofs.Math.Nat.{mul-le-mul_right}
use Rattle.std.proofs.lemmas.Bool.{and_parts, leb-true}
use Rattle.std.proofs.lemmas.List.Folds.{list_any-append}
use Rattle.lk_model.specs.Amounts.{round_up}
use Rattle.lk_model.specs.FullPlace.{Extent, address_align, begin_from, extent_of, file_end, first_address, full_place, greatest, load_base, loaded_rows, memory_of, next_address, page, rows_of, tail_start, thread_align, unloaded_rows}
use Rattle.lk_model.specs.Lawful.{size_of}
use Rattle.lk_model.specs.SectionKeys.{got_key, in_file, is_alloc, same_class, same_key}
use Rattle.lk_model.specs.SectionOrder.{First, Segment, same_segment, section_keys, segment_of, slots_of, table_sizes}
use Rattle.lk_model.specs.Views.{Resolved}
use Rattle.lk_model.specs.declared.layouts.Class.{Class}
use Rattle.lk_model.specs.declared.layouts.Class.TheVariants.{R, X, W, WX, Tdata, Tbss, Bss, N}
use Rattle.lk_model.specs.declared.layouts.Placement.{Placement}
use Rattle.lk_model.specs.declared.layouts.SectionKey.{SectionKey}
use Rattle.lk_model.specs.declared.layouts.SectionRow.{SectionRow}
use Rattle.lk_model.proofs.FullRows.{extents_aligned}
use Rattle.lk_model.proofs.Multiples.{round_up_above}
use Rattle.lk_model.proofs.Rising.{all_filter, all_of_map, all_pass, below_greatest}
use Rattle.lk_model.proofs.RowsApart.{Aligned}
use Rattle.lk_model.proofs.RowsReported.{full_sizes}
use Rattle.lk_model.proofs.TablesThere.{full_tables}
use Rattle.lk_law_records.proofs.Lists.{all-append, all-both, all-imply, any-one, unfiltered}

-- ---- the greatest of some numbers

-- each number of a list is at most the greatest of them
below-all : (f : SectionRow → ℕ) (test : SectionRow → Bool) (rows : List SectionRow) → AllByRecursion (λ (row : SectionRow). test row ≡ true → f row ≤ greatest (map f (filter test rows))) rows
below-all f test rows =
    unfiltered (λ (row : SectionRow). f row ≤ greatest (map f (filter test rows))) test rows
    (all_of_map f (λ n. n ≤ greatest (map f (filter test rows))) (filter test rows) (below_greatest (map f (filter test rows))))

-- ---- where rows are

-- a multiple of a number is at or above it where it is not 0
round_up_reaches : (n a : ℕ) → 0 < n → 0 < a → a ≤ round_up n a
round_up_reaches n a some positive =
    let above = round_up_above n a positive in
    let k = (n + (a - 1)) / a in
    go k (k * a) refl (omega (arith, above, some))
  where
    go : (k whole : ℕ) → whole ≡ k * a → 0 < whole → a ≤ whole
    go zero whole is not_none = absurd (omega (arith, is, not_none))
    go (suc k) whole is not_none = let one : 1 * a ≤ suc k * a = mul-le-mul_right a (omega arith) in omega (arith, is, one)

begin-above : (segment : Segment) (class : Class) (at : ℕ) → at ≤ begin_from segment class at
begin-above segment class at = go (same_segment segment (segment_of class)) refl
  where
    go : (b : Bool) → same_segment segment (segment_of class) ≡ b → at ≤ begin_from segment class at
    go true e = rw e (omega arith)
    go false e = rw e (round_up_above at page (omega arith))

align-within : (thread : ℕ) (extent : Extent) → extent.align ≤ address_align thread extent
align-within thread extent = grind arith

next-above : (begin address : ℕ) (extent : Extent) → begin ≤ address → begin ≤ next_address begin address extent
next-above begin address extent above = grind (arith, above)

-- a row that is loaded, and one that is not
pub record IsLoadedRow (row : SectionRow) : Type 0 where
  pub above : first_address ≤ row.addr
  pub offset : row.offset ≡ row.addr - load_base
  pub align : row.align ≤ row.addr
  pub alloc : is_alloc row.key.class ≡ true

pub record IsUnloadedRow (row : SectionRow) : Type 0 where
  pub addr : row.addr ≡ 0
  pub align : row.align ≤ row.offset
  pub alloc : is_alloc row.key.class ≡ false

IsAlloc : Extent → Type 0
IsAlloc extent = is_alloc extent.key.class ≡ true

loaded-rows : (thread : ℕ) (segment : Segment) (at : ℕ) (extents : List Extent) → first_address ≤ at → Aligned extents → AllByRecursion IsAlloc extents
    → AllByRecursion IsLoadedRow (loaded_rows thread segment at extents)
unfolding IsAlloc
loaded-rows thread segment at [] from aligned alloc = tt
loaded-rows thread segment at (extent ∷ extents) from (positive, aligned) (own, others) =
    let begin : ℕ = begin_from segment extent.key.class at in
    let a : ℕ = address_align thread extent in
    let address : ℕ = round_up begin a in
    let after = begin-above segment extent.key.class at in
    let within = align-within thread extent in
    let some : 0 < a = omega (arith, positive, within) in
    let above : begin ≤ address = round_up_above begin a some in
    let reaches : a ≤ address = round_up_reaches begin a (omega (arith, after, from)) some in
    let next = next-above begin address extent above in (
      record { above = omega (arith, after, above, from); offset = refl; align = omega (arith, within, reaches); alloc = own },
      loaded-rows thread (segment_of extent.key.class) (next_address begin address extent) extents (omega (arith, next, after, from)) aligned others,
    )

not-alloc : (b : Bool) → not b ≡ true → b ≡ false
not-alloc true e = sym e
not-alloc false e = refl

unloaded-rows : (at : ℕ) (extents : List Extent) → 0 < at → Aligned extents → AllByRecursion (λ (extent : Extent). not (is_alloc extent.key.class) ≡ true) extents
    → AllByRecursion IsUnloadedRow (unloaded_rows at extents)
unloaded-rows at [] some aligned none = tt
unloaded-rows at (extent ∷ extents) some (positive, aligned) (own, others) =
    let offset : ℕ = round_up at extent.align in
    let above : at ≤ offset = round_up_above at extent.align positive in
    let reaches : extent.align ≤ offset = round_up_reaches at extent.align some positive in (
      record { addr = refl; align = reaches; alloc = not-alloc (is_alloc extent.key.class) own },
      unloaded-rows (offset + extent.room) extents (omega (arith, some, above)) aligned others,
    )

-- rows that are not loaded are not the table of slots
unloaded-other : (at : ℕ) (extents : List Extent) → AllByRecursion (λ (extent : Extent). not (is_alloc extent.key.class) ≡ true) extents
    → list_any (λ (row : SectionRow). same_key row.key got_key) (unloaded_rows at extents) ≡ false
unloaded-other at [] none = refl
unloaded-other at (extent ∷ extents) (own, others) =
    let here : same_key extent.key got_key ≡ false = other extent.key.class extent.key.name own in
    let rest = unloaded-other (round_up at extent.align + extent.room) extents others in
    rw (here, rest) refl
  where
    other : (class : Class) (name : List ℕ) → not (is_alloc class) ≡ true → same_key (record { name = name; class = class }) got_key ≡ false
    other R name e = refl
    other X name e = refl
    other W name e = absurd (cc)
    other WX name e = refl
    other Tdata name e = refl
    other Tbss name e = refl
    other Bss name e = refl
    other N name e = refl

got-in-file : (key : SectionKey) → same_key key got_key ≡ true → in_file key.class ≡ true
got-in-file key same = go key.class (and_parts (same_class key.class W) (bytes_eq key.name got_key.name) same).0
  where
    go : (class : Class) → same_class class W ≡ true → in_file class ≡ true
    go R e = refl
    go X e = refl
    go W e = refl
    go WX e = refl
    go Tdata e = refl
    go Tbss e = absurd (cc)
    go Bss e = absurd (cc)
    go N e = refl

-- ---- the rows of a full placement

abbrev loaded_of : List Extent → List SectionRow
loaded_of extents = loaded_rows (thread_align extents) First first_address (filter (λ (extent : Extent). is_alloc extent.key.class) extents)

abbrev others_of : List Extent → List Extent
others_of extents = filter (λ (extent : Extent). not (is_alloc extent.key.class)) extents

or-first : (a b : Bool) → (a || b) ≡ true → b ≡ false → a ≡ true
or-first true b h e = refl
or-first false b h e = sym e ∙ h

-- the loaded rows end behind the headers, since the table of slots is one
end-above : (extents : List Extent) → AllByRecursion IsLoadedRow (loaded_of extents)
    → list_any (λ (row : SectionRow). same_key row.key got_key) (loaded_of extents ++ unloaded_rows (file_end (loaded_of extents)) (others_of extents)) ≡ true
    → 0 < file_end (loaded_of extents)
end-above extents all there =
    let loaded = loaded_of extents in
    let more = unloaded_rows (file_end loaded) (others_of extents) in
    let test : SectionRow → Bool = λ row. same_key row.key got_key in
    let none : list_any test more ≡ false = unloaded-other (file_end loaded) (others_of extents) (all_pass (λ (extent : Extent). not (is_alloc extent.key.class)) extents) in
    let found : list_any test loaded ≡ true = or-first (list_any test loaded) (list_any test more) (sym (list_any-append test loaded more) ∙ there) none in
    let ends = below-all (λ (row : SectionRow). row.offset + row.room) (λ (row : SectionRow). in_file row.key.class) loaded in
    let both = all-both IsLoadedRow (λ (row : SectionRow). in_file row.key.class ≡ true → row.offset + row.room ≤ file_end loaded) loaded all ends in
    let one = any-one (λ (row : SectionRow). IsLoadedRow row × (in_file row.key.class ≡ true → row.offset + row.room ≤ file_end loaded)) test loaded both found in
    let row = one.0 in
    let end = one.1.1.1 (got-in-file row.key one.1.0) in
    let is = one.1.1.0 in
    let above = is.above in
    let offset = is.offset in
    omega (arith, end, above, offset)

all-alloc : (extents : List Extent) → AllByRecursion IsAlloc (filter (λ (extent : Extent). is_alloc extent.key.class) extents)
unfolding IsAlloc
all-alloc extents = all_pass (λ (extent : Extent). is_alloc extent.key.class) extents

abbrev pub IsAt : SectionRow → Type 0
IsAt row = IsLoadedRow row ⊎ IsUnloadedRow row

rows-are_at : (extents : List Extent) → Aligned extents → list_any (λ (row : SectionRow). same_key row.key got_key) (rows_of extents) ≡ true → AllByRecursion IsAt (rows_of extents)
unfolding rows_of
rows-are_at extents aligned there =
    let loaded = loaded_of extents in
    let first = loaded-rows (thread_align extents) First first_address (filter (λ (extent : Extent). is_alloc extent.key.class) extents) (omega arith)
    (all_filter (λ (extent : Extent). 0 < extent.align) (λ (extent : Extent). is_alloc extent.key.class) extents aligned) (all-alloc extents) in
    let some = end-above extents first there in
    let second = unloaded-rows (file_end loaded) (others_of extents) some
    (all_filter (λ (extent : Extent). 0 < extent.align) (λ (extent : Extent). not (is_alloc extent.key.class)) extents aligned)
    (all_pass (λ (extent : Extent). not (is_alloc extent.key.class)) extents) in
    all-append IsAt loaded (unloaded_rows (file_end loaded) (others_of extents))
    (all-imply (λ row is. inl is) loaded first)
    (all-imply (λ row is. inr is) (unloaded_rows (file_end loaded) (others_of extents)) second)

first-table : (r : Resolved) → list_any (λ (row : SectionRow). same_key row.key got_key) (full_place r).sections ≡ true
unfolding table_sizes
first-table r = (full_tables r).0

pub full-are_at : (r : Resolved) → AllByRecursion IsAt (full_place r).sections
unfolding full_place
full-are_at r =
    rows-are_at (map (extent_of r (slots_of r.needs)) (section_keys r)) (extents_aligned r (slots_of r.needs) (section_keys r)) (first-table r)

-- ---- their numbers

pub record IsSmallRow (row : SectionRow) : Type 0 where
  pub end : row.addr + row.room ≤ 2 ^ 33
  pub offset : row.offset ≤ 2 ^ 33
  pub size : row.size ≤ row.room
  pub align : row.align ≤ 2 ^ 33

unloaded-in-file : (class : Class) → is_alloc class ≡ false → in_file class ≡ true
unloaded-in-file R e = refl
unloaded-in-file X e = refl
unloaded-in-file W e = refl
unloaded-in-file WX e = refl
unloaded-in-file Tdata e = refl
unloaded-in-file Tbss e = absurd (cc)
unloaded-in-file Bss e = absurd (cc)
unloaded-in-file N e = refl

abbrev ends_of : Placement → ℕ
ends_of place = greatest (map (λ (row : SectionRow). row.addr + row.room) (filter (λ (row : SectionRow). is_alloc row.key.class) place.sections))

memory-reports : (place : Placement) → memory_of place ≤ 2 ^ 31 → ends_of place ≤ 2 ^ 31 + load_base
unfolding memory_of
memory-reports place low = omega (arith, low)

abbrev IsStored : Placement → SectionRow → Type 0
IsStored place row =
    (is_alloc row.key.class ≡ true → row.addr + row.room ≤ ends_of place)
    × (in_file row.key.class ≡ true → row.offset + row.room ≤ tail_start place)

size-reports : (size reported room : ℕ) → IsTrue (size == reported && nat_le size room) → size ≤ room
size-reports size reported room both = leb-true size room (and_parts (size == reported) (nat_le size room) both).1

small-row : (place : Placement) (row : SectionRow) → memory_of place ≤ 2 ^ 31 → tail_start place ≤ 2 ^ 29 → IsAt row → IsStored place row → row.size ≤ row.room → IsSmallRow row
small-row place row memory tail (inl is) (loaded, stored) size =
    let end = loaded is.alloc in
    let most = memory-reports place memory in
    let offset = is.offset in
    let align = is.align in
    record { end = omega (arith, end, most); offset = omega (arith, end, most, offset); size = size; align = omega (arith, end, most, align) }
small-row place row memory tail (inr is) (loaded, stored) size =
    let end = stored (unloaded-in-file row.key.class is.alloc) in
    let none = is.addr in
    let align = is.align in
    record { end = omega (arith, end, tail, none); offset = omega (arith, end, tail); size = size; align = omega (arith, end, tail, align) }

small-all : (place : Placement) (rows : List SectionRow) → memory_of place ≤ 2 ^ 31 → tail_start place ≤ 2 ^ 29
    → AllByRecursion IsAt rows → AllByRecursion (IsStored place) rows → AllByRecursion (λ (row : SectionRow). row.size ≤ row.room) rows → AllByRecursion IsSmallRow rows
small-all place [] memory tail are_at stored sizes = tt
small-all place (row ∷ rows) memory tail (a, more) (b, others) (c, rest) =
    (small-row place row memory tail a b c, small-all place rows memory tail more others rest)

-- the rows of a full placement whose memory and whose image are small
pub small-rows : (r : Resolved) → memory_of (full_place r) ≤ 2 ^ 31 → tail_start (full_place r) ≤ 2 ^ 29 → AllByRecursion IsSmallRow (full_place r).sections
small-rows r memory tail =
    let place = full_place r in
    let stored =
    all-both (λ (row : SectionRow). is_alloc row.key.class ≡ true → row.addr + row.room ≤ ends_of place) (λ (row : SectionRow). in_file row.key.class ≡ true → row.offset + row.room ≤ tail_start place) place.sections
    (below-all (λ (row : SectionRow). row.addr + row.room) (λ (row : SectionRow). is_alloc row.key.class) place.sections)
    (below-all (λ (row : SectionRow). row.offset + row.room) (λ (row : SectionRow). in_file row.key.class) place.sections) in
    let sizes : AllByRecursion (λ (row : SectionRow). row.size ≤ row.room) place.sections =
    all-imply (λ row reported. size-reports row.size (size_of r place row) row.room reported) place.sections (full_sizes r) in
    small-all place place.sections memory tail (full-are_at r) stored sizes
