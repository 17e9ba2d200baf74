-- Loaded rows are at or above the ends of those before them, and on a page of their own where they are
-- of another segment.
use Rattle.std.specs.Prelude.{◌≡◌, ℕ, zero, suc, Bool, true, false, List, [], ◌∷◌, ◌+◌, ◌-◌, ◌*◌, ◌/◌, ◌<◌, ◌≤◌, not, filter, refl}
use Rattle.std.specs.List.{AllByRecursion}
use Rattle.std.proofs.Common.{arith, subst}
use Rattle.std.proofs.lemmas.Bool.{both_ways}
use Rattle.lk_model.specs.Amounts.{round_up}
use Rattle.lk_model.specs.SectionKeys.{same_class, is_alloc}
use Rattle.lk_model.specs.SectionOrder.{Segment, First, Second, Third, NotLoaded, segment_of, same_segment}
use Rattle.lk_model.specs.FullPlace.{load_base, first_address, page, Extent, thread_align, address_align, begin_from, next_address, loaded_row, loaded_rows, unloaded_rows, file_end, rows_of}
use Rattle.lk_model.specs.Lawful.{Pairs}
use Rattle.lk_model.specs.declared.layouts.Class.{Class}
use Rattle.lk_model.specs.declared.layouts.Class.TheVariants.{Tbss}
use Rattle.lk_model.specs.declared.layouts.SectionRow.{SectionRow}
use Rattle.lk_model.proofs.Multiples.{round_up_above, round_up_least}
use Rattle.lk_model.proofs.Rising.{all_map, all_filter, all_pass}
use Rattle.lk_model.proofs.RowsAgain.{not_both}
use Rattle.lk_model.proofs.RowsApart.{Aligned}
use Rattle.lk_law_placement.proofs.DistinctLists.{all_always, all_joined}
use Rattle.lk_law_loading.proofs.PairsInOrder.{pairs_joined, pairs_map, pairs_of_all}

-- whether a row takes addresses of its own, as all but the thread-local zeros do
abbrev pub takes_room : SectionRow → Bool
takes_room row = not (same_class row.key.class Tbss)

-- a greater number is rounded up to no less
pub round_up_rises : (m n a : ℕ) → 0 < a → m ≤ n → round_up m a ≤ round_up n a
round_up_rises m n a positive under =
    let above = round_up_above n a positive in
    round_up_least m a ((n + (a - 1)) / a) positive (omega (arith, above, under))

-- a multiple above 0 is at least its factor
factor_below : (q a : ℕ) → 0 < q * a → a ≤ q * a
factor_below zero a positive = absurd (omega arith)
factor_below (suc q) a positive = omega arith

pub round_up_positive : (n a : ℕ) → 0 < a → 0 < n → a ≤ round_up n a
round_up_positive n a positive filled =
    let above = round_up_above n a positive in
    factor_below ((n + (a - 1)) / a) a (omega (arith, above, filled))

differ : false ≡ true → ⊥
differ e = both_ways false refl e

-- segments that are the same are one
pub same_segment_reports : (a b : Segment) → same_segment a b ≡ true → a ≡ b
same_segment_reports First First same = refl
same_segment_reports Second Second same = refl
same_segment_reports Third Third same = refl
same_segment_reports NotLoaded NotLoaded same = refl
same_segment_reports First Second same = absurd (differ same)
same_segment_reports First Third same = absurd (differ same)
same_segment_reports First NotLoaded same = absurd (differ same)
same_segment_reports Second First same = absurd (differ same)
same_segment_reports Second Third same = absurd (differ same)
same_segment_reports Second NotLoaded same = absurd (differ same)
same_segment_reports Third First same = absurd (differ same)
same_segment_reports Third Second same = absurd (differ same)
same_segment_reports Third NotLoaded same = absurd (differ same)
same_segment_reports NotLoaded First same = absurd (differ same)
same_segment_reports NotLoaded Second same = absurd (differ same)
same_segment_reports NotLoaded Third same = absurd (differ same)

-- ---- one row after another

-- a row begins at or above a place, and above its page where the row is of another segment
pub record Above (segment : Segment) (at : ℕ) (row : SectionRow) : Type 0 where
  pub above : at ≤ row.addr
  pub paged : same_segment segment (segment_of row.key.class) ≡ false → round_up at page ≤ row.addr

-- a row is behind another
pub record Behind (a b : SectionRow) : Type 0 where
  pub above : takes_room a ≡ true → a.addr + a.room ≤ b.addr
  pub paged : takes_room a ≡ true → same_segment (segment_of a.key.class) (segment_of b.key.class) ≡ false → round_up (a.addr + a.room) page ≤ b.addr

-- where the next section may begin
begin_above : (segment : Segment) (class : Class) (at : ℕ) → at ≤ begin_from segment class at
begin_above segment class at = go (same_segment segment (segment_of class)) refl
  where
    go : (b : Bool) → same_segment segment (segment_of class) ≡ b → at ≤ begin_from segment class at
    go true e = rw e (omega arith)
    go false e = rw e (round_up_above at page (omega arith))

begin_paged : (segment : Segment) (class : Class) (at : ℕ) → same_segment segment (segment_of class) ≡ false → begin_from segment class at ≡ round_up at page
begin_paged segment class at other = rw other refl

align_positive : (thread : ℕ) (extent : Extent) → 0 < extent.align → 0 < address_align thread extent
align_positive thread extent positive = grind (arith, positive)

pub align_under : (thread : ℕ) (extent : Extent) → extent.align ≤ address_align thread extent
align_under thread extent = grind arith

next_above : (begin address : ℕ) (extent : Extent) → begin ≤ address → begin ≤ next_address begin address extent
next_above begin address extent above = grind (arith, above)

next_ends : (begin address : ℕ) (extent : Extent) → not (same_class extent.key.class Tbss) ≡ true → next_address begin address extent ≡ address + extent.room
next_ends begin address extent other = grind (arith, other)

-- the numbers of one step
record Step (segment : Segment) (at thread : ℕ) (extent : Extent) : Type 0 where
  from : at ≤ begin_from segment extent.key.class at
  above : begin_from segment extent.key.class at ≤ round_up (begin_from segment extent.key.class at) (address_align thread extent)
  on : begin_from segment extent.key.class at ≤ next_address (begin_from segment extent.key.class at) (round_up (begin_from segment extent.key.class at) (address_align thread extent)) extent

step_reported : (segment : Segment) (at thread : ℕ) (extent : Extent) → 0 < extent.align → Step segment at thread extent
step_reported segment at thread extent positive =
    let begin : ℕ = begin_from segment extent.key.class at in
    let address : ℕ = round_up begin (address_align thread extent) in
    let above : begin ≤ address = round_up_above begin (address_align thread extent) (align_positive thread extent positive) in
    record { from = begin_above segment extent.key.class at; above = above; on = next_above begin address extent above }

-- a row above the next place is above this one
above_before :
    (segment : Segment) (at next : ℕ) (class : Class) (row : SectionRow)
    → at ≤ next
    → (same_segment segment (segment_of class) ≡ false → round_up at page ≤ next)
    → Above (segment_of class) next row
    → Above segment at row
above_before segment at next class row on paged t = record {
  above = let above = t.above in omega (arith, on, above);
  paged = λ apart. go (same_segment segment (segment_of class)) refl apart;
}
  where
    go : (b : Bool) → same_segment segment (segment_of class) ≡ b → same_segment segment (segment_of row.key.class) ≡ false → round_up at page ≤ row.addr
    go true e apart =
        let same : segment ≡ segment_of class = same_segment_reports segment (segment_of class) e in
        let other : same_segment (segment_of class) (segment_of row.key.class) ≡ false = subst (λ (s : Segment). same_segment s (segment_of row.key.class) ≡ false) same apart in
        let far = t.paged other in
        let rises = round_up_rises at next page (omega arith) on in
        omega (arith, far, rises)
    go false e apart =
        let far = paged e in
        let above = t.above in
        omega (arith, far, above)

-- all loaded rows are above the place from which they go on
pub loaded_above :
    (thread : ℕ) (segment : Segment) (at : ℕ) (extents : List Extent)
    → Aligned extents
    → AllByRecursion (Above segment at) (loaded_rows thread segment at extents)
loaded_above thread segment at [] aligned = tt
loaded_above thread segment at (extent ∷ extents) aligned =
    let class : Class = extent.key.class in
    let begin : ℕ = begin_from segment class at in
    let address : ℕ = round_up begin (address_align thread extent) in
    let next : ℕ = next_address begin address extent in
    let s : Step segment at thread extent = step_reported segment at thread extent aligned.0 in
    let from : at ≤ begin = s.from in
    let above : begin ≤ address = s.above in
    let on : begin ≤ next = s.on in (
      record {
        above = omega (arith, from, above);
        paged = λ apart. let paged = begin_paged segment class at apart in omega (arith, paged, above);
      },
      all_map
          (λ (row : SectionRow) (t : Above (segment_of class) next row).
          above_before segment at next class row (omega (arith, from, on)) (λ apart. let paged = begin_paged segment class at apart in omega (arith, paged, on)) t)
          (loaded_rows thread (segment_of class) next extents)
          (loaded_above thread (segment_of class) next extents aligned.1),
    )

-- each is behind those before it
pub loaded_behind :
    (thread : ℕ) (segment : Segment) (at : ℕ) (extents : List Extent)
    → Aligned extents
    → Pairs Behind (loaded_rows thread segment at extents)
loaded_behind thread segment at [] aligned = tt
loaded_behind thread segment at (extent ∷ extents) aligned =
    let class : Class = extent.key.class in
    let begin : ℕ = begin_from segment class at in
    let address : ℕ = round_up begin (address_align thread extent) in
    let next : ℕ = next_address begin address extent in (
      all_map
          (λ (row : SectionRow) (t : Above (segment_of class) next row).
          behind_first begin address extent row t)
          (loaded_rows thread (segment_of class) next extents)
          (loaded_above thread (segment_of class) next extents aligned.1),
      loaded_behind thread (segment_of class) next extents aligned.1,
    )
  where
    behind_first : (begin address : ℕ) (e : Extent) (row : SectionRow) → Above (segment_of e.key.class) (next_address begin address e) row → Behind (loaded_row address e) row
    behind_first begin address e row t = record {
      above = λ takes. let ends = next_ends begin address e takes in let above = t.above in omega (arith, ends, above);
      paged = λ takes apart. subst (λ n. round_up n page ≤ row.addr) (next_ends begin address e takes) (t.paged apart);
    }

-- ---- a row by itself

-- what is known of a loaded row: its place in the file, and that its alignment is not above its address
pub record IsAtLoaded (row : SectionRow) : Type 0 where
  pub offset : row.offset ≡ row.addr - load_base
  pub base : first_address ≤ row.addr
  pub align : row.align ≤ row.addr

loaded_are_at :
    (thread : ℕ) (segment : Segment) (at : ℕ) (extents : List Extent)
    → first_address ≤ at
    → Aligned extents
    → AllByRecursion IsAtLoaded (loaded_rows thread segment at extents)
loaded_are_at thread segment at [] base aligned = tt
loaded_are_at thread segment at (extent ∷ extents) base aligned =
    let class : Class = extent.key.class in
    let begin : ℕ = begin_from segment class at in
    let address : ℕ = round_up begin (address_align thread extent) in
    let next : ℕ = next_address begin address extent in
    let s : Step segment at thread extent = step_reported segment at thread extent aligned.0 in
    let from : at ≤ begin = s.from in
    let above : begin ≤ address = s.above in
    let on : begin ≤ next = s.on in
    let positive : address_align thread extent ≤ address = round_up_positive begin (address_align thread extent) (align_positive thread extent aligned.0) (omega (arith, base, from)) in
    let under = align_under thread extent in (
      record { offset = refl; base = omega (arith, base, from, above); align = omega (arith, positive, under) },
      loaded_are_at thread (segment_of class) next extents (omega (arith, base, from, on)) aligned.1,
    )

-- ---- all rows of extents

-- rows of sections that are not loaded
unloaded_stay :
    (at : ℕ) (extents : List Extent)
    → AllByRecursion (λ (extent : Extent). not (is_alloc extent.key.class) ≡ true) extents
    → AllByRecursion (λ (row : SectionRow). is_alloc row.key.class ≡ false) (unloaded_rows at extents)
unloaded_stay at [] unloaded = tt
unloaded_stay at (extent ∷ extents) unloaded =
    (not_both (is_alloc extent.key.class) unloaded.0, unloaded_stay (round_up at extent.align + extent.room) extents unloaded.1)

-- a row that is loaded is behind another
abbrev pub BehindLoaded : SectionRow → SectionRow → Type 0
BehindLoaded a b = is_alloc b.key.class ≡ true → Behind a b

abbrev loaded_in : List Extent → List Extent
loaded_in extents = filter (λ (extent : Extent). is_alloc extent.key.class) extents

abbrev unloaded_in : List Extent → List Extent
unloaded_in extents = filter (λ (extent : Extent). not (is_alloc extent.key.class)) extents

loaded_aligned : (extents : List Extent) → Aligned extents → Aligned (loaded_in extents)
loaded_aligned extents aligned = all_filter (λ (extent : Extent). 0 < extent.align) (λ (extent : Extent). is_alloc extent.key.class) extents aligned

others_unloaded : (at : ℕ) (extents : List Extent) → AllByRecursion (λ (row : SectionRow). is_alloc row.key.class ≡ false) (unloaded_rows at (unloaded_in extents))
others_unloaded at extents = unloaded_stay at (unloaded_in extents) (all_pass (λ (extent : Extent). not (is_alloc extent.key.class)) extents)

-- a row that is not loaded need not
never_behind : (a b : SectionRow) → is_alloc b.key.class ≡ false → BehindLoaded a b
never_behind a b none loads = absurd (both_ways (is_alloc b.key.class) none loads)

-- a row that is loaded is in its place
abbrev pub IsWhere : SectionRow → Type 0
IsWhere row = is_alloc row.key.class ≡ true → IsAtLoaded row

never_is_at : (row : SectionRow) → is_alloc row.key.class ≡ false → IsWhere row
never_is_at row none loads = absurd (both_ways (is_alloc row.key.class) none loads)

-- rows that are loaded are behind those before them
pub rows_behind : (extents : List Extent) → Aligned extents → Pairs BehindLoaded (rows_of extents)
unfolding rows_of
rows_behind extents aligned =
    let loaded = loaded_rows (thread_align extents) First first_address (loaded_in extents) in
    let others = unloaded_rows (file_end loaded) (unloaded_in extents) in
    let apart = others_unloaded (file_end loaded) extents in
    pairs_joined BehindLoaded loaded others
    (pairs_map {R = Behind} (λ a b behind loads. behind) loaded (loaded_behind (thread_align extents) First first_address (loaded_in extents) (loaded_aligned extents aligned)))
    (all_always {P = λ a. AllByRecursion (BehindLoaded a) others} (λ a. all_map {Q = BehindLoaded a} (never_behind a) others apart) loaded)
    (pairs_of_all (λ (row : SectionRow). is_alloc row.key.class ≡ false) BehindLoaded (λ a b one none. never_behind a b none) others apart)

-- and each is known by itself
pub rows_are_at : (extents : List Extent) → Aligned extents → AllByRecursion IsWhere (rows_of extents)
unfolding rows_of
rows_are_at extents aligned =
    let loaded = loaded_rows (thread_align extents) First first_address (loaded_in extents) in
    let others = unloaded_rows (file_end loaded) (unloaded_in extents) in
    all_joined IsWhere loaded others
    (all_map {P = IsAtLoaded} {Q = IsWhere} (λ row is_at loads. is_at) loaded (loaded_are_at (thread_align extents) First first_address (loaded_in extents) (omega arith) (loaded_aligned extents aligned)))
    (all_map {Q = IsWhere} never_is_at others (others_unloaded (file_end loaded) extents))
