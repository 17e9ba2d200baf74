-- Every row that the file holds lies behind the headers and before the tail.
use Rattle.std.specs.Prelude.{◌≡◌, ℕ, Bool, true, false, IsTrue, List, [], ◌∷◌, ◌++◌, ◌+◌, ◌≤◌, ◌<◌, ◌||◌, filter, map, not, refl}
use Rattle.std.specs.List.{AllByRecursion, list_any}
use Rattle.std.proofs.Common.{ap, arith, subst, sym, ◌∙◌}
use Rattle.std.proofs.lemmas.Bool.{both_ways, false_from_ne_true, leb-true}
use Rattle.std.proofs.lemmas.List.Folds.{list_any-append}
use Rattle.std.proofs.Math.Bool.{or-false}
use Rattle.lk_model.specs.Amounts.{round_up}
use Rattle.lk_model.specs.FullPlace.{Extent, extent_of, file_end, first_address, rows_of, tail_start, thread_align, unloaded_rows}
use Rattle.lk_model.specs.Lawful.{Lawful, extent_of_row, is_aligned_enough}
use Rattle.lk_model.specs.SectionKeys.{got_key, in_file, is_alloc, same_key}
use Rattle.lk_model.specs.SectionOrder.{First, table_sizes}
use Rattle.lk_model.specs.Views.{Resolved}
use Rattle.lk_model.specs.declared.layouts.Placement.{Placement}
use Rattle.lk_model.specs.declared.layouts.SectionKey.{SectionKey}
use Rattle.lk_model.specs.declared.layouts.SectionRow.{SectionRow}
use Rattle.lk_model.proofs.FullRows.{extent_aligned}
use Rattle.lk_model.proofs.KeysFound.{same_key_reports}
use Rattle.lk_model.proofs.Multiples.{round_up_above}
use Rattle.lk_model.proofs.Rising.{all_filter, all_map, all_of_map, all_pass, below_greatest}
use Rattle.lk_model.proofs.RowsAgain.{loaded_extents, not_both, unloaded_extents}
use Rattle.lk_model.proofs.RowsApart.{Aligned, loaded_of, unloaded_of}
use Rattle.lk_law_placement.proofs.DistinctLists.{all_both, all_joined, all_mapped, none_of_all}
use Rattle.lk_law_placement.proofs.PiecesLists.{all_front}
use Rattle.lk_law_loading.proofs.Greatest.{all_unfiltered}
use Rattle.lk_law_loading.proofs.RowsRise.{IsWhere, rows_are_at}
use Rattle.lk_law_writes.proofs.PairsOfLists.{any_found}

-- where the first row begins
abbrev pub front_end : ℕ
front_end = 0x1000

-- a row that the file holds begins at or above a place
abbrev BeginsAt : ℕ → SectionRow → Type 0
BeginsAt at row = in_file row.key.class ≡ true → at ≤ row.offset

-- ---- rows of extents

abbrev others_of : List Extent → List SectionRow
others_of extents = unloaded_rows (file_end (loaded_of extents)) (unloaded_of extents)

rows_are : (extents : List Extent) → rows_of extents ≡ loaded_of extents ++ others_of extents
unfolding rows_of
rows_are extents = refl

-- loaded rows are loaded, and the others are not
loaded_are : (extents : List Extent) → AllByRecursion (λ (row : SectionRow). is_alloc row.key.class ≡ true) (loaded_of extents)
loaded_are extents =
    let loaded = filter (λ (extent : Extent). is_alloc extent.key.class) extents in
    all_of_map extent_of_row (λ (extent : Extent). is_alloc extent.key.class ≡ true) (loaded_of extents)
    (subst (AllByRecursion (λ (extent : Extent). is_alloc extent.key.class ≡ true)) (sym (loaded_extents (thread_align extents) First first_address loaded))
    (all_pass (λ (extent : Extent). is_alloc extent.key.class) extents))

others_are : (extents : List Extent) → AllByRecursion (λ (row : SectionRow). is_alloc row.key.class ≡ false) (others_of extents)
others_are extents =
    all_of_map extent_of_row (λ (extent : Extent). is_alloc extent.key.class ≡ false) (others_of extents)
    (subst (AllByRecursion (λ (extent : Extent). is_alloc extent.key.class ≡ false)) (sym (unloaded_extents (file_end (loaded_of extents)) (unloaded_of extents)))
    (all_map {Q = λ (extent : Extent). is_alloc extent.key.class ≡ false} (λ extent none. not_both (is_alloc extent.key.class) none) (unloaded_of extents)
    (all_pass (λ (extent : Extent). not (is_alloc extent.key.class)) extents)))

-- the others rise from where they begin
others_rise : (at : ℕ) (extents : List Extent) → Aligned extents → AllByRecursion (λ (row : SectionRow). at ≤ row.offset) (unloaded_rows at extents)
others_rise at [] aligned = tt
others_rise at (extent ∷ extents) aligned =
    let above : at ≤ round_up at extent.align = round_up_above at extent.align aligned.0 in (
      above,
      all_map {Q = λ (row : SectionRow). at ≤ row.offset}
          (λ row more. omega (arith, above, more))
          (unloaded_rows (round_up at extent.align + extent.room) extents)
          (others_rise (round_up at extent.align + extent.room) extents aligned.1),
    )

-- ---- the end of rows that the file holds

pub stored_below : (rows : List SectionRow) → AllByRecursion (λ (row : SectionRow). in_file row.key.class ≡ true → row.offset + row.room ≤ file_end rows) rows
stored_below rows =
    let stored = λ (row : SectionRow). in_file row.key.class in
    let end = λ (row : SectionRow). row.offset + row.room in
    all_unfiltered (λ row. end row ≤ file_end rows) stored rows
    (all_of_map end (λ n. n ≤ file_end rows) (filter stored rows) (below_greatest (map end (filter stored rows))))

-- ---- a table that every link has

is_got : SectionRow → Bool
is_got row = same_key row.key got_key

no_got : (row : SectionRow) → is_alloc row.key.class ≡ false → same_key row.key got_key ≡ false
no_got row none = false_from_ne_true (same_key row.key got_key) (λ e. both_ways (is_alloc row.key.class) none (ap (λ (key : SectionKey). is_alloc key.class) (same_key_reports row.key got_key e)))

got_loaded : (extents : List Extent) → list_any (λ (row : SectionRow). same_key row.key got_key) (rows_of extents) ≡ true → list_any (λ (row : SectionRow). same_key row.key got_key) (loaded_of extents) ≡ true
got_loaded extents there =
    let p = λ (row : SectionRow). same_key row.key got_key in
    let others = none_of_all p (others_of extents) (all_map {Q = λ (row : SectionRow). same_key row.key got_key ≡ false} no_got (others_of extents) (others_are extents)) in
    let whole : list_any p (rows_of extents) ≡ list_any p (loaded_of extents) =
    ap (list_any p) (rows_are extents)
    ∙ (list_any-append p (loaded_of extents) (others_of extents)
    ∙ (ap (λ b. list_any p (loaded_of extents) || b) others ∙ or-false (list_any p (loaded_of extents)))) in
    sym whole ∙ there

-- ---- all rows

abbrev IsLate : SectionRow → Type 0
IsLate row = front_end ≤ row.offset

loaded_late : (extents : List Extent) → Aligned extents → AllByRecursion IsLate (loaded_of extents)
loaded_late extents aligned =
    let are_at : AllByRecursion IsWhere (loaded_of extents ++ others_of extents) = subst (AllByRecursion IsWhere) (rows_are extents) (rows_are_at extents aligned) in
    all_both {R = IsLate}
    (λ (row : SectionRow) where_loaded loads. let is_at = where_loaded loads in let offset = is_at.offset in let base = is_at.base in omega (arith, offset, base))
    (loaded_of extents)
    (all_front IsWhere (loaded_of extents) (others_of extents) are_at)
    (loaded_are extents)

end_late : (extents : List Extent) → Aligned extents → list_any (λ (row : SectionRow). same_key row.key got_key) (rows_of extents) ≡ true → front_end ≤ file_end (loaded_of extents)
end_late extents aligned there =
    any_found (λ (row : SectionRow). IsLate row × (in_file row.key.class ≡ true → row.offset + row.room ≤ file_end (loaded_of extents)))
    (λ (row : SectionRow). same_key row.key got_key) (loaded_of extents)
    (λ row same both.
    let stored : in_file row.key.class ≡ true = ap (λ (key : SectionKey). in_file key.class) (same_key_reports row.key got_key same) in
    let under = both.1 stored in
    let late = both.0 in
    omega (arith, late, under))
    (all_both {R = λ (row : SectionRow). IsLate row × (in_file row.key.class ≡ true → row.offset + row.room ≤ file_end (loaded_of extents))} (λ row late under. (late, under)) (loaded_of extents) (loaded_late extents aligned) (stored_below (loaded_of extents)))
    (got_loaded extents there)

rows_late : (extents : List Extent) → Aligned extents → list_any (λ (row : SectionRow). same_key row.key got_key) (rows_of extents) ≡ true → AllByRecursion IsLate (rows_of extents)
rows_late extents aligned there =
    let late = end_late extents aligned there in
    subst (AllByRecursion IsLate) (sym (rows_are extents))
    (all_joined IsLate (loaded_of extents) (others_of extents) (loaded_late extents aligned)
    (all_map {Q = IsLate} (λ row more. omega (arith, late, more)) (others_of extents)
    (others_rise (file_end (loaded_of extents)) (unloaded_of extents) (all_filter (λ (extent : Extent). 0 < extent.align) (λ (extent : Extent). not (is_alloc extent.key.class)) extents aligned))))

-- ---- the rows of a lawful placement

aligned_enough : (r : Resolved) (place : Placement) (row : SectionRow) → IsTrue (is_aligned_enough r place.slots row) → 0 < row.align
aligned_enough r place row enough =
    let least = extent_aligned r place.slots row.key in
    let up : (extent_of r place.slots row.key).align ≤ row.align = leb-true (extent_of r place.slots row.key).align row.align enough in
    omega (arith, least, up)

place_aligned : (r : Resolved) (place : Placement) → Lawful r place → Aligned (map extent_of_row place.sections)
place_aligned r place l =
    all_mapped extent_of_row (λ (extent : Extent). 0 < extent.align) place.sections
    (all_map (λ (row : SectionRow) enough. aligned_enough r place row enough) place.sections l.alignments)

got_there : (r : Resolved) (place : Placement) → Lawful r place → list_any (λ (row : SectionRow). same_key row.key got_key) place.sections ≡ true
unfolding table_sizes
got_there r place l = l.tables.0

-- where a row that the file holds lies
abbrev pub RowBetween : Placement → SectionRow → Type 0
RowBetween place row = in_file row.key.class ≡ true → (front_end ≤ row.offset) × (row.offset + row.room ≤ tail_start place)

pub rows_between : (r : Resolved) (place : Placement) → Lawful r place → AllByRecursion (RowBetween place) place.sections
rows_between r place l =
    let extents = map extent_of_row place.sections in
    let there : list_any (λ (row : SectionRow). same_key row.key got_key) (rows_of extents) ≡ true = ap (list_any (λ (row : SectionRow). same_key row.key got_key)) l.places ∙ got_there r place l in
    all_both {R = RowBetween place} (λ row late under stored. (late, under stored)) place.sections
    (subst (AllByRecursion IsLate) l.places (rows_late extents (place_aligned r place l) there))
    (stored_below place.sections)

-- so the tail is behind the headers
pub tail_late : (r : Resolved) (place : Placement) → Lawful r place → front_end ≤ tail_start place
tail_late r place l =
    any_found (RowBetween place) (λ (row : SectionRow). same_key row.key got_key) place.sections
    (λ row same between.
    let stored : in_file row.key.class ≡ true = ap (λ (key : SectionKey). in_file key.class) (same_key_reports row.key got_key same) in
    let both = between stored in
    let late = both.0 in
    let under = both.1 in
    omega (arith, late, under))
    (rows_between r place l)
    (got_there r place l)
