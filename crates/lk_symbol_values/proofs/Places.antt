-- The addresses of offsets in pieces are sums that do not wrap.
use Rattle.std.proofs.Common.{◌≡◌, refl, sym, ap, ◌∙◌, subst, arith, mod-lt, mod-eq_of_lt, pow_pos, ℕ, ◌+◌, ◌%◌, ◌^◌, ◌<◌, ◌≤◌, nat_le, ◌&&◌, not, Bool, true, false, List, [], ◌∷◌, map, filter, slice_get, Option, Some, None}
use Rattle.std.specs.Prelude.{IsTrue}
use Rattle.std.specs.List.{AllByRecursion}
use Rattle.std.proofs.lemmas.Bool.{and_parts, both_ways}
use Rattle.std.proofs.lemmas.Bool.Decides.{nat_tests}
use Rattle.lk_model.specs.Amounts.{plus, round_up}
use Rattle.lk_model.specs.FullPlace.{Extent, address_align, begin_from, file_end, first_address, greatest, load_base, loaded_rows, memory_of, next_address, rows_of, tail_start, thread_align, unloaded_rows}
use Rattle.lk_model.specs.Keys.{piece_row_of, same_piece}
use Rattle.lk_model.specs.Lawful.{Lawful, RowOf, extent_of_row, row_passes}
use Rattle.lk_model.specs.SectionKeys.{in_file, is_alloc}
use Rattle.lk_model.specs.SectionOrder.{Segment, First, segment_of}
use Rattle.lk_model.specs.SymbolValues.{section_address}
use Rattle.lk_model.specs.Views.{Resolved}
use Rattle.lk_model.specs.declared.layouts.Class.{Class}
use Rattle.lk_model.specs.declared.layouts.Class.TheVariants.{R, X, W, WX, Tdata, Tbss, Bss, N}
use Rattle.lk_model.specs.declared.layouts.PieceId.TheVariants as id
use Rattle.lk_model.specs.declared.layouts.PieceRow.{PieceRow}
use Rattle.lk_model.specs.declared.layouts.Placement.{Placement}
use Rattle.lk_model.specs.declared.layouts.SectionRow.{SectionRow}
use Rattle.lk_model.proofs.Rising.{all_map, all_of_map, all_pass, below_greatest}
use Rattle.lk_symbol_values.proofs.Ends.{EndsLoaded, room_end, rows_end}
use Rattle.lk_symbol_values.proofs.Lists.{all_at, all_both, all_found, all_joined, all_unfiltered}

pub places_reported : (place : Placement) (input section offset : ℕ) → section_address place input section offset < 2 ^ 64
places_reported place input section offset = by (piece_row_of place (id.Section input section))
  where
    by : (o : Option PieceRow) → elim o [ None ↦ 0 | Some row ↦ plus row.addr offset ] < 2 ^ 64
    by None = omega arith
    by (Some row) = mod-lt (row.addr + offset) (pow_pos 64)

-- sections that are not loaded have address 0
abbrev AtZero : SectionRow → Type 0
AtZero row = is_alloc row.key.class ≡ false → row.addr ≡ 0

loaded_at : (thread : ℕ) (segment : Segment) (at : ℕ) (extents : List Extent) → AllByRecursion (λ (extent : Extent). is_alloc extent.key.class ≡ true) extents → AllByRecursion AtZero (loaded_rows thread segment at extents)
loaded_at thread segment at [] all = tt
loaded_at thread segment at (extent ∷ extents) all =
    let begin = begin_from segment extent.key.class at in
    ((λ none. absurd (both_ways (is_alloc extent.key.class) none all.0)), loaded_at thread (segment_of extent.key.class) (next_address begin (round_up begin (address_align thread extent)) extent) extents all.1)

unloaded_at : (at : ℕ) (extents : List Extent) → AllByRecursion AtZero (unloaded_rows at extents)
unloaded_at at [] = tt
unloaded_at at (extent ∷ extents) = ((λ none. refl), unloaded_at (round_up at extent.align + extent.room) extents)

rows_at : (extents : List Extent) → AllByRecursion AtZero (rows_of extents)
unfolding rows_of
rows_at extents =
    let loads = λ (extent : Extent). is_alloc extent.key.class in
    let loaded = loaded_rows (thread_align extents) First first_address (filter loads extents) in
    let others = filter (λ (extent : Extent). not (is_alloc extent.key.class)) extents in
    all_joined AtZero loaded (unloaded_rows (file_end loaded) others)
    (loaded_at (thread_align extents) First first_address (filter loads extents) (all_pass loads extents))
    (unloaded_at (file_end loaded) others)

-- and end within the file
other_stored : (c : Class) → is_alloc c ≡ false → in_file c ≡ true
other_stored R is = absurd (both_ways true is refl)
other_stored X is = absurd (both_ways true is refl)
other_stored W is = absurd (both_ways true is refl)
other_stored WX is = absurd (both_ways true is refl)
other_stored Tdata is = absurd (both_ways true is refl)
other_stored Tbss is = absurd (both_ways true is refl)
other_stored Bss is = absurd (both_ways true is refl)
other_stored N is = refl

abbrev room_stop : SectionRow → ℕ
room_stop row = row.offset + row.room

stored_stop : (place : Placement) → AllByRecursion (λ (row : SectionRow). in_file row.key.class ≡ true → room_stop row ≤ tail_start place) place.sections
stored_stop place =
    let row_in_file = λ (row : SectionRow). in_file row.key.class in
    let stops = map room_stop (filter row_in_file place.sections) in
    all_unfiltered (λ (row : SectionRow). room_stop row ≤ tail_start place) row_in_file place.sections
    (all_of_map room_stop (λ n. n ≤ greatest stops) (filter row_in_file place.sections) (below_greatest stops))

abbrev IsSmall : SectionRow → Type 0
IsSmall row = room_end row < 2 ^ 64

abbrev NotLoadedEnd : Placement → SectionRow → Type 0
NotLoadedEnd place row = is_alloc row.key.class ≡ false → room_end row ≤ tail_start place

row_small : (row : SectionRow) (tail : ℕ) → tail < 2 ^ 64 → EndsLoaded row → (is_alloc row.key.class ≡ false → room_end row ≤ tail) → IsSmall row
row_small row tail small loaded other = by (is_alloc row.key.class) refl
  where
    by : (b : Bool) → is_alloc row.key.class ≡ b → IsSmall row
    by true e = let room = (loaded e).room in omega (arith, room)
    by false e = let stop = other e in omega (arith, stop, small)

rows_small : (r : Resolved) (place : Placement) → Lawful r place → memory_of place ≤ 2 ^ 31 → tail_start place < 2 ^ 64 → AllByRecursion IsSmall place.sections
rows_small r place lawful memory tail =
    let zero : AllByRecursion AtZero place.sections = subst (AllByRecursion AtZero) lawful.places (rows_at (map extent_of_row place.sections)) in
    let others : AllByRecursion (NotLoadedEnd place) place.sections =
    all_both {P = AtZero} {Q = λ (row : SectionRow). in_file row.key.class ≡ true → room_stop row ≤ tail_start place}
    (λ row none stop is. let first = none is in let last = stop (other_stored row.key.class is) in omega (arith, first, last)) place.sections zero (stored_stop place) in
    all_both {P = EndsLoaded} {Q = NotLoadedEnd place} (λ row loaded other. row_small row (tail_start place) tail loaded other) place.sections (rows_end r place lawful memory) others

-- a piece in its room
le_reports : (a b : ℕ) → nat_le a b ≡ true → a ≤ b
le_reports a b h = grind (arith, nat_tests)

in_room : (piece : PieceRow) (rows : List SectionRow) → AllByRecursion IsSmall rows → (o : Option SectionRow) → slice_get rows piece.section ≡ o
    → IsTrue (row_passes (λ (row : SectionRow). nat_le row.addr piece.addr && nat_le (piece.addr + piece.size) (row.addr + row.room)) o) → piece.addr + piece.size < 2 ^ 64
in_room piece rows all None at passes = absurd (cc)
in_room piece rows all (Some row) at passes =
    let small = all_at IsSmall rows piece.section row all at in
    let last = le_reports (piece.addr + piece.size) (row.addr + row.room) (and_parts (nat_le row.addr piece.addr) (nat_le (piece.addr + piece.size) (row.addr + row.room)) passes).1 in
    omega (arith, small, last)

pub places_exact : (r : Resolved) (place : Placement) → Lawful r place → memory_of place ≤ 2 ^ 31 → tail_start place < 2 ^ 64
    → (input section offset : ℕ) (row : PieceRow) → piece_row_of place (id.Section input section) ≡ Some row → offset ≤ row.size
    → section_address place input section offset ≡ row.addr + offset
places_exact r place lawful memory tail input section offset row at within =
    let passes = (all_found (λ (piece : PieceRow). RowOf place piece (λ row. nat_le row.addr piece.addr && nat_le (piece.addr + piece.size) (row.addr + row.room)))
    (λ (row : PieceRow). same_piece row.piece (id.Section input section)) place.pieces row lawful.in_room at).0 in
    let end = in_room row place.sections (rows_small r place lawful memory tail) (slice_get place.sections row.section) refl passes in
    let small : row.addr + offset < 2 ^ 64 = omega (arith, end, within) in
    ap (λ (o : Option PieceRow). elim o [ None ↦ 0 | Some row ↦ plus row.addr offset ]) at ∙ mod-eq_of_lt small
