-- The address of each row of a full placement is a multiple of the row's alignment.
use Rattle.std.specs.Prelude.{◌≡◌, ℕ, Bool, true, false, List, [], ◌∷◌, Option, Some, None, ◌+◌, ◌-◌, ◌/◌, not, filter, map, refl}
use Rattle.std.specs.List.{AllByRecursion}
use Rattle.std.proofs.Common.{inl}
use Rattle.std.specs.Int.{◌∣◌}
use Rattle.std.proofs.Math.Nat.{dvd-mul_left}
use Rattle.std.proofs.lemmas.Nat.Gcd.{dvd_refl, dvd-zero, dvd_trans}
use Rattle.lk_model.specs.Amounts.{round_up}
use Rattle.lk_model.specs.SectionKeys.{same_class, same_key, is_alloc, is_patched}
use Rattle.lk_model.specs.SectionOrder.{Segment, First, segment_of, section_keys, slots_of}
use Rattle.lk_model.specs.FullPlace.{Extent, address_align, begin_from, extent_of, extent_with, file_end, first_address, full_place, is_thread, loaded_rows, next_address, pieces_extent, pieces_in, rows_of, table_size, thread_align, unloaded_rows}
use Rattle.lk_model.specs.Views.{KeptPiece, Resolved}
use Rattle.lk_model.specs.declared.layouts.Class.TheVariants.{Tdata}
use Rattle.lk_model.specs.declared.layouts.SectionKey.{SectionKey}
use Rattle.lk_model.specs.declared.layouts.SectionRow.{SectionRow}
use Rattle.lk_model.specs.declared.layouts.SlotTable.{SlotTable}
use Rattle.lk_model.proofs.Rising.{all_filter}
use Rattle.lk_law_placement.specs.SoundPieces.{IsPower, SoundPiece, SoundPieces}
use Rattle.lk_law_placement.proofs.DistinctLists.{all_joined, all_mapped}
use Rattle.lk_law_placement.proofs.PiecesPowers.{IsPowerOrNone, align_of_power, divides_greater, greatest_power, sixteen}

-- an extent's alignment is a power of two
abbrev ExtentPower : Extent → Type 0
ExtentPower extent = IsPower extent.align

-- a row's address is a multiple of its alignment
abbrev pub OnMultiple : SectionRow → Type 0
OnMultiple row = row.align ∣ row.addr

-- what is rounded up is a multiple
round_up_divides : (n a : ℕ) → a ∣ round_up n a
round_up_divides n a = dvd-mul_left a ((n + (a - 1)) / a)

-- the alignment of an address is a multiple of the section's
address_divides : (thread : ℕ) (extent : Extent) → IsPowerOrNone thread → IsPower extent.align → extent.align ∣ address_align thread extent
address_divides thread extent t p = go (same_class extent.key.class Tdata) refl
  where
    go : (b : Bool) → same_class extent.key.class Tdata ≡ b → extent.align ∣ address_align thread extent
    go true e = rw e (divides_greater thread extent.align t p)
    go false e = rw e (dvd_refl extent.align)

-- loaded rows are at multiples
loaded_on : (thread : ℕ) (segment : Segment) (at : ℕ) (extents : List Extent) → IsPowerOrNone thread → AllByRecursion ExtentPower extents → AllByRecursion OnMultiple (loaded_rows thread segment at extents)
loaded_on thread segment at [] t powers = tt
loaded_on thread segment at (extent ∷ extents) t powers =
    let begin : ℕ = begin_from segment extent.key.class at in
    let address : ℕ = round_up begin (address_align thread extent) in (
      dvd_trans extent.align (address_divides thread extent t powers.0) (round_up_divides begin (address_align thread extent)),
      loaded_on thread (segment_of extent.key.class) (next_address begin address extent) extents t powers.1,
    )

-- the others have address 0
unloaded_on : (at : ℕ) (extents : List Extent) → AllByRecursion OnMultiple (unloaded_rows at extents)
unloaded_on at [] = tt
unloaded_on at (extent ∷ extents) = (dvd-zero extent.align, unloaded_on (round_up at extent.align + extent.room) extents)

-- the alignment of the thread-local sections
thread_power : (extents : List Extent) → AllByRecursion ExtentPower extents → IsPowerOrNone (thread_align extents)
thread_power extents powers =
    let threads = filter (λ (extent : Extent). is_thread extent.key.class) extents in
    greatest_power 0 (map (λ (extent : Extent). extent.align) threads) (inl refl)
    (all_mapped (λ (extent : Extent). extent.align) IsPower threads (all_filter ExtentPower (λ (extent : Extent). is_thread extent.key.class) extents powers))

-- rows of extents are at multiples
rows_on : (extents : List Extent) → AllByRecursion ExtentPower extents → AllByRecursion OnMultiple (rows_of extents)
unfolding rows_of
rows_on extents powers =
    let loaded = loaded_rows (thread_align extents) First first_address (filter (λ (extent : Extent). is_alloc extent.key.class) extents) in
    let others = filter (λ (extent : Extent). not (is_alloc extent.key.class)) extents in
    all_joined OnMultiple loaded (unloaded_rows (file_end loaded) others)
    (loaded_on (thread_align extents) First first_address (filter (λ (extent : Extent). is_alloc extent.key.class) extents) (thread_power extents powers) (all_filter ExtentPower (λ (extent : Extent). is_alloc extent.key.class) extents powers))
    (unloaded_on (file_end loaded) others)

-- a section's alignment is a power of two
pieces_extent_power : (b : Bool) (patch : ℕ) (key : SectionKey) (pieces : List KeptPiece) → AllByRecursion SoundPiece pieces → IsPower (pieces_extent b patch key pieces).align
pieces_extent_power true patch key pieces sound = align_of_power pieces sound
pieces_extent_power false patch key pieces sound = align_of_power pieces sound

extent_with_power : (size : Option ℕ) (patch : ℕ) (key : SectionKey) (pieces : List KeptPiece) → AllByRecursion SoundPiece pieces → IsPower (extent_with size patch key pieces).align
extent_with_power (Some size) patch key pieces sound = sixteen
extent_with_power None patch key pieces sound = pieces_extent_power (is_patched key) patch key pieces sound

-- the pieces of a section are sound
pub sound_in : (key : SectionKey) (pieces : List KeptPiece) → AllByRecursion SoundPiece pieces → AllByRecursion SoundPiece (pieces_in key pieces)
sound_in key pieces sound = all_filter SoundPiece (λ (piece : KeptPiece). same_key piece.key key) pieces sound

extent_powers : (r : Resolved) (slots : SlotTable) (keys : List SectionKey) → SoundPieces r → AllByRecursion ExtentPower (map (extent_of r slots) keys)
unfolding extent_of
extent_powers r slots [] sound = tt
extent_powers r slots (key ∷ keys) sound = (
  extent_with_power (table_size r slots key) r.options.patch key (pieces_in key r.kept) (sound_in key r.kept sound),
  extent_powers r slots keys sound,
)

-- each row of a full placement is at a multiple of its alignment
pub full_on_multiples : (r : Resolved) → SoundPieces r → AllByRecursion OnMultiple (full_place r).sections
unfolding full_place
full_on_multiples r sound = rows_on (map (extent_of r (slots_of r.needs)) (section_keys r)) (extent_powers r (slots_of r.needs) (section_keys r) sound)
