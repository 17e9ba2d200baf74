-- What a lawful placement says of its rows, of a full placement.
use Rattle.std.specs.Prelude.{◌≡◌, ℕ, Bool, true, false, IsTrue, List, [], ◌∷◌, Option, Some, None, ◌≤◌, ◌&&◌, not, max, fold, filter, map}
use Rattle.std.proofs.Common.{arith}
use Rattle.lk_model.specs.SectionKeys.{same_class, is_alloc, in_file, is_patched}
use Rattle.lk_model.specs.SectionOrder.{section_keys, slots_of}
use Rattle.lk_model.specs.FullPlace.{extent_of, extent_with, pieces_extent, pieces_in, table_size, rows_of, full_place}
use Rattle.lk_model.specs.Lawful.{Pairs, addresses_apart, offsets_apart, extent_of_row}
use Rattle.lk_model.specs.Views.{KeptPiece, Resolved}
use Rattle.lk_model.specs.declared.layouts.Class.TheVariants.{Tbss}
use Rattle.lk_model.specs.declared.layouts.SectionKey.{SectionKey}
use Rattle.lk_model.specs.declared.layouts.SectionRow.{SectionRow}
use Rattle.lk_model.specs.declared.layouts.SlotTable.{SlotTable}
use Rattle.lk_model.proofs.RowsApart.{Aligned, addresses_are_apart, offsets_are_apart}
use Rattle.lk_model.proofs.RowsAgain.{rows_again}

-- an alignment is not below the one that it begins with
align_above : (low at : ℕ) (pieces : List KeptPiece) → low ≤ at → low ≤ fold (λ align (piece : KeptPiece). max align piece.align) at pieces
align_above low at [] above = above
align_above low at (piece ∷ pieces) above = align_above low (max at piece.align) pieces (grind (arith, above))

-- every section has an alignment of at least 16
pieces_extent_aligned : (b : Bool) (patch : ℕ) (key : SectionKey) (pieces : List KeptPiece) → 16 ≤ (pieces_extent b patch key pieces).align
pieces_extent_aligned true patch key pieces = align_above 16 16 pieces (omega arith)
pieces_extent_aligned false patch key pieces = align_above 16 16 pieces (omega arith)

extent_with_aligned : (size : Option ℕ) (patch : ℕ) (key : SectionKey) (pieces : List KeptPiece) → 16 ≤ (extent_with size patch key pieces).align
extent_with_aligned (Some size) patch key pieces = omega arith
extent_with_aligned None patch key pieces = pieces_extent_aligned (is_patched key) patch key pieces

pub extent_aligned : (r : Resolved) (slots : SlotTable) (key : SectionKey) → 16 ≤ (extent_of r slots key).align
unfolding extent_of
extent_aligned r slots key = extent_with_aligned (table_size r slots key) r.options.patch key (pieces_in key r.kept)

pub extents_aligned : (r : Resolved) (slots : SlotTable) (keys : List SectionKey) → Aligned (map (extent_of r slots) keys)
extents_aligned r slots [] = tt
extents_aligned r slots (key ∷ keys) = (let enough = extent_aligned r slots key in omega (arith, enough), extents_aligned r slots keys)

-- rooms of loaded sections share no address; the thread-local zeros take none
pub full_addresses_share_nothing :
    (r : Resolved)
    → Pairs (λ a b. IsTrue (addresses_apart a b)) (filter (λ (row : SectionRow). is_alloc row.key.class && not (same_class row.key.class Tbss)) (full_place r).sections)
unfolding full_place
full_addresses_share_nothing r =
    addresses_are_apart (map (extent_of r (slots_of r.needs)) (section_keys r)) (extents_aligned r (slots_of r.needs) (section_keys r))

-- rooms that the file holds share no byte of it
pub full_offsets_share_nothing :
    (r : Resolved)
    → Pairs (λ a b. IsTrue (offsets_apart a b)) (filter (λ (row : SectionRow). in_file row.key.class) (full_place r).sections)
unfolding full_place
full_offsets_share_nothing r =
    offsets_are_apart (map (extent_of r (slots_of r.needs)) (section_keys r)) (extents_aligned r (slots_of r.needs) (section_keys r))

-- addresses and offsets are those that the rows' rooms and alignments give
pub full_places : (r : Resolved) → rows_of (map extent_of_row (full_place r).sections) ≡ (full_place r).sections
unfolding full_place
full_places r = rows_again (map (extent_of r (slots_of r.needs)) (section_keys r))
