-- Each row of a full placement has the size and the room of its section, and the tables have rows.
use Rattle.std.specs.Prelude.{◌≡◌, ℕ, Bool, true, false, IsTrue, List, [], ◌∷◌, ◌++◌, Option, Some, None, ◌==◌, ◌≤◌, ◌&&◌, nat_le, filter, map, refl}
use Rattle.std.specs.List.{AllByRecursion}
use Rattle.std.proofs.Common.{arith, sym, ap, subst, ◌∙◌}
use Rattle.std.proofs.lemmas.Bool.Decides.{nat_tests}
use Rattle.lk_model.specs.SectionKeys.{is_patched, is_numbered_array}
use Rattle.lk_model.specs.SectionOrder.{slots_of, section_keys}
use Rattle.lk_model.specs.Rooms.{room_of, sequence_end, sequence_of}
use Rattle.lk_model.specs.FullPlace.{Extent, extent_of, extent_with, pieces_in, size_among, table_size, rows_of, full_place}
use Rattle.lk_model.specs.Lawful.{extent_of_row, size_of, size_with}
use Rattle.lk_model.specs.Views.{Resolved}
use Rattle.lk_model.specs.declared.layouts.SectionKey.{SectionKey}
use Rattle.lk_model.specs.declared.layouts.SectionRow.{SectionRow}
use Rattle.lk_model.specs.declared.layouts.SlotTable.{SlotTable}
use Rattle.lk_model.proofs.InOrder.{extent_key}
use Rattle.lk_model.proofs.PiecesApart.{room_above}
use Rattle.lk_model.proofs.Rising.{all_map, all_filter, all_of_map}
use Rattle.lk_model.proofs.RowsAgain.{parted, is_loaded, is_unloaded, extents_of_rows}
use Rattle.lk_model.proofs.TablesReported.{tables_reported}

-- what holds of two lists holds of both joined
all_joined : {A : Type 0} (P : A → Type 0) (xs ys : List A) → AllByRecursion P xs → AllByRecursion P ys → AllByRecursion P (xs ++ ys)
all_joined P [] ys first second = second
all_joined P (x ∷ xs) ys first second = (first.0, all_joined P xs ys first.1 second)

-- an extent is the one of its key
abbrev IsOfKey : Resolved → SlotTable → Extent → Type 0
IsOfKey r slots extent = extent ≡ extent_of r slots extent.key

extents_of_keys : (r : Resolved) (slots : SlotTable) (keys : List SectionKey) → AllByRecursion (IsOfKey r slots) (map (extent_of r slots) keys)
extents_of_keys r slots [] = tt
extents_of_keys r slots (key ∷ keys) = (ap (extent_of r slots) (sym (extent_key r slots key)), extents_of_keys r slots keys)

parted_of_keys : (r : Resolved) (slots : SlotTable) (extents : List Extent) → AllByRecursion (IsOfKey r slots) extents → AllByRecursion (IsOfKey r slots) (parted extents)
parted_of_keys r slots extents all =
    all_joined (IsOfKey r slots) (filter is_loaded extents) (filter is_unloaded extents)
    (all_filter (IsOfKey r slots) is_loaded extents all)
    (all_filter (IsOfKey r slots) is_unloaded extents all)

-- each row of a full placement has the extent of its key
pub full_rows_reported :
    (r : Resolved)
    → AllByRecursion (λ (row : SectionRow). extent_of_row row ≡ extent_of r (slots_of r.needs) row.key) (full_place r).sections
unfolding full_place
full_rows_reported r =
    let slots = slots_of r.needs in
    let extents = map (extent_of r slots) (section_keys r) in
    let all = parted_of_keys r slots extents (extents_of_keys r slots (section_keys r)) in
    let reported : AllByRecursion (IsOfKey r slots) (map extent_of_row (rows_of extents)) = rw (extents_of_rows extents) all in
    all_of_map extent_of_row (IsOfKey r slots) (rows_of extents) reported

-- a size that is reported and fits
fits_reported : (size reported room : ℕ) → size ≡ reported → size ≤ room → IsTrue (size == reported && nat_le size room)
fits_reported size reported room same fits = grind (arith, nat_tests, same, fits)

-- a row that has the extent of its key has its size, which is at most its room
size_reported :
    (r : Resolved) (slots : SlotTable) (row : SectionRow)
    → extent_of_row row ≡ extent_of r slots row.key
    → IsTrue (row.size == size_with (table_size r slots row.key) r row && nat_le row.size row.room)
unfolding extent_of
size_reported r slots row reported = go (table_size r slots row.key) (is_patched row.key) refl refl (ap (λ (e : Extent). e.size) reported) (ap (λ (e : Extent). e.room) reported)
  where
    go :
        (o : Option ℕ) (b : Bool)
        → table_size r slots row.key ≡ o
        → is_patched row.key ≡ b
        → row.size ≡ (extent_with (table_size r slots row.key) r.options.patch row.key (pieces_in row.key r.kept)).size
        → row.room ≡ (extent_with (table_size r slots row.key) r.options.patch row.key (pieces_in row.key r.kept)).room
        → IsTrue (row.size == size_with (table_size r slots row.key) r row && nat_le row.size row.room)
    go (Some n) b e f size room =
        let size' : row.size ≡ n = rw e at size in
        let room' : row.room ≡ room_of r.options.patch n = rw e at room in
        let above = room_above r.options.patch n in
        rw e (fits_reported row.size n row.room size' (omega (arith, size', room', above)))
    go None true e f size room =
        let size' = rw f at (rw e at size) in
        let room' = rw f at (rw e at room) in
        rw e (rw f (fits_reported row.size row.room row.room (size' ∙ sym room') (omega (arith, size', room'))))
    go None false e f size room =
        let size' = rw f at (rw e at size) in
        let room' = rw f at (rw e at room) in
        let end = sequence_end (sequence_of (is_numbered_array row.key) (pieces_in row.key r.kept)) in
        let above = room_above r.options.patch end in
        rw e (rw f (fits_reported row.size end row.room size' (omega (arith, size', room', above))))

-- each section has its size, which is at most its room
pub full_sizes :
    (r : Resolved)
    → AllByRecursion (λ (row : SectionRow). IsTrue (row.size == size_of r (full_place r) row && nat_le row.size row.room)) (full_place r).sections
full_sizes r =
    all_map
    (λ (row : SectionRow) reported.
    subst (λ (sizes : List (SectionKey × ℕ)). IsTrue (row.size == size_with (size_among sizes row.key) r row && nat_le row.size row.room)) (sym (tables_reported r))
    (size_reported r (slots_of r.needs) row reported))
    (full_place r).sections (full_rows_reported r)
