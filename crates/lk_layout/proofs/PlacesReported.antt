-- The measures of groups are those of lk_model's placement.
use Rattle.std.specs.Prelude.{◌≡◌, refl, ℕ, suc, ◌+◌, ◌<◌, ◌≤◌, ◌^◌, nat_lt, Bool, true, false, cond, not, if◌then◌else◌, ◌||◌, List, [], ◌∷◌, ◌++◌, filter, find, length, map, Option, Some, None}
use Rattle.std.specs.List.{list_any}
use Rattle.std.specs.Option.{option_map_or}
use Rattle.std.proofs.Common.{sym, ap, ◌∙◌, arith, length-append}
use Rattle.std.proofs.Math.ListN.{length-map}
use Rattle.std.proofs.lemmas.Bool.Decides.{nat_tests}
use Rattle.lk_report.specs.declared.statuses.LimitFault.{LimitFault}
use Rattle.lk_report.specs.declared.statuses.LimitKind.TheVariants as limit
use Rattle.lk_model.specs.declared.layouts.Placement.{Placement}
use Rattle.lk_model.specs.declared.layouts.SectionKey.{SectionKey}
use Rattle.lk_model.specs.declared.layouts.SectionRow.{SectionRow}
use Rattle.lk_model.specs.declared.layouts.SlotTable.{SlotTable}
use Rattle.lk_model.specs.FullPlace.{Extent, extent_of, extent_with, full_place, memory_of, pieces_in, rows_of, section_count, size_among}
use Rattle.lk_model.specs.Lawful.{extent_of_row}
use Rattle.lk_model.specs.SectionKeys.{is_alloc, same_key}
use Rattle.lk_model.specs.SectionOrder.{in_order, section_keys, slots_of, table_sizes}
use Rattle.lk_model.specs.Views.{KeptPiece, Resolved}
use Rattle.lk_model.proofs.KeysFound.{same_key_reports}
use Rattle.lk_model.proofs.RowsAgain.{extents_of_rows, parted}
use Rattle.lk_layout.specs.Extents.{extent_under, ordered_keys, pieces_under}
use Rattle.lk_layout.specs.Grouping.{Group, Groups, group_of, groups_of, keys_in, keys_of}
use Rattle.lk_layout.specs.Layouts.{extent_in, keys_under, layout_limit, place_in, placement_of}
use Rattle.lk_layout.specs.Rows.{memory_in}
use Rattle.lk_layout.proofs.GroupsGrow.{key_of_piece, keys_again, none_of}
use Rattle.lk_layout.proofs.KeysOnce.{is_among, once_among}

-- ---- the number of rows

parts_count : {A : Type 0} (p : A → Bool) (xs : List A) → length (filter p xs) + length (filter (λ x. not (p x)) xs) ≡ length xs
parts_count p [] = refl
parts_count {A} p (x ∷ xs) = go (p x) (parts_count p xs)
  where
    go : (b : Bool) → length (filter p xs) + length (filter (λ y. not (p y)) xs) ≡ length xs → length (cond b (x ∷ filter p xs) (filter p xs)) + length (cond (not b) (x ∷ filter (λ y. not (p y)) xs) (filter (λ y. not (p y)) xs)) ≡ suc (length xs)
    go true e = omega (arith, e)
    go false e = omega (arith, e)

-- there are as many rows as extents
row_count : (extents : List Extent) → length (rows_of extents) ≡ length extents
row_count extents =
    sym (length-map (rows_of extents) extent_of_row)
    ∙ ap length (extents_of_rows extents)
    ∙ length-append (filter (λ (e : Extent). is_alloc e.key.class) extents) (filter (λ (e : Extent). not (is_alloc e.key.class)) extents)
    ∙ parts_count (λ (e : Extent). is_alloc e.key.class) extents

-- ---- the pieces of sections

abbrev pieces_found : Option Group → List KeptPiece
pieces_found o = option_map_or (λ (g : Group). g.1) o []

under_among : (all : List KeptPiece) (keys : List SectionKey) (key : SectionKey) → is_among key keys ≡ true → pieces_under (map (group_of all) keys) key ≡ pieces_in key all
under_among all [] key any = absurd (cc)
under_among all (k ∷ keys) key any = go (same_key key k) refl any (under_among all keys key)
  where
    go : (b : Bool) → same_key key k ≡ b → (b || is_among key keys) ≡ true → (is_among key keys ≡ true → pieces_under (map (group_of all) keys) key ≡ pieces_in key all) → pieces_found (cond b (Some (group_of all k)) (find (λ (g : Group). same_key key g.0) (map (group_of all) keys))) ≡ pieces_in key all
    go true e a rest = ap (λ q. pieces_in q all) (sym (same_key_reports key k e))
    go false e a rest = rest a

under_none : (all : List KeptPiece) (keys : List SectionKey) (key : SectionKey) → is_among key keys ≡ false → pieces_under (map (group_of all) keys) key ≡ []
under_none all [] key any = refl
under_none all (k ∷ keys) key any = go (same_key key k) any (under_none all keys key)
  where
    go : (b : Bool) → (b || is_among key keys) ≡ false → (is_among key keys ≡ false → pieces_under (map (group_of all) keys) key ≡ []) → pieces_found (cond b (Some (group_of all k)) (find (λ (g : Group). same_key key g.0) (map (group_of all) keys))) ≡ []
    go true a rest = absurd (cc)
    go false a rest = rest a

under_is : (all : List KeptPiece) (key : SectionKey) → pieces_under (map (group_of all) (keys_of all)) key ≡ pieces_in key all
under_is all key = go (is_among key (keys_of all)) refl
  where
    go : (b : Bool) → is_among key (keys_of all) ≡ b → pieces_under (map (group_of all) (keys_of all)) key ≡ pieces_in key all
    go true e = under_among all (keys_of all) key e
    go false e = under_none all (keys_of all) key e ∙ sym (none_of key all (sym (once_among key (map key_of_piece all)) ∙ e))

map_alike : {A B : Type 0} (f g : A → B) → ((x : A) → f x ≡ g x) → (xs : List A) → map f xs ≡ map g xs
map_alike f g h [] = refl
map_alike f g h (x ∷ xs) = λ i. h x i ∷ map_alike f g h xs i

-- ---- the placement by the groups of all pieces

pub record PlacementParts (patch : ℕ) (all : List KeptPiece) (sizes : List (SectionKey × ℕ)) (slots : SlotTable) (keys : List SectionKey) (rows : List SectionRow) : Type 0 where
  pub place : place_in rows all slots ≡ placement_of patch all sizes slots
  pub memory : memory_of (placement_of patch all sizes slots) ≡ memory_in rows

keys_are : (all : List KeptPiece) (sizes : List (SectionKey × ℕ)) → ordered_keys sizes (groups_of all).sections ≡ keys_under all sizes
unfolding groups_of
keys_are all sizes = ap (λ ks. in_order (ks ++ map (λ (table : SectionKey × ℕ). table.0) sizes)) (keys_again all (keys_of all))

extents_are : (patch : ℕ) (all : List KeptPiece) (sizes : List (SectionKey × ℕ)) (keys : List SectionKey) → map (extent_under patch sizes (groups_of all).sections) keys ≡ map (extent_in patch all sizes) keys
unfolding groups_of
extents_are patch all sizes keys =
    map_alike (extent_under patch sizes (map (group_of all) (keys_of all))) (extent_in patch all sizes) (λ key. ap (extent_with (size_among sizes key) patch key) (under_is all key)) keys

-- the number of sections, which is counted before their sizes are measured
pub count_reported : (patch : ℕ) (all : List KeptPiece) (sizes : List (SectionKey × ℕ)) (slots : SlotTable) (groups : Groups) (keys : List SectionKey) → groups ≡ groups_of all → keys ≡ ordered_keys sizes groups.sections → section_count (placement_of patch all sizes slots) ≡ length keys
unfolding placement_of
count_reported patch all sizes slots groups keys same keys_so =
    row_count (map (extent_in patch all sizes) (keys_under all sizes))
    ∙ length-map (keys_under all sizes) (extent_in patch all sizes)
    ∙ ap length (sym (keys_so ∙ ap (λ (g : Groups). ordered_keys sizes g.sections) same ∙ keys_are all sizes))

pub rows_reported : (patch : ℕ) (all : List KeptPiece) (sizes : List (SectionKey × ℕ)) (slots : SlotTable) (groups : Groups) (keys : List SectionKey) (rows : List SectionRow) → groups ≡ groups_of all → keys ≡ ordered_keys sizes groups.sections → rows ≡ rows_of (map (extent_under patch sizes groups.sections) keys) → PlacementParts patch all sizes slots keys rows
unfolding placement_of memory_of
rows_reported patch all sizes slots groups keys rows same keys_so rows_so =
    let keys_model : keys ≡ keys_under all sizes = keys_so ∙ ap (λ (g : Groups). ordered_keys sizes g.sections) same ∙ keys_are all sizes in
    let rows_model : rows ≡ rows_of (map (extent_in patch all sizes) (keys_under all sizes)) =
    rows_so ∙ ap (λ (g : Groups). rows_of (map (extent_under patch sizes g.sections) keys)) same ∙ ap rows_of (extents_are patch all sizes keys) ∙ ap (λ ks. rows_of (map (extent_in patch all sizes) ks)) keys_model in
    record { place = ap (λ rs. place_in rs all slots) rows_model; memory = ap memory_in (sym rows_model) }

-- ---- the limits

pub over_sections : (full : Placement) (n : ℕ) → section_count full ≡ n → 60000 < n → layout_limit full ≡ Some (record { which = limit.Sections; number = n })
over_sections full n count over =
    let test : nat_lt 60000 (section_count full) ≡ true = grind (arith, nat_tests, count, over) in
    rw test (ap (λ m. Some (record { which = limit.Sections; number = m })) count)

pub over_memory : (full : Placement) (count memory : ℕ) → section_count full ≡ count → count ≤ 60000 → memory_of full ≡ memory → 2 ^ 31 < memory → layout_limit full ≡ Some (record { which = limit.Memory; number = memory })
over_memory full count memory is within takes over =
    let first : nat_lt 60000 (section_count full) ≡ false = grind (arith, nat_tests, is, within) in
    let second : nat_lt (2 ^ 31) (memory_of full) ≡ true = grind (arith, nat_tests, takes, over) in
    rw first (rw second (ap (λ m. Some (record { which = limit.Memory; number = m })) takes))

-- ---- lk_model's placement

pub full_is : (r : Resolved) → full_place r ≡ placement_of r.options.patch r.kept (table_sizes r (slots_of r.needs)) (slots_of r.needs)
unfolding full_place section_keys extent_of placement_of
full_is r = refl
