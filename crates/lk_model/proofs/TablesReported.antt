-- The tables of a full placement are as large as the kept pieces ask for: its rows have an array of
-- functions exactly where a kept piece goes to it.
use Rattle.std.specs.Prelude.{◌≡◌, ℕ, Bool, true, false, List, [], ◌∷◌, ◌||◌, ◌==◌, if◌then◌else◌, drop, filter, flat_map, map, length, refl}
use Rattle.std.specs.List.{AllByRecursion, list_any, range_with_len}
use Rattle.std.proofs.Common.{sym, ap, ◌∙◌}
use Rattle.std.proofs.Math.Bool.{or-false}
use Rattle.std.proofs.lemmas.Bool.{or_from, or_parts}
use Rattle.std.proofs.lemmas.List.Folds.{list_any-append}
use Rattle.lk_model.specs.SectionKeys.{same_key, is_table, table_keys, got_key, got_plt_key}
use Rattle.lk_model.specs.SectionOrder.{section_rank, in_order, piece_keys, slots_of, existing_keys, section_keys, table_sizes, table_sizes_among}
use Rattle.lk_model.specs.DynamicSizes.{preinit_array_key, init_array_key, fini_array_key, array_count, dynamic_table_sizes}
use Rattle.lk_model.specs.FullPlace.{full_place}
use Rattle.lk_model.specs.Lawful.{table_sizes_at}
use Rattle.lk_model.specs.Views.{Resolved}
use Rattle.lk_model.specs.declared.layouts.SectionKey.{SectionKey}
use Rattle.lk_model.specs.declared.layouts.SectionRow.{SectionRow}
use Rattle.lk_model.specs.declared.layouts.SlotTable.{SlotTable}
use Rattle.lk_model.proofs.InOrder.{full_keys}
use Rattle.lk_model.proofs.KeysFound.{in_order_has}

-- what no item has, none of those that pass a test has
none_filtered : {A : Type 0} (p q : A → Bool) (xs : List A) → list_any p xs ≡ false → list_any p (filter q xs) ≡ false
none_filtered p q [] none = refl
none_filtered {A} p q (x ∷ xs) none = go (q x) refl (none_filtered p q xs (or_parts (p x) (list_any p xs) none).1)
  where
    go : (b : Bool) → q x ≡ b → list_any p (filter q xs) ≡ false → list_any p (filter q (x ∷ xs)) ≡ false
    go true e rest = rw e (or_from (p x) (list_any p (filter q xs)) (or_parts (p x) (list_any p xs) none).0 rest)
    go false e rest = rw e rest

-- nor has any of those of some ranks
none_in_ranks :
    (p : SectionKey → Bool) (keys : List SectionKey) (ranks : List ℕ)
    → list_any p keys ≡ false
    → list_any p (flat_map (λ rank. filter (λ key. section_rank key == rank) keys) ranks) ≡ false
none_in_ranks p keys [] none = refl
none_in_ranks p keys (rank ∷ ranks) none =
    let here = filter (λ key. section_rank key == rank) keys in
    let later = flat_map (λ rank. filter (λ key. section_rank key == rank) keys) ranks in
    list_any-append p here later
    ∙ or_from (list_any p here) (list_any p later) (none_filtered p (λ key. section_rank key == rank) keys none) (none_in_ranks p keys ranks none)

-- a key is among keys in their order exactly where it is among them
in_order_same : (key : SectionKey) (keys : List SectionKey) → list_any (same_key key) (in_order keys) ≡ list_any (same_key key) keys
unfolding in_order
in_order_same key keys = go (list_any (same_key key) keys) refl
  where
    go : (b : Bool) → list_any (same_key key) keys ≡ b → list_any (same_key key) (in_order keys) ≡ list_any (same_key key) keys
    go true e = in_order_has key keys e ∙ sym e
    go false e = none_in_ranks (same_key key) keys (range_with_len 0 31) e ∙ sym e

-- the keys of the tables that a link makes
abbrev made_keys : Resolved → SlotTable → List SectionKey
made_keys r slots = map (λ (table : SectionKey × ℕ). table.0) (table_sizes r slots)

-- those of a dynamic link are the keys of all tables, those of another the first two of them
made_keys_where :
    (r : Resolved) (slots : SlotTable) (dynamic : Bool)
    → r.options.dynamic ≡ dynamic
    → made_keys r slots ≡ (if dynamic then table_keys else got_key ∷ got_plt_key ∷ [])
unfolding table_sizes dynamic_table_sizes
made_keys_where r slots true e = rw e refl
made_keys_where r slots false e = rw e refl

-- a section that is no table's is none of those that a link makes
not_made : (r : Resolved) (slots : SlotTable) (key : SectionKey) → is_table key ≡ false → list_any (same_key key) (made_keys r slots) ≡ false
not_made r slots key none = go r.options.dynamic refl
  where
    go : (b : Bool) → r.options.dynamic ≡ b → list_any (same_key key) (made_keys r slots) ≡ false
    go true e = ap (list_any (same_key key)) (made_keys_where r slots true e) ∙ none
    go false e =
        ap (list_any (same_key key)) (made_keys_where r slots false e)
        ∙ (or_parts (list_any (same_key key) (got_key ∷ got_plt_key ∷ [])) (list_any (same_key key) (drop 2 table_keys))
        (sym (list_any-append (same_key key) (got_key ∷ got_plt_key ∷ []) (drop 2 table_keys)) ∙ none)).0

-- a section that is no table's has a row in a full placement exactly where a kept piece goes to it
pub row_where_kept :
    (r : Resolved) (key : SectionKey)
    → is_table key ≡ false
    → list_any (same_key key) (map (λ (row : SectionRow). row.key) (full_place r).sections) ≡ list_any (same_key key) (piece_keys r)
unfolding section_keys
row_where_kept r key none =
    let kept = list_any (same_key key) (piece_keys r) in
    ap (list_any (same_key key)) (full_keys r)
    ∙ (in_order_same key (existing_keys r)
    ∙ (list_any-append (same_key key) (piece_keys r) (made_keys r (slots_of r.needs))
    ∙ (ap (λ made. kept || made) (not_made r (slots_of r.needs) key none)
    ∙ or-false kept)))

-- tests that agree on every item let through the same items
filter_alike : {A : Type 0} (p q : A → Bool) (xs : List A) → AllByRecursion (λ x. p x ≡ q x) xs → filter p xs ≡ filter q xs
filter_alike p q [] alike = refl
filter_alike {A} p q (x ∷ xs) alike = go (q x) refl (filter_alike p q xs alike.1)
  where
    go : (b : Bool) → q x ≡ b → filter p xs ≡ filter q xs → filter p (x ∷ xs) ≡ filter q (x ∷ xs)
    go true e rest = rw (alike.0 ∙ e) (rw e (ap (λ ys. x ∷ ys) rest))
    go false e rest = rw (alike.0 ∙ e) (rw e rest)

-- as many arrays of functions have rows as have kept pieces, since none of them is a table
arrays_reported : (r : Resolved) → array_count (map (λ (row : SectionRow). row.key) (full_place r).sections) ≡ array_count (piece_keys r)
arrays_reported r =
    ap length
    (filter_alike
    (λ array. list_any (same_key array) (map (λ (row : SectionRow). row.key) (full_place r).sections))
    (λ array. list_any (same_key array) (piece_keys r))
    (preinit_array_key ∷ init_array_key ∷ fini_array_key ∷ [])
    (row_where_kept r preinit_array_key refl, (row_where_kept r init_array_key refl, (row_where_kept r fini_array_key refl, tt))))

-- the tables have the same sizes where as many arrays exist
sizes_by_count :
    (xs ys : List SectionKey) (r : Resolved) (slots : SlotTable)
    → array_count xs ≡ array_count ys
    → table_sizes_among xs r slots ≡ table_sizes_among ys r slots
unfolding dynamic_table_sizes
sizes_by_count xs ys r slots same = go r.options.dynamic refl
  where
    go : (b : Bool) → r.options.dynamic ≡ b → table_sizes_among xs r slots ≡ table_sizes_among ys r slots
    go true e = rw e (rw same refl)
    go false e = rw e refl

-- the tables of a full placement are as large as the kept pieces ask for
abbrev pub TablesAreReported : Resolved → Type 0
TablesAreReported r = table_sizes_at r (full_place r) ≡ table_sizes r (slots_of r.needs)

pub tables_reported : (r : Resolved) → TablesAreReported r
unfolding full_place table_sizes
tables_reported r =
    sizes_by_count (map (λ (row : SectionRow). row.key) (full_place r).sections) (piece_keys r) r (slots_of r.needs) (arrays_reported r)
