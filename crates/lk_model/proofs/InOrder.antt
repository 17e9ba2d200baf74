-- Ordered sections stay as they are when they are ordered again, and those that are not loaded come last;
-- so the rows of a full placement are in their order.
use Rattle.std.specs.Prelude.{◌≡◌, ℕ, zero, suc, Bool, true, false, List, [], ◌∷◌, ◌++◌, Option, Some, None, ◌+◌, ◌<◌, ◌≤◌, ◌==◌, not, cond, if◌then◌else◌, codes, bytes_eq, length, filter, flat_map, map, refl}
use Rattle.std.specs.List.{range_with_len, list_any}
use Rattle.std.proofs.Common.{arith, inl, inr, sym, ap, ◌∙◌}
use Rattle.std.proofs.Math.Nat.{eq-or-lt_of_le}
use Rattle.std.proofs.lemmas.Bool.Decides.{nat_tests}
use Rattle.std.proofs.lemmas.List.{append-nil, map-append}
use Rattle.std.proofs.lemmas.List.Elements.{filter-append}
use Rattle.std.proofs.lemmas.Grind.{flat_map-append}
use Rattle.lk_model.specs.SectionKeys.{is_alloc, is_note, is_patched}
use Rattle.lk_model.specs.SectionOrder.{section_rank, rank_in, in_order, section_keys, place_in, names_after_notes, executable_names, names_before_others, names_after_others, slots_of, existing_keys}
use Rattle.lk_model.specs.FullPlace.{Extent, extent_of, extent_with, pieces_extent, pieces_in, table_size, rows_of, full_place}
use Rattle.lk_model.specs.Lawful.{extent_of_row}
use Rattle.lk_model.specs.Views.{KeptPiece, Resolved}
use Rattle.lk_model.specs.declared.layouts.Class.{Class}
use Rattle.lk_model.specs.declared.layouts.Class.TheVariants.{R, X, W, WX, Tdata, Tbss, Bss, N}
use Rattle.lk_model.specs.declared.layouts.SectionKey.{SectionKey}
use Rattle.lk_model.specs.declared.layouts.SectionRow.{SectionRow}
use Rattle.lk_model.specs.declared.layouts.SlotTable.{SlotTable}
use Rattle.lk_model.proofs.RowsAgain.{filter_under, filter_apart, is_loaded, is_unloaded, not_both, loaded_not, extents_of_rows}

differ : false ≡ true → ⊥
differ e = grind (arith, e)

-- whether a key has the rank
abbrev has_rank : ℕ → SectionKey → Bool
has_rank rank key = section_rank key == rank

-- the keys of these ranks, rank by rank
abbrev by_rank : List ℕ → List SectionKey → List SectionKey
by_rank ranks keys = flat_map (λ rank. filter (has_rank rank) keys) ranks

eq_reports : (a b : ℕ) → (a == b) ≡ true → a ≡ b
eq_reports a b same = grind (arith, nat_tests)

not_eq : (a b : ℕ) → (a ≡ b → ⊥) → (a == b) ≡ false
not_eq a b apart = go (a == b) refl
  where
    go : (c : Bool) → (a == b) ≡ c → (a == b) ≡ false
    go true e = absurd (apart (eq_reports a b e))
    go false e = e

rank_apart : (r s : ℕ) → (r ≡ s → ⊥) → (x : SectionKey) → has_rank s x ≡ true → has_rank r x ≡ false
rank_apart r s apart x there = not_eq (section_rank x) r (λ e. apart (sym e ∙ eq_reports (section_rank x) s there))

-- a rank below or above a range has no key in it
rank_outside :
    (keys : List SectionKey) (r i n : ℕ)
    → ((k : ℕ) → i ≤ k → k < i + n → r ≡ k → ⊥)
    → filter (has_rank r) (by_rank (range_with_len i n) keys) ≡ []
rank_outside keys r i zero outside = refl
rank_outside keys r i (suc n) outside =
    filter-append (has_rank r) (filter (has_rank i) keys) (by_rank (range_with_len (i + 1) n) keys)
    ∙ (ap (λ xs. xs ++ filter (has_rank r) (by_rank (range_with_len (i + 1) n) keys)) (filter_apart (has_rank r) (has_rank i) keys (rank_apart r i (outside i (omega arith) (omega arith))))
    ∙ rank_outside keys r (i + 1) n (λ k low high. outside k (omega arith) (omega arith)))

-- a rank in a range has all its keys there
rank_inside :
    (keys : List SectionKey) (r i n : ℕ)
    → i ≤ r
    → r < i + n
    → filter (has_rank r) (by_rank (range_with_len i n) keys) ≡ filter (has_rank r) keys
rank_inside keys r i zero low high = absurd (omega arith)
rank_inside keys r i (suc n) low high =
    filter-append (has_rank r) (filter (has_rank i) keys) (by_rank (range_with_len (i + 1) n) keys)
    ∙ elim (eq-or-lt_of_le low) [
      | inl here ↦
          ap (λ xs. xs ++ filter (has_rank r) (by_rank (range_with_len (i + 1) n) keys)) (filter_under (has_rank r) (has_rank i) keys (λ x e. rw here e))
          ∙ (ap (λ xs. filter (has_rank r) keys ++ xs) (rank_outside keys r (i + 1) n (λ k from to e. omega (arith, here, e, from)))
          ∙ append-nil (filter (has_rank r) keys))
      | inr later ↦
          ap (λ xs. xs ++ filter (has_rank r) (by_rank (range_with_len (i + 1) n) keys)) (filter_apart (has_rank r) (has_rank i) keys (rank_apart r i (λ e. omega (arith, e, later))))
          ∙ rank_inside keys r (i + 1) n (omega arith) (omega arith)
    ]

-- ranks of a range, of keys that are in order
ranks_again : (keys : List SectionKey) (j m : ℕ) → j + m ≤ 31 → by_rank (range_with_len j m) (by_rank (range_with_len 0 31) keys) ≡ by_rank (range_with_len j m) keys
ranks_again keys j zero under = refl
ranks_again keys j (suc m) under =
    ap (λ xs. xs ++ by_rank (range_with_len (j + 1) m) (by_rank (range_with_len 0 31) keys)) (rank_inside keys j 0 31 (omega arith) (omega arith))
    ∙ ap (λ xs. filter (has_rank j) keys ++ xs) (ranks_again keys (j + 1) m (omega arith))

-- ordered keys stay as they are
pub in_order_again : (keys : List SectionKey) → in_order (in_order keys) ≡ in_order keys
unfolding in_order
in_order_again keys = ranks_again keys 0 31 (omega arith)

-- a choice is below a bound where both answers are
either_below : (b : Bool) (x y bound : ℕ) → x < bound → y < bound → cond b x y < bound
either_below true x y bound first second = first
either_below false x y bound first second = second

either_within : (b : Bool) (x y bound : ℕ) → x ≤ bound → y ≤ bound → cond b x y ≤ bound
either_within true x y bound first second = first
either_within false x y bound first second = second

-- a name's place in a list is at most the list's length
place_within : (names : List (List ℕ)) (name : List ℕ) → place_in names name ≤ length names
place_within [] name = omega arith
place_within (first ∷ names) name =
    let rest = place_within names name in
    either_within (not (bytes_eq name first)) (1 + place_in names name) 0 (suc (length names)) (omega (arith, rest)) (omega arith)

-- sections that are not loaded have the last rank, all others a rank below it
last_rank : (class : Class) (key : SectionKey) → not (is_alloc class) ≡ true → rank_in class key ≡ 30
last_rank R key unloaded = absurd (differ unloaded)
last_rank X key unloaded = absurd (differ unloaded)
last_rank W key unloaded = absurd (differ unloaded)
last_rank WX key unloaded = absurd (differ unloaded)
last_rank Tdata key unloaded = absurd (differ unloaded)
last_rank Tbss key unloaded = absurd (differ unloaded)
last_rank Bss key unloaded = absurd (differ unloaded)
last_rank N key unloaded = refl

rank_below : (class : Class) (key : SectionKey) → is_alloc class ≡ true → rank_in class key < 30
rank_below R key loaded =
    let place = place_within names_after_notes key.name in
    either_below (bytes_eq key.name (codes ".interp")) 0 (if is_note key then 1 else 2 + place_in names_after_notes key.name) 30 (omega arith)
    (either_below (is_note key) 1 (2 + place_in names_after_notes key.name) 30 (omega arith) (omega (arith, place)))
rank_below X key loaded = let place = place_within executable_names key.name in omega (arith, place)
rank_below W key loaded =
    let after = place_within names_after_others key.name in
    let before = place_within names_before_others key.name in
    either_below (list_any (bytes_eq key.name) names_after_others) (24 + place_in names_after_others key.name) (18 + place_in names_before_others key.name) 30 (omega (arith, after)) (omega (arith, before))
rank_below WX key loaded = omega arith
rank_below Tdata key loaded = omega arith
rank_below Tbss key loaded = omega arith
rank_below Bss key loaded = either_below (bytes_eq key.name (codes ".bss")) 28 29 30 (omega arith) (omega arith)
rank_below N key loaded = absurd (differ loaded)

-- a filter over one that lets through only what it does changes nothing
filter_over : {A : Type 0} (p q : A → Bool) (xs : List A) → ((x : A) → q x ≡ true → p x ≡ true) → filter p (filter q xs) ≡ filter q xs
filter_over p q [] within = refl
filter_over {A} p q (x ∷ xs) within = go (q x) refl (filter_over p q xs within)
  where
    go : (c : Bool) → q x ≡ c → filter p (filter q xs) ≡ filter q xs → filter p (filter q (x ∷ xs)) ≡ filter q (x ∷ xs)
    go true f rest = rw f (rw (within x f) (ap (λ ys. x ∷ ys) rest))
    go false f rest = rw f rest

-- every rank is one of those that `in_order` goes over
pub rank_within : (key : SectionKey) → section_rank key < 31
unfolding section_rank
rank_within key = go (is_alloc key.class) refl
  where
    go : (b : Bool) → is_alloc key.class ≡ b → section_rank key < 31
    go true e = let below = rank_below key.class key e in omega (arith, below)
    go false e = let last = last_rank key.class key (rw e refl) in omega (arith, last)

-- what has a rank below the last is loaded
rank_is_loaded : (r : ℕ) → r < 30 → (key : SectionKey) → has_rank r key ≡ true → is_alloc key.class ≡ true
unfolding section_rank
rank_is_loaded r under key there = go (is_alloc key.class) refl
  where
    go : (b : Bool) → is_alloc key.class ≡ b → is_alloc key.class ≡ true
    go true e = e
    go false e =
        let last = last_rank key.class key (rw e refl) in
        let at = eq_reports (section_rank key) r there in
        absurd (omega (arith, last, at, under))

-- what has the last rank is not
rank_is_unloaded : (key : SectionKey) → has_rank 30 key ≡ true → not (is_alloc key.class) ≡ true
unfolding section_rank
rank_is_unloaded key there = go (is_alloc key.class) refl
  where
    go : (b : Bool) → is_alloc key.class ≡ b → not (is_alloc key.class) ≡ true
    go true e =
        let below = rank_below key.class key e in
        let at = eq_reports (section_rank key) 30 there in
        absurd (omega (arith, below, at))
    go false e = rw e refl

abbrev key_loaded : SectionKey → Bool
key_loaded key = is_alloc key.class

abbrev key_unloaded : SectionKey → Bool
key_unloaded key = not (is_alloc key.class)

-- ranks below the last hold loaded sections alone
all_loaded : (keys : List SectionKey) (i n : ℕ) → i + n ≤ 30 → filter key_loaded (by_rank (range_with_len i n) keys) ≡ by_rank (range_with_len i n) keys
all_loaded keys i zero under = refl
all_loaded keys i (suc n) under =
    filter-append key_loaded (filter (has_rank i) keys) (by_rank (range_with_len (i + 1) n) keys)
    ∙ (ap (λ xs. xs ++ filter key_loaded (by_rank (range_with_len (i + 1) n) keys)) (filter_over key_loaded (has_rank i) keys (rank_is_loaded i (omega arith)))
    ∙ ap (λ xs. filter (has_rank i) keys ++ xs) (all_loaded keys (i + 1) n (omega arith)))

none_unloaded : (keys : List SectionKey) (i n : ℕ) → i + n ≤ 30 → filter key_unloaded (by_rank (range_with_len i n) keys) ≡ []
none_unloaded keys i zero under = refl
none_unloaded keys i (suc n) under =
    filter-append key_unloaded (filter (has_rank i) keys) (by_rank (range_with_len (i + 1) n) keys)
    ∙ (ap (λ xs. xs ++ filter key_unloaded (by_rank (range_with_len (i + 1) n) keys)) (filter_apart key_unloaded (has_rank i) keys (λ x e. loaded_not (key_loaded x) (rank_is_loaded i (omega arith) x e)))
    ∙ none_unloaded keys (i + 1) n (omega arith))

-- the last rank
abbrev last_of : List SectionKey → List SectionKey
last_of keys = filter (has_rank 30) keys ++ []

in_order_parts : (keys : List SectionKey) → by_rank (range_with_len 0 31) keys ≡ by_rank (range_with_len 0 30) keys ++ last_of keys
in_order_parts keys = flat_map-append (λ rank. filter (has_rank rank) keys) (range_with_len 0 30) (30 ∷ [])

last_loaded : (keys : List SectionKey) → filter key_loaded (last_of keys) ≡ []
last_loaded keys =
    ap (filter key_loaded) (append-nil (filter (has_rank 30) keys))
    ∙ filter_apart key_loaded (has_rank 30) keys (λ x e. not_both (key_loaded x) (rank_is_unloaded x e))

last_unloaded : (keys : List SectionKey) → filter key_unloaded (last_of keys) ≡ last_of keys
last_unloaded keys =
    ap (filter key_unloaded) (append-nil (filter (has_rank 30) keys))
    ∙ (filter_over key_unloaded (has_rank 30) keys (λ x e. rank_is_unloaded x e)
    ∙ sym (append-nil (filter (has_rank 30) keys)))

-- ordered keys are parted as they are: the loaded ones are first
pub in_order_parted : (keys : List SectionKey) → filter key_loaded (in_order keys) ++ filter key_unloaded (in_order keys) ≡ in_order keys
unfolding in_order
in_order_parted keys =
    let first : filter key_loaded (in_order keys) ≡ by_rank (range_with_len 0 30) keys =
    ap (filter key_loaded) (in_order_parts keys)
    ∙ (filter-append key_loaded (by_rank (range_with_len 0 30) keys) (last_of keys)
    ∙ (ap (λ xs. xs ++ filter key_loaded (last_of keys)) (all_loaded keys 0 30 (omega arith))
    ∙ (ap (λ xs. by_rank (range_with_len 0 30) keys ++ xs) (last_loaded keys)
    ∙ append-nil (by_rank (range_with_len 0 30) keys)))) in
    let second : filter key_unloaded (in_order keys) ≡ last_of keys =
    ap (filter key_unloaded) (in_order_parts keys)
    ∙ (filter-append key_unloaded (by_rank (range_with_len 0 30) keys) (last_of keys)
    ∙ (ap (λ xs. xs ++ filter key_unloaded (last_of keys)) (none_unloaded keys 0 30 (omega arith))
    ∙ last_unloaded keys)) in
    ap (λ xs. xs ++ filter key_unloaded (in_order keys)) first
    ∙ (ap (λ xs. by_rank (range_with_len 0 30) keys ++ xs) second
    ∙ sym (in_order_parts keys))

-- an extent is that of its key
pieces_extent_key : (b : Bool) (patch : ℕ) (key : SectionKey) (pieces : List KeptPiece) → (pieces_extent b patch key pieces).key ≡ key
pieces_extent_key true patch key pieces = refl
pieces_extent_key false patch key pieces = refl

extent_with_key : (size : Option ℕ) (patch : ℕ) (key : SectionKey) (pieces : List KeptPiece) → (extent_with size patch key pieces).key ≡ key
extent_with_key (Some size) patch key pieces = refl
extent_with_key None patch key pieces = pieces_extent_key (is_patched key) patch key pieces

pub extent_key : (r : Resolved) (slots : SlotTable) (key : SectionKey) → (extent_of r slots key).key ≡ key
unfolding extent_of
extent_key r slots key = extent_with_key (table_size r slots key) r.options.patch key (pieces_in key r.kept)

abbrev key_of_extent : Extent → SectionKey
key_of_extent extent = extent.key

abbrev key_of_row : SectionRow → SectionKey
key_of_row row = row.key

extent_keys : (r : Resolved) (slots : SlotTable) (keys : List SectionKey) → map key_of_extent (map (extent_of r slots) keys) ≡ keys
extent_keys r slots [] = refl
extent_keys r slots (key ∷ keys) =
    ap (λ first. first ∷ map key_of_extent (map (extent_of r slots) keys)) (extent_key r slots key)
    ∙ ap (λ rest. key ∷ rest) (extent_keys r slots keys)

-- rows have the keys of their extents
row_keys_reported : (rows : List SectionRow) → map key_of_extent (map extent_of_row rows) ≡ map key_of_row rows
row_keys_reported [] = refl
row_keys_reported (row ∷ rows) = ap (λ rest. row.key ∷ rest) (row_keys_reported rows)

-- extents that pass a test of their keys have the keys that pass it
keys_filter : (p : SectionKey → Bool) (extents : List Extent) → map key_of_extent (filter (λ (extent : Extent). p extent.key) extents) ≡ filter p (map key_of_extent extents)
keys_filter p [] = refl
keys_filter p (extent ∷ extents) = go (p extent.key) refl (keys_filter p extents)
  where
    go :
        (b : Bool)
        → p extent.key ≡ b
        → map key_of_extent (filter (λ (e : Extent). p e.key) extents) ≡ filter p (map key_of_extent extents)
        → map key_of_extent (filter (λ (e : Extent). p e.key) (extent ∷ extents)) ≡ filter p (map key_of_extent (extent ∷ extents))
    go true e rest = rw e (ap (λ ys. extent.key ∷ ys) rest)
    go false e rest = rw e rest

-- the keys of the rows of extents
pub row_keys :
    (extents : List Extent)
    → map key_of_row (rows_of extents)
    ≡ filter key_loaded (map key_of_extent extents) ++ filter key_unloaded (map key_of_extent extents)
row_keys extents =
    sym (row_keys_reported (rows_of extents))
    ∙ (ap (map key_of_extent) (extents_of_rows extents)
    ∙ (map-append key_of_extent (filter is_loaded extents) (filter is_unloaded extents)
    ∙ (ap (λ xs. xs ++ map key_of_extent (filter is_unloaded extents)) (keys_filter key_loaded extents)
    ∙ ap (λ xs. filter key_loaded (map key_of_extent extents) ++ xs) (keys_filter key_unloaded extents))))

-- the rows of a full placement are those of the link's sections, in their order
pub full_keys : (r : Resolved) → map key_of_row (full_place r).sections ≡ section_keys r
unfolding full_place section_keys
full_keys r =
    row_keys (map (extent_of r (slots_of r.needs)) (section_keys r))
    ∙ (ap (λ keys. filter key_loaded keys ++ filter key_unloaded keys) (extent_keys r (slots_of r.needs) (section_keys r))
    ∙ in_order_parted (existing_keys r))

-- they are in their order
pub full_is_ordered : (r : Resolved) → in_order (map key_of_row (full_place r).sections) ≡ map key_of_row (full_place r).sections
unfolding section_keys
full_is_ordered r = ap in_order (full_keys r) ∙ (in_order_again (existing_keys r) ∙ sym (full_keys r))
