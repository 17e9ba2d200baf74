-- The rows of a full placement are those that their own rooms and alignments give.
use Rattle.std.specs.Prelude.{◌≡◌, ℕ, Bool, true, false, List, [], ◌∷◌, ◌++◌, ◌+◌, not, filter, map, refl}
use Rattle.std.proofs.Common.{sym, ap, ◌∙◌}
use Rattle.std.proofs.lemmas.List.{append-nil, map-append}
use Rattle.std.proofs.lemmas.List.Elements.{filter-append}
use Rattle.lk_model.specs.SectionKeys.{is_alloc}
use Rattle.lk_model.specs.SectionOrder.{Segment, First, segment_of}
use Rattle.lk_model.specs.FullPlace.{first_address, Extent, is_thread, thread_align, address_align, begin_from, next_address, loaded_rows, unloaded_rows, file_end, rows_of}
use Rattle.lk_model.specs.Amounts.{round_up}
use Rattle.lk_model.specs.Lawful.{extent_of_row}
use Rattle.lk_model.specs.declared.layouts.Class.{Class}
use Rattle.lk_model.specs.declared.layouts.Class.TheVariants.{R, X, W, WX, Tdata, Tbss, Bss, N}

-- a filter over one that lets through more is that filter alone
pub filter_under : {A : Type 0} (p q : A → Bool) (xs : List A) → ((x : A) → p x ≡ true → q x ≡ true) → filter p (filter q xs) ≡ filter p xs
filter_under p q [] within = refl
filter_under {A} p q (x ∷ xs) within = go (p x) (q x) refl refl (filter_under p q xs within)
  where
    go : (b c : Bool) → p x ≡ b → q x ≡ c → filter p (filter q xs) ≡ filter p xs → filter p (filter q (x ∷ xs)) ≡ filter p (x ∷ xs)
    go true c e f rest = rw (within x e) (rw e (ap (λ ys. x ∷ ys) rest))
    go false true e f rest = rw f (rw e rest)
    go false false e f rest = rw f (rw e rest)

-- a filter over one that lets through none of its items is empty
pub filter_apart : {A : Type 0} (p q : A → Bool) (xs : List A) → ((x : A) → q x ≡ true → p x ≡ false) → filter p (filter q xs) ≡ []
filter_apart p q [] apart = refl
filter_apart {A} p q (x ∷ xs) apart = go (q x) refl (filter_apart p q xs apart)
  where
    go : (c : Bool) → q x ≡ c → filter p (filter q xs) ≡ [] → filter p (filter q (x ∷ xs)) ≡ []
    go true f rest = rw f (rw (apart x f) rest)
    go false f rest = rw f rest

-- rows have the extents that they were made of
pub loaded_extents : (thread : ℕ) (segment : Segment) (at : ℕ) (extents : List Extent) → map extent_of_row (loaded_rows thread segment at extents) ≡ extents
loaded_extents thread segment at [] = refl
loaded_extents thread segment at (extent ∷ extents) =
    let begin : ℕ = begin_from segment extent.key.class at in
    let address : ℕ = round_up begin (address_align thread extent) in
    ap (λ rest. extent ∷ rest) (loaded_extents thread (segment_of extent.key.class) (next_address begin address extent) extents)

pub unloaded_extents : (at : ℕ) (extents : List Extent) → map extent_of_row (unloaded_rows at extents) ≡ extents
unloaded_extents at [] = refl
unloaded_extents at (extent ∷ extents) = ap (λ rest. extent ∷ rest) (unloaded_extents (round_up at extent.align + extent.room) extents)

abbrev pub is_loaded : Extent → Bool
is_loaded extent = is_alloc extent.key.class

abbrev pub is_unloaded : Extent → Bool
is_unloaded extent = not (is_alloc extent.key.class)

abbrev is_thread_extent : Extent → Bool
is_thread_extent extent = is_thread extent.key.class

thread_is_loaded : (class : Class) → is_thread class ≡ true → is_alloc class ≡ true
thread_is_loaded R thread = refl
thread_is_loaded X thread = refl
thread_is_loaded W thread = refl
thread_is_loaded WX thread = refl
thread_is_loaded Tdata thread = refl
thread_is_loaded Tbss thread = refl
thread_is_loaded Bss thread = refl
thread_is_loaded N thread = thread

pub not_both : (b : Bool) → not b ≡ true → b ≡ false
not_both true e = sym e
not_both false e = refl

pub loaded_not : (b : Bool) → b ≡ true → not b ≡ false
loaded_not true e = refl
loaded_not false e = sym e

no_thread : (class : Class) → not (is_alloc class) ≡ true → is_thread class ≡ false
no_thread R loaded = refl
no_thread X loaded = refl
no_thread W loaded = refl
no_thread WX loaded = refl
no_thread Tdata loaded = sym loaded
no_thread Tbss loaded = sym loaded
no_thread Bss loaded = refl
no_thread N loaded = refl

-- the loaded ones first, and then the others
abbrev pub parted : List Extent → List Extent
parted extents = filter is_loaded extents ++ filter is_unloaded extents

parted_loaded : (extents : List Extent) → filter is_loaded (parted extents) ≡ filter is_loaded extents
parted_loaded extents =
    filter-append is_loaded (filter is_loaded extents) (filter is_unloaded extents)
    ∙ (ap (λ xs. xs ++ filter is_loaded (filter is_unloaded extents)) (filter_under is_loaded is_loaded extents (λ x e. e))
    ∙ (ap (λ xs. filter is_loaded extents ++ xs) (filter_apart is_loaded is_unloaded extents (λ x e. not_both (is_loaded x) e))
    ∙ append-nil (filter is_loaded extents)))

parted_unloaded : (extents : List Extent) → filter is_unloaded (parted extents) ≡ filter is_unloaded extents
parted_unloaded extents =
    filter-append is_unloaded (filter is_loaded extents) (filter is_unloaded extents)
    ∙ (ap (λ xs. xs ++ filter is_unloaded (filter is_unloaded extents)) (filter_apart is_unloaded is_loaded extents (λ x e. loaded_not (is_loaded x) e))
    ∙ filter_under is_unloaded is_unloaded extents (λ x e. e))

parted_threads : (extents : List Extent) → filter is_thread_extent (parted extents) ≡ filter is_thread_extent extents
parted_threads extents =
    filter-append is_thread_extent (filter is_loaded extents) (filter is_unloaded extents)
    ∙ (ap (λ xs. xs ++ filter is_thread_extent (filter is_unloaded extents)) (filter_under is_thread_extent is_loaded extents (λ x e. thread_is_loaded x.key.class e))
    ∙ (ap (λ xs. filter is_thread_extent extents ++ xs) (filter_apart is_thread_extent is_unloaded extents (λ x e. no_thread x.key.class e))
    ∙ append-nil (filter is_thread_extent extents)))

-- rows of the parted list are those of the list
rows_of_parted : (extents : List Extent) → rows_of (parted extents) ≡ rows_of extents
unfolding rows_of
rows_of_parted extents =
    rw (parted_threads extents) (rw (parted_loaded extents) (rw (parted_unloaded extents) refl))

-- the extents of the rows are the list, parted
pub extents_of_rows : (extents : List Extent) → map extent_of_row (rows_of extents) ≡ parted extents
unfolding rows_of
extents_of_rows extents =
    let loaded = loaded_rows (thread_align extents) First first_address (filter is_loaded extents) in
    let more = unloaded_rows (file_end loaded) (filter is_unloaded extents) in
    map-append extent_of_row loaded more
    ∙ (ap (λ xs. xs ++ map extent_of_row more) (loaded_extents (thread_align extents) First first_address (filter is_loaded extents))
    ∙ ap (λ xs. filter is_loaded extents ++ xs) (unloaded_extents (file_end loaded) (filter is_unloaded extents)))

-- the rows are those that their rooms and alignments give
pub rows_again : (extents : List Extent) → rows_of (map extent_of_row (rows_of extents)) ≡ rows_of extents
rows_again extents = ap rows_of (extents_of_rows extents) ∙ rows_of_parted extents
