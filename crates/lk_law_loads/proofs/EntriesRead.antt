-- The entries of the dynamic section of a link are read back: what each tag that a loader looks for says.
use Rattle.std.specs.Prelude.{◌≡◌, ℕ, suc, Bool, true, false, not, cond, List, [], ◌∷◌, ◌++◌, Option, Some, None, ◌+◌, ◌*◌, ◌/◌, ◌^◌, ◌<◌, pos, flat_map, length, map, option_map, take, refl}
use Rattle.std.specs.List.{AllByRecursion, before_first, list_any, position_or_len, range_with_len}
use Rattle.std.specs.Ordering.{int_eq}
use Rattle.std.proofs.Common.{ap, arith, ◌∙◌}
use Rattle.std.proofs.lemmas.Bool.{both_ways, lt-ltb}
use Rattle.std.proofs.lemmas.List.{map-append}
use Rattle.lk_elf.specs.Fields.{bytes_of, num, number_of, signed64, unsigned64}
use Rattle.lk_elf.specs.Numbers.{dt_fini, dt_fini_array, dt_fini_arraysz, dt_init, dt_init_array, dt_init_arraysz, dt_needed, dt_preinit_array, dt_preinit_arraysz, dt_runpath}
use Rattle.lk_elf.specs.Records.{dyn_at, dyn_bytes}
use Rattle.lk_elf.specs.declared.dynamic_entry.Dyn.{Dyn}
use Rattle.lk_elf.proofs.Writing.{num_within, number_of-bytes_of}
use Rattle.lk_model.specs.DynamicEntries.{all_with_tag, counted_entries, first_with_tag, has_tag}
use Rattle.lk_model.specs.DynamicKeys.{dynstr_key, dynsym_key, hash_key, rela_dyn_key, rela_plt_key}
use Rattle.lk_model.specs.DynamicSection.{array_entries, dynamic_bytes, dynamic_entries, function_entries, needed_entries, runpath_entries, table_length, table_start, tagged, usual_dynamic_entries}
use Rattle.lk_model.specs.DynamicSizes.{fini_array_key, fini_name, init_array_key, init_name, name_in_object, preinit_array_key}
use Rattle.lk_model.specs.DynamicTexts.{dynamic_texts, needed_names}
use Rattle.lk_model.specs.Keys.{row_of}
use Rattle.lk_model.specs.SymbolValues.{name_value}
use Rattle.lk_model.specs.Texts.{offset_in}
use Rattle.lk_model.specs.Views.{Resolved}
use Rattle.lk_model.specs.declared.layouts.Placement.{Placement}
use Rattle.lk_model.specs.declared.layouts.SectionRow.{SectionRow}
use Rattle.lk_model.proofs.Rising.{all_map}
use Rattle.lk_law_placement.proofs.DistinctLists.{all_joined, all_mapped, none_passes}
use Rattle.lk_law_loading.proofs.HeadersFound.{find_behind}
use Rattle.lk_law_loads.proofs.RecordsBack.{ReadsAs, flat_length, records_back}

-- ---- one entry

-- the number that eight bytes hold of one
abbrev pub kept : ℕ → ℕ
kept n = number_of (bytes_of 8 n)

pub kept_small : (n : ℕ) → n < 2 ^ 64 → kept n ≡ n
kept_small n small = number_of-bytes_of 8 n (omega (arith, small))

-- an entry as it is read back
abbrev pub as_read : Dyn → Dyn
as_read entry = record { d_tag = signed64 (kept (unsigned64 entry.d_tag)); d_un = kept entry.d_un }

entry_back : ReadsAs dyn_bytes dyn_at as_read
unfolding dyn_at dyn_bytes bytes_of
entry_back at pre post entry long =
    let tag : num (pre ++ dyn_bytes entry ++ post) at 8 ≡ kept (unsigned64 entry.d_tag) = num_within at 0 at 8 pre (dyn_bytes entry) post long (omega arith) in
    let value : num (pre ++ dyn_bytes entry ++ post) (at + 8) 8 ≡ kept entry.d_un = num_within at 8 (at + 8) 8 pre (dyn_bytes entry) post long (omega arith) in
    rw (tag, value) refl

entry_wide : (entry : Dyn) → length (dyn_bytes entry) ≡ 16
unfolding dyn_bytes bytes_of
entry_wide entry = refl

-- the tag of an entry is that of a number
small_tag : (tag value : ℕ) → tag < 2 ^ 63 → as_read (tagged tag value) ≡ tagged tag (kept value)
unfolding signed64 unsigned64
small_tag tag value small =
    let same : kept tag ≡ tag = kept_small tag (omega (arith, small)) in
    rw same (rw (lt-ltb tag (2 ^ 63) small) refl)

-- ---- the entries in front of the usual ones

-- they are of these tags: the first of names that are needed, then the others
abbrev other_tags : List ℕ
other_tags = dt_runpath ∷ dt_init ∷ dt_fini ∷ dt_preinit_array ∷ dt_preinit_arraysz ∷ dt_init_array ∷ dt_init_arraysz ∷ dt_fini_array ∷ dt_fini_arraysz ∷ []

-- those entries of a link
abbrev front : Resolved → Placement → List Dyn
front r place =
    needed_entries (dynamic_texts r) (needed_names r)
    ++ runpath_entries (dynamic_texts r) r.options.runpath
    ++ function_entries r place dt_init (name_in_object r init_name)
    ++ function_entries r place dt_fini (name_in_object r fini_name)
    ++ array_entries dt_preinit_array dt_preinit_arraysz (row_of place preinit_array_key)
    ++ array_entries dt_init_array dt_init_arraysz (row_of place init_array_key)
    ++ array_entries dt_fini_array dt_fini_arraysz (row_of place fini_array_key)

runpath_all : (Q : Dyn → Type 0) (texts : List (List ℕ)) (path : List ℕ) → ((value : ℕ) → Q (tagged dt_runpath value)) → AllByRecursion Q (runpath_entries texts path)
runpath_all Q texts [] each = tt
runpath_all Q texts (b ∷ bs) each = (each (offset_in texts (b ∷ bs)), tt)

function_all : (Q : Dyn → Type 0) (r : Resolved) (place : Placement) (tag : ℕ) (o : Option ℕ) → ((value : ℕ) → Q (tagged tag value)) → AllByRecursion Q (function_entries r place tag o)
function_all Q r place tag None each = tt
function_all Q r place tag (Some n) each = (each (name_value r place n), tt)

array_all : (Q : Dyn → Type 0) (start size : ℕ) (o : Option SectionRow) → ((value : ℕ) → Q (tagged start value)) → ((value : ℕ) → Q (tagged size value)) → AllByRecursion Q (array_entries start size o)
array_all Q start size None each other = tt
array_all Q start size (Some row) each other = (each row.addr, (other row.size, tt))

-- what holds of the entries of needed names, and of every entry of another tag, holds of all
front_all :
    (Q : Dyn → Type 0) (r : Resolved) (place : Placement)
    → AllByRecursion Q (needed_entries (dynamic_texts r) (needed_names r))
    → AllByRecursion (λ tag. (value : ℕ) → Q (tagged tag value)) other_tags
    → AllByRecursion Q (front r place)
front_all Q r place needed each =
    let a = needed_entries (dynamic_texts r) (needed_names r) in
    let b = runpath_entries (dynamic_texts r) r.options.runpath in
    let c = function_entries r place dt_init (name_in_object r init_name) in
    let d = function_entries r place dt_fini (name_in_object r fini_name) in
    let e = array_entries dt_preinit_array dt_preinit_arraysz (row_of place preinit_array_key) in
    let f = array_entries dt_init_array dt_init_arraysz (row_of place init_array_key) in
    let g = array_entries dt_fini_array dt_fini_arraysz (row_of place fini_array_key) in
    all_joined Q (a ++ b ++ c ++ d ++ e ++ f) g
    (all_joined Q (a ++ b ++ c ++ d ++ e) f
    (all_joined Q (a ++ b ++ c ++ d) e
    (all_joined Q (a ++ b ++ c) d
    (all_joined Q (a ++ b) c
    (all_joined Q a b needed
    (runpath_all Q (dynamic_texts r) r.options.runpath each.0))
    (function_all Q r place dt_init (name_in_object r init_name) each.1.0))
    (function_all Q r place dt_fini (name_in_object r fini_name) each.1.1.0))
    (array_all Q dt_preinit_array dt_preinit_arraysz (row_of place preinit_array_key) each.1.1.1.0 each.1.1.1.1.0))
    (array_all Q dt_init_array dt_init_arraysz (row_of place init_array_key) each.1.1.1.1.1.0 each.1.1.1.1.1.1.0))
    (array_all Q dt_fini_array dt_fini_arraysz (row_of place fini_array_key) each.1.1.1.1.1.1.1.0 each.1.1.1.1.1.1.1.1.0)

-- whether an entry of one tag reads as one of another
abbrev reads : ℕ → ℕ → Bool
reads code tag = int_eq (signed64 (kept (unsigned64 (pos tag)))) (pos code)

needed_all : (Q : Dyn → Type 0) (texts names : List (List ℕ)) → ((value : ℕ) → Q (tagged dt_needed value)) → AllByRecursion Q (needed_entries texts names)
needed_all Q texts [] each = tt
needed_all Q texts (name ∷ names) each = (each (offset_in texts name), needed_all Q texts names each)

-- none of them is of a tag that is not among theirs
front_without : (r : Resolved) (place : Placement) (code : ℕ) → list_any (reads code) (dt_needed ∷ other_tags) ≡ false → AllByRecursion (λ e. has_tag code (as_read e) ≡ false) (front r place)
front_without r place code none =
    let each : AllByRecursion (λ tag. reads code tag ≡ false) (dt_needed ∷ other_tags) = none_passes (reads code) (dt_needed ∷ other_tags) none in
    front_all (λ e. has_tag code (as_read e) ≡ false) r place
    (needed_all (λ e. has_tag code (as_read e) ≡ false) (dynamic_texts r) (needed_names r) (λ value. each.0))
    (all_map {P = λ tag. reads code tag ≡ false} {Q = λ tag. (value : ℕ) → has_tag code (as_read (tagged tag value)) ≡ false} (λ tag other value. other) other_tags each.1)

-- ---- the entries that count

passed : {X : Type 0} (t : Bool) (n : ℕ) (x : X) (xs : List X) → t ≡ false → take (cond (not t) (1 + n) 0) (x ∷ xs) ≡ x ∷ take n xs
passed true n x xs e = absurd (both_ways true e refl)
passed false n x xs e = let s : 1 + n ≡ suc n = omega arith in ap (λ m. take m (x ∷ xs)) s

before_joined : {X : Type 0} (p : X → Bool) (xs ys : List X) → AllByRecursion (λ x. p x ≡ false) xs → before_first p (xs ++ ys) ≡ xs ++ before_first p ys
before_joined p [] ys none = refl
before_joined p (x ∷ xs) ys none = passed (p x) (position_or_len p (xs ++ ys)) x (xs ++ ys) none.0 ∙ ap (λ l. x ∷ l) (before_joined p xs ys none.1)

-- the usual entries before the last one, which is NULL
abbrev usual : Placement → List Dyn
usual place = take 13 (usual_dynamic_entries place)

-- the entries that a loader reads
abbrev pub read_entries : Resolved → Placement → List Dyn
read_entries r place = map as_read (front r place) ++ map as_read (usual place)

usual_counted : (place : Placement) → before_first (has_tag 0) (map as_read (usual_dynamic_entries place)) ≡ map as_read (usual place)
unfolding usual_dynamic_entries signed64 unsigned64 bytes_of number_of
usual_counted place = refl

as_listed : ReadsAs dyn_bytes (λ bytes at. dyn_at bytes (0 + at)) as_read
as_listed at pre post entry long = let same : 0 + at ≡ at = omega arith in ap (dyn_at (pre ++ dyn_bytes entry ++ post)) same ∙ entry_back at pre post entry long

sixteenth : (n size : ℕ) → size ≡ 16 * n → size / 16 ≡ n
sixteenth n size e = omega (arith, e)

pub entries_read : (r : Resolved) (place : Placement) → counted_entries (dynamic_bytes r place) 0 (length (dynamic_bytes r place)) ≡ read_entries r place
unfolding counted_entries dynamic_bytes dynamic_entries signed64 unsigned64 bytes_of number_of
entries_read r place =
    let all : List Dyn = front r place ++ usual_dynamic_entries place in
    let count : length (flat_map dyn_bytes all) / 16 ≡ length all = sixteenth (length all) (length (flat_map dyn_bytes all)) (flat_length 16 dyn_bytes entry_wide all) in
    ap (λ n. before_first (has_tag 0) (map (λ k. dyn_at (flat_map dyn_bytes all) (0 + 16 * k)) (range_with_len 0 n))) count
    ∙ (ap (before_first (has_tag 0)) (records_back 16 dyn_bytes (λ bytes at. dyn_at bytes (0 + at)) as_read entry_wide as_listed all ∙ map-append as_read (front r place) (usual_dynamic_entries place))
    ∙ (before_joined (has_tag 0) (map as_read (front r place)) (map as_read (usual_dynamic_entries place))
    (all_mapped as_read (λ e. has_tag 0 e ≡ false) (front r place) (front_without r place 0 refl))
    ∙ ap (λ l. map as_read (front r place) ++ l) (usual_counted place)))

-- ---- what tags say

usual_found :
    (r : Resolved) (place : Placement) (code value : ℕ)
    → list_any (reads code) (dt_needed ∷ other_tags) ≡ false
    → first_with_tag code (map as_read (usual place)) ≡ Some value
    → first_with_tag code (read_entries r place) ≡ Some value
usual_found r place code value none found =
    ap (option_map (λ (e : Dyn). e.d_un))
    (find_behind (has_tag code) (map as_read (front r place)) (map as_read (usual place))
    (all_mapped as_read (λ e. has_tag code e ≡ false) (front r place) (front_without r place code none)))
    ∙ found

-- what each tag of a table says
pub record TagsRead (place : Placement) (entries : List Dyn) : Type 0 where
  pub hash : first_with_tag 4 entries ≡ Some (kept (table_start place hash_key))
  pub strtab : first_with_tag 5 entries ≡ Some (kept (table_start place dynstr_key))
  pub strsz : first_with_tag 10 entries ≡ Some (kept (table_length place dynstr_key))
  pub symtab : first_with_tag 6 entries ≡ Some (kept (table_start place dynsym_key))
  pub rela : first_with_tag 7 entries ≡ Some (kept (table_start place rela_dyn_key))
  pub relasz : first_with_tag 8 entries ≡ Some (kept (table_length place rela_dyn_key))
  pub jmprel : first_with_tag 23 entries ≡ Some (kept (table_start place rela_plt_key))
  pub pltrelsz : first_with_tag 2 entries ≡ Some (kept (table_length place rela_plt_key))

pub tags_read : (r : Resolved) (place : Placement) → TagsRead place (read_entries r place)
unfolding usual_dynamic_entries signed64 unsigned64 bytes_of number_of
tags_read r place = record {
  hash = usual_found r place 4 (kept (table_start place hash_key)) refl refl;
  strtab = usual_found r place 5 (kept (table_start place dynstr_key)) refl refl;
  strsz = usual_found r place 10 (kept (table_length place dynstr_key)) refl refl;
  symtab = usual_found r place 6 (kept (table_start place dynsym_key)) refl refl;
  rela = usual_found r place 7 (kept (table_start place rela_dyn_key)) refl refl;
  relasz = usual_found r place 8 (kept (table_length place rela_dyn_key)) refl refl;
  jmprel = usual_found r place 23 (kept (table_start place rela_plt_key)) refl refl;
  pltrelsz = usual_found r place 2 (kept (table_length place rela_plt_key)) refl refl;
}

values_all : (P : ℕ → Type 0) (code : ℕ) (es : List Dyn) → AllByRecursion (λ (e : Dyn). has_tag code e ≡ true → P e.d_un) es → AllByRecursion P (all_with_tag code es)
values_all P code [] all = tt
values_all P code (e ∷ es) all = go (has_tag code e) refl (values_all P code es all.1)
  where
    go : (b : Bool) → has_tag code e ≡ b → AllByRecursion P (all_with_tag code es) → AllByRecursion P (all_with_tag code (e ∷ es))
    go true x rest = rw x (all.0 x, rest)
    go false x rest = rw x rest

usual_not_needed : (place : Placement) → list_any (has_tag 1) (map as_read (usual place)) ≡ false
unfolding usual_dynamic_entries signed64 unsigned64 bytes_of number_of
usual_not_needed place = refl

others_not_needed : list_any (reads 1) other_tags ≡ false
unfolding signed64 unsigned64 bytes_of number_of
others_not_needed = refl

-- what the entries of needed names say are the places of their texts
pub needed_read :
    (P : ℕ → Type 0) (r : Resolved) (place : Placement)
    → AllByRecursion (λ name. P (kept (offset_in (dynamic_texts r) name))) (needed_names r)
    → AllByRecursion P (all_with_tag 1 (read_entries r place))
needed_read P r place places =
    let Q = λ (e : Dyn). has_tag 1 e ≡ true → P e.d_un in
    let usuals : AllByRecursion Q (map as_read (usual place)) =
    all_map {P = λ (e : Dyn). has_tag 1 e ≡ false} {Q = Q} (λ e no yes. absurd (both_ways (has_tag 1 e) no yes)) (map as_read (usual place))
    (none_passes (has_tag 1) (map as_read (usual place)) (usual_not_needed place)) in
    let others : AllByRecursion (λ tag. (value : ℕ) → Q (as_read (tagged tag value))) other_tags =
    all_map {P = λ tag. reads 1 tag ≡ false} {Q = λ tag. (value : ℕ) → Q (as_read (tagged tag value))} (λ tag no value yes. absurd (both_ways (reads 1 tag) no yes)) other_tags
    (none_passes (reads 1) other_tags others_not_needed) in
    values_all P 1 (read_entries r place)
    (all_joined Q (map as_read (front r place)) (map as_read (usual place))
    (all_mapped as_read Q (front r place) (front_all (λ e. Q (as_read e)) r place (own (needed_names r) places) others))
    usuals)
  where
    own : (names : List (List ℕ)) → AllByRecursion (λ name. P (kept (offset_in (dynamic_texts r) name))) names → AllByRecursion (λ (e : Dyn). has_tag 1 (as_read e) ≡ true → P (as_read e).d_un) (needed_entries (dynamic_texts r) names)
    own [] all = tt
    own (name ∷ names) all = ((λ yes. all.0), own names all.1)
