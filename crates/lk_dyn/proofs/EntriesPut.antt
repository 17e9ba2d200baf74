-- The entries of the dynamic section, put one after another, are lk_model's.
use Rattle.std.proofs.Common.{◌≡◌, refl, sym, ap, ◌∙◌, ℕ, List, [], ◌∷◌, ◌++◌, append_assoc, append-nil, Option, Some, None}
use Rattle.std.specs.Prelude.{flat_map}
use Rattle.std.proofs.lemmas.List.Concat.{flat_map-append}
use Rattle.lk_elf.proofs.LowBits.{low-long}
use Rattle.lk_elf.specs.Numbers.{dt_fini, dt_fini_array, dt_fini_arraysz, dt_init, dt_init_array, dt_init_arraysz, dt_preinit_array, dt_preinit_arraysz}
use Rattle.lk_elf.specs.Records.{dyn_bytes}
use Rattle.lk_elf.specs.declared.dynamic_entry.Dyn.{Dyn}
use Rattle.lk_model.specs.DynamicSection.{array_entries, dynamic_bytes, dynamic_entries, function_entries, needed_entries, runpath_entries, tagged, usual_dynamic_entries}
use Rattle.lk_model.specs.DynamicSizes.{fini_array_key, fini_name, init_array_key, init_name, name_in_object, preinit_array_key}
use Rattle.lk_model.specs.DynamicTexts.{dynamic_texts, needed_names}
use Rattle.lk_model.specs.Keys.{row_of}
use Rattle.lk_model.specs.SymbolValues.{name_value}
use Rattle.lk_model.specs.Views.{Resolved}
use Rattle.lk_model.specs.declared.layouts.Placement.{Placement}
use Rattle.lk_dyn.specs.DynamicEntries.{needed_bytes, section_entries}
use Rattle.lk_dyn.specs.LowBits.{low_64}

-- entries after entries
pub joined : (out new : List ℕ) (first more : List Dyn) → out ≡ flat_map dyn_bytes first → new ≡ out ++ flat_map dyn_bytes more → new ≡ flat_map dyn_bytes (first ++ more)
joined out new first more before put =
    put ∙ ap (λ l. l ++ flat_map dyn_bytes more) before ∙ sym (flat_map-append dyn_bytes first more)

-- one entry
pub one_put : (out new : List ℕ) (entry : Dyn) → new ≡ out ++ dyn_bytes entry → new ≡ out ++ flat_map dyn_bytes (entry ∷ [])
one_put out new entry put = put ∙ ap (λ l. out ++ l) (sym (append-nil (dyn_bytes entry)))

-- an entry by the low bits of its number
low_entry : (tag value : ℕ) → dyn_bytes (tagged tag (low_64 value)) ≡ dyn_bytes (tagged tag value)
unfolding dyn_bytes
low_entry tag value = rw (low-long value) refl

module _ (r : Resolved) (place : Placement) (tag : ℕ) where
  pub no_function : (out : List ℕ) (o : Option ℕ) → o ≡ None → out ≡ out ++ flat_map dyn_bytes (function_entries r place tag o)
  no_function out o none = sym (append-nil out) ∙ ap (λ (o : Option ℕ). out ++ flat_map dyn_bytes (function_entries r place tag o)) (sym none)

  pub function_put : (out new : List ℕ) (o : Option ℕ) (n value : ℕ) → o ≡ Some n → value ≡ low_64 (name_value r place n) → new ≡ out ++ dyn_bytes (tagged tag value)
      → new ≡ out ++ flat_map dyn_bytes (function_entries r place tag o)
  function_put out new o n value there low put =
      one_put out new (tagged tag (name_value r place n)) (put ∙ ap (λ l. out ++ l) (ap (λ v. dyn_bytes (tagged tag v)) low ∙ low_entry tag (name_value r place n)))
      ∙ ap (λ (o : Option ℕ). out ++ flat_map dyn_bytes (function_entries r place tag o)) (sym there)

-- the names that are needed
needed_are : (texts names : List (List ℕ)) → flat_map (needed_bytes texts) names ≡ flat_map dyn_bytes (needed_entries texts names)
needed_are texts [] = refl
needed_are texts (name ∷ names) = ap (λ l. needed_bytes texts name ++ l) (needed_are texts names)

-- four lists after a list
in_turn : (xs a b c d : List Dyn) → xs ++ (a ++ b ++ c ++ d) ≡ xs ++ a ++ b ++ c ++ d
in_turn xs a b c d =
    sym (append_assoc xs (a ++ b ++ c) d)
    ∙ ap (λ l. l ++ d) (sym (append_assoc xs (a ++ b) c) ∙ ap (λ l. l ++ c) (sym (append_assoc xs a b)))

-- the section as a whole
pub entries_are : (r : Resolved) (place : Placement) (texts needed : List (List ℕ)) (runpath none names path init fini last : List ℕ)
    → texts ≡ dynamic_texts r → needed ≡ needed_names r → runpath ≡ r.options.runpath
    → none ≡ []
    → names ≡ none ++ flat_map (needed_bytes texts) needed
    → path ≡ names ++ flat_map dyn_bytes (runpath_entries texts runpath)
    → init ≡ path ++ flat_map dyn_bytes (function_entries r place dt_init (name_in_object r init_name))
    → fini ≡ init ++ flat_map dyn_bytes (function_entries r place dt_fini (name_in_object r fini_name))
    → last ≡ fini ++ flat_map dyn_bytes (section_entries place)
    → last ≡ dynamic_bytes r place
unfolding dynamic_bytes dynamic_entries
entries_are r place texts needed runpath none names path init fini last same_texts same_needed same_path empty put_names put_path put_init put_fini put_last =
    let calls = function_entries r place dt_init (name_in_object r init_name) in
    let ends = function_entries r place dt_fini (name_in_object r fini_name) in
    let first : names ≡ flat_map dyn_bytes (needed_entries texts needed) =
    put_names ∙ ap (λ l. l ++ flat_map (needed_bytes texts) needed) empty ∙ needed_are texts needed in
    let four = needed_entries texts needed ++ runpath_entries texts runpath ++ calls ++ ends in
    joined fini last four (section_entries place)
    (joined init fini (needed_entries texts needed ++ runpath_entries texts runpath ++ calls) ends
    (joined path init (needed_entries texts needed ++ runpath_entries texts runpath) calls
    (joined names path (needed_entries texts needed) (runpath_entries texts runpath) first put_path) put_init) put_fini) put_last
    ∙ ap (flat_map dyn_bytes) (in_turn four (array_entries dt_preinit_array dt_preinit_arraysz (row_of place preinit_array_key)) (array_entries dt_init_array dt_init_arraysz (row_of place init_array_key)) (array_entries dt_fini_array dt_fini_arraysz (row_of place fini_array_key)) (usual_dynamic_entries place))
    ∙ (λ i. flat_map dyn_bytes (
    needed_entries (same_texts i) (same_needed i) ++ runpath_entries (same_texts i) (same_path i) ++ calls ++ ends
    ++ array_entries dt_preinit_array dt_preinit_arraysz (row_of place preinit_array_key)
    ++ array_entries dt_init_array dt_init_arraysz (row_of place init_array_key)
    ++ array_entries dt_fini_array dt_fini_arraysz (row_of place fini_array_key)
    ++ usual_dynamic_entries place
    ))
