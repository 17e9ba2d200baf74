-- The shared objects that an image needs, and the table of its texts, are those of lk_model.
use Rattle.std.proofs.Common.{◌≡◌, refl, sym, ap, ◌∙◌, ℕ, List, [], ◌∷◌, ◌++◌, map, flat_map, filter_map, fold, Option, Some, None, option_map, slice_get, Result, Ok, Err, IfOk}
use Rattle.std.specs.List.{cons_option}
use Rattle.std.specs.Str.{bytes_eq}
use Rattle.std.proofs.lemmas.Option.{slice_get-map}
use Rattle.lk_report.specs.declared.causes.OptionRecord.{OptionRecord}
use Rattle.lk_report.specs.declared.memory.NoMemory.{NoMemory}
use Rattle.lk_model.specs.declared.layouts.Needs.{Needs}
use Rattle.lk_model.specs.declared.summaries.InputSummary.{InputSummary}
use Rattle.lk_model.specs.DynamicNames.{dynamic_names}
use Rattle.lk_model.specs.DynamicTexts.{dynamic_texts, needed_names, sonames_of}
use Rattle.lk_model.specs.Numbered.{distinct, with_new}
use Rattle.lk_model.specs.Resolving.{resolve}
use Rattle.lk_model.specs.Texts.{table_of, with_text}
use Rattle.lk_model.specs.Views.{Input, Resolved}
use Rattle.lk_model.specs.InputNames.{input_summary}
use Rattle.lk_resolve.specs.Given.{IsGiven}
use Rattle.lk_resolve.specs.Settling.{ResolutionValue}
use Rattle.lk_symtab.specs.NameRows.{NameRow}
use Rattle.lk_dyn_sizes.specs.DynamicRows.{dynamic_in}
use Rattle.lk_dyn_sizes.specs.DynamicStrings.{needed_in, some_sonames, sonames_at, strings_in, strings_of}
use Rattle.lk_dyn_sizes.proofs.NamesGiven.{dynamic_seen, dynamic_texts_seen}
use Rattle.lk_resolve.proofs.Seen.{Sees, seen}

-- the names of shared inputs
soname_here : (o : Option Input) (rest : List Input) (later : List (List ℕ)) → flat_map sonames_of rest ≡ later → flat_map sonames_of (cons_option o rest) ≡ some_sonames (option_map input_summary o) ++ later
soname_here None rest later h = h
soname_here (Some x) rest later h = ap (λ l. sonames_of x ++ l) h

sonames_are : (inputs : List Input) (numbers : List ℕ) → flat_map sonames_of (filter_map (slice_get inputs) numbers) ≡ sonames_at (map input_summary inputs) numbers
sonames_are inputs [] = refl
sonames_are inputs (n ∷ numbers) =
    soname_here (slice_get inputs n) (filter_map (slice_get inputs) numbers) (sonames_at (map input_summary inputs) numbers) (sonames_are inputs numbers)
    ∙ ap (λ o. some_sonames o ++ sonames_at (map input_summary inputs) numbers) (sym (slice_get-map input_summary inputs n))

-- each once
each_noted : (seen texts : List (List ℕ)) → fold (with_new bytes_eq) seen texts ≡ fold with_text seen texts
each_noted seen [] = refl
each_noted seen (t ∷ ts) = each_noted (with_text seen t) ts

pub needed_seen : (resolution : ResolutionValue) (summaries : List InputSummary) (needs : Needs) (options : OptionRecord) (r : Resolved) → Sees resolution summaries needs options r → needed_names r ≡ needed_in resolution summaries
unfolding needed_names
needed_seen resolution summaries needs options r s =
    ap (distinct bytes_eq) (sonames_are r.inputs r.added)
    ∙ each_noted [] (sonames_at (map input_summary r.inputs) r.added)
    ∙ (λ i. fold with_text [] (sonames_at (s.summarized i) (s.added i)))

pub needed_given : (resolution : ResolutionValue) (summaries : List InputSummary) (needs : Needs) (options : OptionRecord) (xs : List Input) (r : Result (List (List ℕ)) NoMemory) → IsGiven resolution summaries needs options xs → IfOk r (λ texts. texts ≡ needed_in resolution summaries)
    → IfOk r (λ texts. texts ≡ needed_names (resolve options xs))
needed_given resolution summaries needs options xs (Ok texts) given is = is ∙ sym (needed_seen resolution summaries needs options (resolve options xs) (seen resolution summaries needs options xs given))
needed_given resolution summaries needs options xs (Err want) given is = tt

-- the table of the texts
pub strings_seen : (resolution : ResolutionValue) (summaries : List InputSummary) (needs : Needs) (options : OptionRecord) (r : Resolved) → Sees resolution summaries needs options r → dynamic_texts r ≡ strings_in resolution summaries needs options
unfolding dynamic_texts
strings_seen resolution summaries needs options r s =
    let names = dynamic_texts_seen resolution summaries needs options r s in
    let needed = needed_seen resolution summaries needs options r s in
    λ i. table_of (names i ++ needed i ++ (s.chosen i).runpath ∷ [])

-- of names and needed names that are lk_model's
pub texts_given : (resolution : ResolutionValue) (rows : List NameRow) (numbers : List ℕ) (needed : List (List ℕ)) (runpath : List ℕ) (r : Result (List (List ℕ)) NoMemory) → rows ≡ resolution.rows → IfOk r (λ texts. texts ≡ strings_of rows numbers needed runpath)
    → (summaries : List InputSummary) (needs : Needs) (options : OptionRecord) (xs : List Input) → IsGiven resolution summaries needs options xs
    → numbers ≡ dynamic_names (resolve options xs) → needed ≡ needed_names (resolve options xs) → runpath ≡ options.runpath → IfOk r (λ texts. texts ≡ dynamic_texts (resolve options xs))
texts_given resolution rows numbers needed runpath (Ok texts) same is summaries needs options xs given names names_needed path =
    let s = seen resolution summaries needs options xs given in
    let chosen : numbers ≡ dynamic_in resolution needs options = names ∙ dynamic_seen resolution summaries needs options (resolve options xs) s in
    let asked : needed ≡ needed_in resolution summaries = names_needed ∙ needed_seen resolution summaries needs options (resolve options xs) s in
    is
    ∙ (λ i. strings_of (same i) (chosen i) (asked i) (path i))
    ∙ sym (strings_seen resolution summaries needs options (resolve options xs) s)
texts_given resolution rows numbers needed runpath (Err want) same is summaries needs options xs given names names_needed path = tt
