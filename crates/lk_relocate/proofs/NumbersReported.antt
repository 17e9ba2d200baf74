-- The numbers of the relocations of an object are those of the references of its link.
use Rattle.std.proofs.Common.{◌≡◌, refl, sym, ap, subst, ◌∙◌, ℕ, List, [], get_or, Option, Some, None, option_map, unwrap_or, slice_get}
use Rattle.std.proofs.lemmas.Option.{slice_get-map, unwrap_or-slice_get}
use Rattle.lk_elf.specs.declared.relocation.Rela.{Rela}
use Rattle.lk_model.specs.declared.layouts.Numbers.{Numbers}
use Rattle.lk_model.specs.Finding.{found_of}
use Rattle.lk_model.specs.Overflows.{path_of_input}
use Rattle.lk_model.specs.Resolving.{paths_of, resolve}
use Rattle.lk_model.specs.SymbolValues.{numbers_of}
use Rattle.lk_model.specs.Views.{Input, Ref, Resolved}
use Rattle.lk_elf.specs.RelocationInfo.{r_symbol_of}
use Rattle.lk_symbol_values.specs.SymbolNumbering.{ValueInputs, low_numbers, numbers_by, piece_start, place_at, relocation_of, symbol_numbers_of}
use Rattle.lk_symbol_values.specs.declared.values.Relocation.{Relocation}
use Rattle.lk_symbol_values.specs.declared.values.SymbolNumbers.{SymbolNumbers}
use Rattle.lk_symbol_values.proofs.NumbersReported.{place_reported, value_reported}
use Rattle.lk_relocate.specs.ObjectsOfInputs.{IsObjectOf}
use Rattle.lk_relocate.specs.Links.{IsLinkOf}
use Rattle.lk_relocate.specs.References.{reference_in}
use Rattle.lk_relocate.specs.NumbersOfSymbols.{AreNumbersAt, AreNumbersThrough, relocation_at}

module _ (known : ValueInputs) (r : Resolved) (link : IsLinkOf known r) where
  module _ (n : ℕ) (bytes : List ℕ) (section : ℕ) (rela : Rela) (o : IsObjectOf r.inputs n bytes) (k : ℕ) (number : k ≡ r_symbol_of rela) (w : SymbolNumbers) (is : AreNumbersAt known n bytes k w) where
    abbrev ref : Ref
    ref = reference_in r n bytes section rela

    symbol_numbers_here : AreNumbersThrough r known.place n ref.through w
    symbol_numbers_here = subst (λ m. AreNumbersAt known n bytes m w) number is r link o

    -- the numbers of a relocation at its place
    pub numbers_here : (start : Option ℕ) → start ≡ piece_start known.place n section → (x : Relocation) → x ≡ relocation_at start rela → (result : Numbers)
        → ((y : Resolved) (f : Ref) → x ≡ relocation_of known.place f → w ≡ symbol_numbers_of y known.place f.input f.through → result ≡ low_numbers (numbers_of y known.place f))
        → result ≡ low_numbers (numbers_of r known.place ref)
    numbers_here start begins x at result reported =
        let there : place_at start rela.r_offset ≡ (relocation_of known.place ref).address = ap (λ s. place_at s rela.r_offset) begins ∙ place_reported known.place n section rela.r_offset in
        reported r ref (at ∙ (λ i. record (relocation_of known.place ref) { address = there i })) symbol_numbers_here.symbol_numbers

    -- and the value of its symbol
    pub value_here : (x : Relocation) (result : Numbers) → result ≡ numbers_by known.place x w → result.s ≡ (numbers_of r known.place ref).s
    value_here x result parts =
        ap (λ (m : Numbers). m.s) parts
        ∙ symbol_numbers_here.exact
        ∙ value_reported r known.place ref

  -- ---- paths

  paths_are : known.resolution.paths ≡ paths_of r.inputs
  unfolding found_of resolve
  paths_are =
      link.given.found.paths
      ∙ ap (λ (x : Resolved). paths_of x.inputs) (sym link.resolved)

  pub path_reported : (n : ℕ) → get_or known.resolution.paths n [] ≡ path_of_input r n
  path_reported n =
      ap (λ ps. get_or ps n []) paths_are
      ∙ sym (unwrap_or-slice_get (paths_of r.inputs) n [])
      ∙ ap (λ o. unwrap_or o []) (slice_get-map (λ (x : Input). x.path) r.inputs n)
      ∙ by (slice_get r.inputs n)
    where
      by : (o : Option Input) → unwrap_or (option_map (λ (x : Input). x.path) o) [] ≡ elim o [ None ↦ [] | Some i ↦ i.path ]
      by None = refl
      by (Some x) = refl
