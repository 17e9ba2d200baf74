-- What is found of a symbol of an object is the value of the symbol in a link whose input the object is.
use Rattle.std.proofs.Common.{◌≡◌, refl, sym, ap, subst, ◌∙◌, arith, ℕ, ◌≤◌, ◌^◌, nat_eq, ◌==◌, Bool, true, false, cond, List, find, Option, Some, None}
use Rattle.std.proofs.lemmas.Bool.Decides.{nat_tests}
use Rattle.lk_elf.specs.Numbers.{stb_weak}
use Rattle.lk_report.specs.declared.causes.OptionRecord.{OptionRecord}
use Rattle.lk_model.specs.declared.layouts.Needs.{Needs}
use Rattle.lk_model.specs.declared.summaries.Contributions.{Contributions}
use Rattle.lk_model.specs.declared.summaries.Global.{Global}
use Rattle.lk_model.specs.declared.summaries.Home.TheVariants as home
use Rattle.lk_model.specs.declared.summaries.InputSummary.{InputSummary}
use Rattle.lk_model.specs.declared.summaries.Local.{Local}
use Rattle.lk_model.specs.Adding.{added_inputs}
use Rattle.lk_model.specs.Elf.{elf_of}
use Rattle.lk_model.specs.Finding.{found_of, names_of}
use Rattle.lk_model.specs.FullPlace.{memory_of}
use Rattle.lk_model.specs.Lawful.{Lawful}
use Rattle.lk_model.specs.Objects.{local_in, summary_in}
use Rattle.lk_model.specs.References.{number_of_name, through_of}
use Rattle.lk_model.specs.Resolving.{resolve}
use Rattle.lk_model.specs.SymbolValues.{local_of, local_value, name_value, symbol_of}
use Rattle.lk_model.specs.Views.{Elf, Input, Resolved, Through}
use Rattle.lk_resolve.specs.Given.{IsGiven}
use Rattle.lk_symtab.specs.NameRows.{all_symbols}
use Rattle.lk_symtab.specs.NamesOfSymbols.{name_of_symbol}
use Rattle.lk_resolve.proofs.Seen.{seen}
use Rattle.lk_resolve.proofs.SymbolsByNumber.{named_added}
use Rattle.lk_symbol_values.specs.InputSymbols.{symbol_in}
use Rattle.lk_symbol_values.specs.SymbolNumbering.{ValueInputs, symbol_numbers_of}
use Rattle.lk_symbol_values.specs.declared.values.SymbolNumbers.{SymbolNumbers}
use Rattle.lk_symbol_values.proofs.ValuesGiven.{symbol_seen}
use Rattle.lk_relocate.specs.ObjectsOfInputs.{IsObjectOf}
use Rattle.lk_relocate.specs.Links.{IsLinkOf}
use Rattle.lk_relocate.specs.NumbersOfSymbols.{AreNumbersOf, AreNumbersAt, AreNumbersThrough, symbol_numbers_at}
use Rattle.lk_relocate.proofs.PlacesReported.{summary_is}

-- through what a relocation goes, by the symbol that is found
abbrev pub through_by : List Contributions → ℕ → Option Global → Through
through_by names symbol o = elim o [ None ↦ Through.ByLocal symbol | Some g ↦ Through.ByName (number_of_name names g.name) (g.binding == stb_weak) ]

-- a symbol of the input that an object is
found_symbol : (r : Resolved) (n : ℕ) (bytes : List ℕ) (k : ℕ) → IsObjectOf r.inputs n bytes → symbol_of r n k ≡ find (λ (g : Global). g.symbol == k) (summary_in (elf_of bytes)).globals
found_symbol r n bytes k o =
    ap (λ (x : Option Input). elim x [ None ↦ None | Some i ↦ find (λ (g : Global). g.symbol == k) i.summary.globals ]) o.there
    ∙ ap (λ (s : InputSummary). find (λ (g : Global). g.symbol == k) s.globals) (summary_is r.inputs n bytes o)

-- what an object reports of a LOCAL symbol
found_local : (r : Resolved) (n : ℕ) (bytes : List ℕ) (k : ℕ) (local : Local) → local ≡ local_in (elf_of bytes) k → IsObjectOf r.inputs n bytes → local ≡ local_of r n k
found_local r n bytes k local found o =
    found
    ∙ ap (λ (e : Elf). local_in e k) (sym o.file)
    ∙ ap (λ (y : Option Input). elim y [ None ↦ record { home = home.Undefined; value = 0; size = 0; code = 0 } | Some i ↦ local_in i.elf k ]) (sym o.there)

module _ (known : ValueInputs) (n : ℕ) (bytes : List ℕ) (k : ℕ) (r : Resolved) (link : IsLinkOf known r) (o : IsObjectOf r.inputs n bytes) where
  abbrev chosen : Resolved
  chosen = resolve link.options link.inputs

  lawful_there : Lawful chosen known.place
  lawful_there = subst (λ (x : Resolved). Lawful x known.place) link.resolved link.lawful

  object_there : IsObjectOf chosen.inputs n bytes
  object_there = subst (λ (x : Resolved). IsObjectOf x.inputs n bytes) link.resolved o

  through_there : (f : Option Global) → symbol_in known.summaries n k ≡ f → through_of chosen.names (summary_in (elf_of bytes)) k ≡ through_by chosen.names k f
  through_there f e =
      let sees = seen known.resolution known.summaries link.needs link.options link.inputs link.given in
      ap (through_by chosen.names k) (sym (found_symbol chosen n bytes k object_there) ∙ sym (symbol_seen known link.needs link.options chosen sees lawful_there n k) ∙ e)

  symbol_numbers_there : (t : Through) (w : SymbolNumbers) → through_of chosen.names (summary_in (elf_of bytes)) k ≡ t → AreNumbersThrough chosen known.place n t w → AreNumbersThrough r known.place n (through_of r.names (summary_in (elf_of bytes)) k) w
  symbol_numbers_there t w e is =
      subst (λ (x : Resolved). AreNumbersThrough x known.place n (through_of x.names (summary_in (elf_of bytes)) k) w) (sym link.resolved)
      (subst (λ (u : Through). AreNumbersThrough chosen known.place n u w) (sym e) is)

  name_there : (g : Global) (name : ℕ) → name ≡ number_of_name (all_symbols known.resolution.rows) g.name → number_of_name chosen.names g.name ≡ name
  name_there g name number =
      let sees = seen known.resolution known.summaries link.needs link.options link.inputs link.given in
      ap (λ (names : List Contributions). number_of_name names g.name) sees.names ∙ sym number

  -- a symbol that is not LOCAL
  pub name_numbers_there : (g : Global) (name : ℕ) (w : SymbolNumbers) → Some g ≡ symbol_in known.summaries n k → name ≡ number_of_name (all_symbols known.resolution.rows) g.name
      → ((needs : Needs) (options : OptionRecord) (xs : List Input) → IsGiven known.resolution known.summaries needs options xs → Lawful (resolve options xs) known.place → (input : ℕ) (weak : Bool) → w ≡ symbol_numbers_of (resolve options xs) known.place input (Through.ByName name weak))
      → ((needs : Needs) (options : OptionRecord) (xs : List Input) → IsGiven known.resolution known.summaries needs options xs → Lawful (resolve options xs) known.place → memory_of known.place ≤ 2 ^ 31 → w.value ≡ name_value (resolve options xs) known.place name)
      → AreNumbersThrough r known.place n (through_of r.names (summary_in (elf_of bytes)) k) w
  name_numbers_there g name w there number symbol_numbers exact =
      let weak : Bool = g.binding == stb_weak in
      symbol_numbers_there (Through.ByName name weak) w (through_there (Some g) (sym there) ∙ ap (λ m. Through.ByName m weak) (name_there g name number))
      (record {
        symbol_numbers = symbol_numbers link.needs link.options link.inputs link.given lawful_there n weak;
        exact = exact link.needs link.options link.inputs link.given lawful_there link.within;
      })

  -- a symbol that was added, by the number of its name
  name_added : (name : ℕ) → name_of_symbol (all_symbols known.resolution.rows) n k ≡ Some name
      → (g : Global) × (find (λ (x : Global). x.symbol == k) (summary_in (elf_of bytes)).globals ≡ Some g) × (number_of_name chosen.names g.name ≡ name)
  unfolding found_of resolve
  name_added name e =
      let sees = seen known.resolution known.summaries link.needs link.options link.inputs link.given in
      let found : all_symbols known.resolution.rows ≡ names_of (added_inputs link.options.entry link.inputs) = link.given.found.names in
      let named = named_added link.options.entry link.inputs n object_there.input object_there.there object_there.summary k name (ap (λ (names : List Contributions). name_of_symbol names n k) (sym found) ∙ e) in (
        named.0,
        ap (λ (s : InputSummary). find (λ (x : Global). x.symbol == k) s.globals) (sym (object_there.summary ∙ ap summary_in object_there.file)) ∙ named.1,
        ap (λ (names : List Contributions). number_of_name names named.0.name) (sees.names ∙ found) ∙ named.2,
      )

  pub added_numbers_there : (name : ℕ) (w : SymbolNumbers) → Some name ≡ name_of_symbol (all_symbols known.resolution.rows) n k
      → ((needs : Needs) (options : OptionRecord) (xs : List Input) → IsGiven known.resolution known.summaries needs options xs → Lawful (resolve options xs) known.place → (input : ℕ) (weak : Bool) → w ≡ symbol_numbers_of (resolve options xs) known.place input (Through.ByName name weak))
      → ((needs : Needs) (options : OptionRecord) (xs : List Input) → IsGiven known.resolution known.summaries needs options xs → Lawful (resolve options xs) known.place → memory_of known.place ≤ 2 ^ 31 → w.value ≡ name_value (resolve options xs) known.place name)
      → AreNumbersThrough r known.place n (through_of r.names (summary_in (elf_of bytes)) k) w
  added_numbers_there name w is symbol_numbers exact =
      let added = name_added name (sym is) in
      let weak : Bool = added.0.binding == stb_weak in
      symbol_numbers_there (Through.ByName name weak) w (ap (through_by chosen.names k) added.1 ∙ ap (λ m. Through.ByName m weak) added.2)
      (record {
        symbol_numbers = symbol_numbers link.needs link.options link.inputs link.given lawful_there n weak;
        exact = exact link.needs link.options link.inputs link.given lawful_there link.within;
      })

  -- a LOCAL symbol
  pub local_numbers_there : (local : Local) (w : SymbolNumbers) → None ≡ symbol_in known.summaries n k → local ≡ local_in (elf_of bytes) k
      → ((y : Resolved) → local ≡ local_of y n k → w ≡ symbol_numbers_of y known.place n (Through.ByLocal k))
      → ((y : Resolved) → local ≡ local_of y n k → w.value ≡ local_value y known.place n k)
      → AreNumbersThrough r known.place n (through_of r.names (summary_in (elf_of bytes)) k) w
  local_numbers_there local w there found symbol_numbers exact =
      let reported : local ≡ local_of chosen n k = found_local chosen n bytes k local found object_there in
      symbol_numbers_there (Through.ByLocal k) w (through_there None (sym there)) (record { symbol_numbers = symbol_numbers chosen reported; exact = exact chosen reported })

-- ---- one symbol more

same_number : (s t : ℕ) → nat_eq s t ≡ true → s ≡ t
same_number s t e = grind (arith, nat_tests)

same_symbol_numbers : (v w : SymbolNumbers) → Some v ≡ Some w → v ≡ w
same_symbol_numbers v w e = cc

pub one_more : (known : ValueInputs) (n : ℕ) (bytes : List ℕ) (old new : List (Option SymbolNumbers)) (symbol : ℕ) (symbol_numbers : SymbolNumbers) → AreNumbersOf known n bytes old → AreNumbersAt known n bytes symbol symbol_numbers
    → ((k : ℕ) → symbol_numbers_at new k ≡ cond (nat_eq k symbol) (Some symbol_numbers) (symbol_numbers_at old k)) → AreNumbersOf known n bytes new
one_more known n bytes old new symbol symbol_numbers so_far is noted = λ k w e. by k w (nat_eq k symbol) refl (sym (noted k) ∙ e)
  where
    by : (k : ℕ) (w : SymbolNumbers) (b : Bool) → nat_eq k symbol ≡ b → cond b (Some symbol_numbers) (symbol_numbers_at old k) ≡ Some w → AreNumbersAt known n bytes k w
    by k w true e there =
        subst (λ m. AreNumbersAt known n bytes m w) (sym (same_number k symbol e)) (subst (AreNumbersAt known n bytes symbol) (same_symbol_numbers symbol_numbers w there) is)
    by k w false e there = so_far k w there
