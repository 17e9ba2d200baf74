-- The symbols of a shared object that other files may mean, one after another (gABI "Symbol Table"): what is
-- kept of them with each further symbol.
use Rattle.std.specs.Prelude.{◌≡◌, ℕ, ◌==◌, ◌||◌, Bool, not, if◌then◌else◌, List, [], ◌∷◌, ◌++◌, bytes_eq, map}
use Rattle.std.specs.Borrow.{Bor}
use Rattle.std.specs.List.{list_any}
use Rattle.lk_elf.specs.Numbers.{shn_undef}
use Rattle.lk_elf.specs.declared.symbol.Sym.{Sym}
use Rattle.lk_model.specs.declared.summaries.Global.{Global}
use Rattle.lk_model.specs.SharedObjects.{is_definition, is_offered, shared_global}
use Rattle.lk_model.specs.Texts.{with_text}

-- the symbols that are kept, and the names that are defined
abbrev pub Kept : Type 0
Kept = List Global × List (List ℕ)

-- names by their texts
abbrev pub texts_in : List (Bor (List ℕ)) → List (List ℕ)
texts_in names = map (λ (name : Bor (List ℕ)). name.now) names

-- a definition adds nothing where its name is defined
abbrev pub with_definition : Kept → Global → Kept
with_definition kept g = if list_any (bytes_eq g.name) kept.1 then kept else (kept.0 ++ g ∷ [], kept.1 ++ g.name ∷ [])

-- what is kept with one more symbol
abbrev pub with_global : Kept → Global → Kept
with_global kept g = if is_definition g then with_definition kept g else (kept.0 ++ g ∷ [], kept.1)

-- what is kept with one more symbol of the table, by its number and name: nothing more where no other file may mean it
abbrev pub with_symbol : Kept → ℕ → Sym → List ℕ → Kept
with_symbol kept k symbol name = if is_offered symbol then with_global kept (shared_global k symbol name) else kept

-- a name is noted among those that are defined, for the first time or again
abbrev pub IsNoted : List (List ℕ) → List ℕ → Bool → List (List ℕ) → Type 0
IsNoted old name is_first new = (is_first ≡ not (list_any (bytes_eq name) old)) × (new ≡ with_text old name)

-- whether a symbol with this name is kept after definitions of these names, and the names that are defined then
abbrev pub SymbolNoted : List (List ℕ) → Sym → List ℕ → Bool → List (List ℕ) → Type 0
SymbolNoted old symbol name is_kept new =
    (is_kept ≡ (symbol.st_shndx == shn_undef || not (list_any (bytes_eq name) old)))
    × (new ≡ (if symbol.st_shndx == shn_undef then old else with_text old name))
