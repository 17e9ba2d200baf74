-- This project's own: when the symbols of an input are known by the numbers of their names.
use Rattle.std.specs.Prelude.{◌≡◌, ℕ, ◌==◌, List, Some, find}
use Rattle.lk_model.specs.declared.summaries.Contributions.{Contributions}
use Rattle.lk_model.specs.declared.summaries.Global.{Global}
use Rattle.lk_model.specs.References.{number_of_name}
use Rattle.lk_symtab.specs.NamesOfSymbols.{name_of_symbol}

-- each symbol of an input, by its number, has the number of its name (gABI "Symbol Table")
abbrev pub AreNamed : List Contributions → ℕ → List Global → Type 0
AreNamed names input globals = (symbol : ℕ) (g : Global) → find (λ (x : Global). x.symbol == symbol) globals ≡ Some g → name_of_symbol names input g.symbol ≡ Some (number_of_name names g.name)
