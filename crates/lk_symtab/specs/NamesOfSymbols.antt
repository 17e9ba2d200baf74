-- This project's own: which name an added symbol has, by its input and its number in the symbol table of that input
-- (gABI "Symbol Table").
use Rattle.std.specs.Prelude.{◌≡◌, ℕ, ◌==◌, ◌&&◌, ◌-◌, ◌^◌, Bool, cond, List, [], Option, Some, None, get_or, position}
use Rattle.std.specs.List.{list_any}
use Rattle.lk_model.specs.declared.summaries.Contribution.{Contribution}
use Rattle.lk_model.specs.declared.summaries.Contributions.{Contributions}
use Rattle.lk_symtab.specs.NameRows.{NameRow, all_symbols}

-- whether this is the symbol with a number of an input, and whether a name has such a symbol
abbrev pub is_symbol : ℕ → ℕ → Contribution → Bool
is_symbol input symbol c = c.input == input && c.global.symbol == symbol

abbrev pub has_symbol : ℕ → ℕ → Contributions → Bool
has_symbol input symbol cs = list_any (is_symbol input symbol) cs.list

-- the number of the name of a symbol: the first name that has it
abbrev pub name_of_symbol : List Contributions → ℕ → ℕ → Option ℕ
name_of_symbol names input symbol = position (has_symbol input symbol) names

-- the entry of a symbol that was not added, and the entry of a symbol by its input and its number
abbrev pub no_name : ℕ
no_name = 2 ^ 32 - 1

abbrev pub number_at : List (List ℕ) → ℕ → ℕ → ℕ
number_at numbers input symbol = get_or (get_or numbers input []) symbol no_name

-- the number that is noted for a symbol
abbrev pub name_noted : ℕ → Option ℕ
name_noted number = cond (number == no_name) None (Some number)

abbrev pub name_at : List (List ℕ) → ℕ → ℕ → Option ℕ
name_at numbers input symbol = name_noted (number_at numbers input symbol)

-- the entries are the numbers of the names of all added symbols
abbrev pub AreNamesOf : List NameRow → List (List ℕ) → Type 0
AreNamesOf rows numbers = (input symbol : ℕ) → name_at numbers input symbol ≡ name_of_symbol (all_symbols rows) input symbol
