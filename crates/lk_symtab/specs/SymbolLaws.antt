-- The rows and lk_model's names, which are those of the list of all symbols, in order of their first symbol.
use Rattle.std.specs.Prelude.{◌≡◌, ℕ, Bool, true, false, cond, List, [], ◌∷◌, ◌++◌, map, fold, is_some, slice_get, slice_set, None, Some}
use Rattle.std.specs.List.{list_any, AllByRecursion}
use Rattle.lk_model.specs.declared.summaries.Contribution.{Contribution}
use Rattle.lk_model.specs.declared.summaries.Contributions.{Contributions}
use Rattle.lk_model.specs.Finding.{number_among}
use Rattle.lk_model.specs.Symbols.{contributions_of, contributions_to, is_named}
use Rattle.lk_symtab.specs.NameRows.{NameRow, all_symbols, number_of, with_made, with_symbol}
use Rattle.lk_symtab.specs.NamesOfSymbols.{is_symbol, name_of_symbol}

-- the rows with one more symbol, under its own name
abbrev pub with_own : List NameRow → Contribution → List NameRow
with_own rows c = with_symbol rows c.global.name c

-- the rows once all symbols of a list were added in turn
abbrev pub rows_after : List Contribution → List NameRow
rows_after symbols = fold with_own [] symbols

-- the row of a name that the linker does not make
abbrev pub plain_row : Contributions → NameRow
plain_row cs = record { contributions = cs; is_made = false }

-- whether the linker makes each name, in order of numbers
abbrev pub makes : List NameRow → List Bool
makes rows = map (λ (row : NameRow). row.is_made) rows

-- the rows of all symbols are lk_model's names with their symbols
abbrev pub TableIsTheModels : Type 0
TableIsTheModels = (symbols : List Contribution) → rows_after symbols ≡ map plain_row (contributions_of symbols)

-- this also holds after one more symbol, whichever names the linker makes
abbrev pub SymbolsGoOn : Type 0
SymbolsGoOn = (rows : List NameRow) (symbols : List Contribution) (c : Contribution) → all_symbols rows ≡ contributions_of symbols → all_symbols (with_own rows c) ≡ contributions_of (symbols ++ c ∷ [])

-- a name has a number exactly where a symbol of it was added
abbrev pub FoundWhereAdded : Type 0
FoundWhereAdded = (rows : List NameRow) (symbols : List Contribution) (name : List ℕ) → all_symbols rows ≡ contributions_of symbols → is_some (number_of rows name) ≡ list_any (is_named name) symbols

-- the row with a name's number has all symbols of the name; a name without a number has no symbols
abbrev pub SymbolsAtNumber : Type 0
SymbolsAtNumber = (rows : List NameRow) (symbols : List Contribution) (name : List ℕ) (number : ℕ) → all_symbols rows ≡ contributions_of symbols → number_of rows name ≡ Some number → slice_get (all_symbols rows) number ≡ Some (contributions_to symbols name)

abbrev pub NoneWithoutNumber : Type 0
NoneWithoutNumber = (rows : List NameRow) (symbols : List Contribution) (name : List ℕ) → all_symbols rows ≡ contributions_of symbols → number_of rows name ≡ None → contributions_to symbols name ≡ record { name = name; list = [] }

-- a name keeps its number
abbrev pub NumbersStay : Type 0
NumbersStay = (rows : List NameRow) (name other : List ℕ) (c : Contribution) (number : ℕ) → number_of rows name ≡ Some number → number_of (with_symbol rows other c) name ≡ Some number

-- adding a symbol makes no name: the linker does not make the name of a new row
abbrev pub SymbolsMakeNone : Type 0
SymbolsMakeNone = (rows : List NameRow) (name : List ℕ) (c : Contribution) → makes (with_symbol rows name c) ≡ cond (is_some (number_of rows name)) (makes rows) (makes rows ++ false ∷ [])

-- a name that the linker makes is the one with the number, and its symbols stay
abbrev pub MakesOne : Type 0
MakesOne = (rows : List NameRow) (number : ℕ) → makes (with_made rows number) ≡ slice_set (makes rows) number true

abbrev pub MakingKeepsSymbols : Type 0
MakingKeepsSymbols = (rows : List NameRow) (number : ℕ) → all_symbols (with_made rows number) ≡ all_symbols rows

-- a symbol whose input and number only symbols of one name have has the number of that name
abbrev pub SymbolsHaveNames : Type 0
SymbolsHaveNames = (symbols : List Contribution) (input symbol : ℕ) (name : List ℕ) → list_any (is_symbol input symbol) symbols ≡ true → AllByRecursion (λ (c : Contribution). is_symbol input symbol c ≡ true → is_named name c ≡ true) symbols → name_of_symbol (contributions_of symbols) input symbol ≡ number_among (contributions_of symbols) name
