-- This project's own: names in the order of their numbers, each with its symbols and whether the linker
-- makes it.
use Rattle.std.specs.Prelude.{◌≡◌, ℕ, zero, suc, Bool, true, false, cond, List, [], ◌∷◌, length, map, Option, unwrap_or, Result, Ok, Err}
use Rattle.std.specs.List.{list_any}
use Rattle.std.specs.Str.{bytes_eq}
use Rattle.lk_report.specs.declared.memory.NoMemory.{NoMemory}
use Rattle.lk_model.specs.declared.summaries.Contribution.{Contribution}
use Rattle.lk_model.specs.declared.summaries.Contributions.{Contributions}
use Rattle.lk_model.specs.declared.summaries.Winner.{Winner}
use Rattle.lk_model.specs.Finding.{number_among}
use Rattle.lk_model.specs.Symbols.{is_object_reference}
use Rattle.lk_model.specs.Winners.{visibility_of, winner_of}
use Rattle.lk_symtab.specs.Bests.{is_global_reference, with_last}

-- what is known of a name: it with its symbols, and whether the linker makes it
pub record NameRow : Type 0 where
  pub contributions : Contributions
  pub is_made : Bool

-- the names of rows, in order of numbers
abbrev pub row_names : List NameRow → List (List ℕ)
row_names rows = map (λ (r : NameRow). r.contributions.name) rows

-- the name of a row with its symbols, and those of all rows in order of numbers
abbrev pub symbols_in : NameRow → Contributions
symbols_in row = row.contributions

abbrev pub all_symbols : List NameRow → List Contributions
all_symbols rows = map symbols_in rows

-- the number of a name
abbrev pub number_of : List NameRow → List ℕ → Option ℕ
number_of rows name = number_among (all_symbols rows) name

-- the number that a name has once it is in the table: its own, or that of the next row
abbrev pub number_for : List NameRow → List ℕ → ℕ
number_for rows name = unwrap_or (number_of rows name) (length rows)

-- a row with one more symbol at the end of its list
abbrev pub row_with : NameRow → Contribution → NameRow
row_with row c = record row { contributions = with_last row.contributions c }

-- the row of a name whose first symbol this is
abbrev pub new_row : List ℕ → Contribution → NameRow
new_row name c = record { contributions = record { name = name; list = c ∷ [] }; is_made = false }

-- the rows with one more symbol of a name: it goes to the end of the name's list, and a name that is new
-- gets the next number
abbrev pub with_symbol : List NameRow → List ℕ → Contribution → List NameRow
with_symbol [] name c = new_row name c ∷ []
with_symbol (row ∷ rows) name c = cond (bytes_eq name row.contributions.name) (row_with row c ∷ rows) (row ∷ with_symbol rows name c)

-- what adding a symbol answers, and the rows after it
abbrev pub AddGives : List NameRow → List ℕ → Contribution → Result ℕ NoMemory → List NameRow → Type 0
AddGives old name c (Ok number) new = (number ≡ number_for old name) × (new ≡ with_symbol old name c)
AddGives old name c (Err want) new = new ≡ old

-- the rows with the one of a number changed
abbrev pub with_row : (NameRow → NameRow) → List NameRow → ℕ → List NameRow
with_row change [] number = []
with_row change (row ∷ rows) zero = change row ∷ rows
with_row change (row ∷ rows) (suc number) = row ∷ with_row change rows number

-- what adding a symbol to the row with a number answers
abbrev pub AddsAt : List NameRow → ℕ → Contribution → Result ℕ NoMemory → List NameRow → Type 0
AddsAt old n c (Ok number) new = (number ≡ n) × (new ≡ with_row (λ (row : NameRow). row_with row c) old n)
AddsAt old n c (Err want) new = new ≡ old

-- a row whose name the linker makes
abbrev pub made_row : NameRow → NameRow
made_row row = record row { is_made = true }

-- the rows once the linker makes the name with a number
abbrev pub with_made : List NameRow → ℕ → List NameRow
with_made rows number = with_row made_row rows number

-- the definition that the name of a row means
abbrev pub row_winner : NameRow → Winner
row_winner row = winner_of row.contributions row.is_made (visibility_of row.contributions)

-- the visibility of the name of a row
abbrev pub row_visibility : NameRow → ℕ
row_visibility row = visibility_of row.contributions

-- whether an object refers to the name of a row
abbrev pub row_referred : NameRow → Bool
row_referred row = list_any is_object_reference row.contributions.list

-- whether an object has an undefined GLOBAL symbol of the name of a row
abbrev pub row_needed : NameRow → Bool
row_needed row = list_any is_global_reference row.contributions.list
