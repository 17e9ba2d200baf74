-- Which names the dynamic symbol table has (gABI "Symbol Table", "Dynamic Section", DT_SYMTAB), and which
-- imports are copied, by the rows of the table of names and by sets of numbers.
use Rattle.std.specs.Prelude.{ℕ, ◌+◌, nat_eq, Bool, false, cond, List, [], ◌∷◌, ◌++◌, flat_map, Option, Some, None}
use Rattle.lk_report.specs.declared.causes.OptionRecord.{OptionRecord}
use Rattle.lk_model.specs.declared.layouts.GotKey.{GotKey}
use Rattle.lk_model.specs.declared.layouts.GotOwner.TheVariants as owner
use Rattle.lk_model.specs.declared.layouts.Needs.{Needs}
use Rattle.lk_model.specs.declared.summaries.Contributions.{Contributions}
use Rattle.lk_model.specs.declared.summaries.Winner.{Winner}
use Rattle.lk_model.specs.declared.summaries.Winner.TheVariants as winner
use Rattle.lk_model.specs.DynamicNames.{is_exported}
use Rattle.lk_model.specs.Numbered.{distinct, is_number_in}
use Rattle.lk_resolve.specs.Settling.{ResolutionValue}
use Rattle.lk_symtab.specs.NameRows.{NameRow, row_visibility, row_winner}

-- the name that a GOT slot is one of, where it is
abbrev pub slot_names : GotKey → List ℕ
slot_names key = elim key.owner [ owner.Global n ↦ n ∷ [] | owner.Local i k ↦ [] ]

-- the names with a PLT entry, a GOT slot or a copy, each once
abbrev pub needed_numbers : Needs → List ℕ
needed_numbers needs = distinct nat_eq (needs.plt ++ flat_map slot_names needs.got ++ needs.copies)

-- the names that are copied, each once
abbrev pub copied_numbers : Needs → List ℕ
copied_numbers needs = distinct nat_eq needs.copies

-- whether a name is a dynamic one, by its number, its symbols, its winner and its visibility, where these
-- imports are needed, and all definitions exported or those that a shared input names
abbrev pub is_dynamic_as : List ℕ → Bool → ℕ → Contributions → Winner → ℕ → Bool
is_dynamic_as needed all n cs (winner.Import i k) visibility = is_number_in needed n
is_dynamic_as needed all n cs (winner.Strong i k) visibility = is_exported all cs visibility
is_dynamic_as needed all n cs (winner.Common size align) visibility = is_exported all cs visibility
is_dynamic_as needed all n cs (winner.Weak i k) visibility = is_exported all cs visibility
is_dynamic_as needed all n cs winner.Made visibility = false
is_dynamic_as needed all n cs winner.Nothing visibility = false

-- whether the name of a row is a dynamic one, and whether it is copied
abbrev pub is_dynamic_row : List ℕ → Bool → ℕ → NameRow → Bool
is_dynamic_row needed all n row = is_dynamic_as needed all n row.contributions (row_winner row) (row_visibility row)

abbrev pub is_copied_row : List ℕ → ℕ → NameRow → Bool
is_copied_row copied n row = is_number_in copied n

-- whether a row passes a test, where there is one
abbrev pub test_at : (ℕ → NameRow → Bool) → ℕ → Option NameRow → Bool
test_at test n None = false
test_at test n (Some row) = test n row

-- its number then
abbrev pub chosen_at : (ℕ → NameRow → Bool) → ℕ → Option NameRow → List ℕ
chosen_at test n row = cond (test_at test n row) (n ∷ []) []

-- the numbers of the rows that pass a test, where the first row has this number
abbrev pub numbers_where : (ℕ → NameRow → Bool) → ℕ → List NameRow → List ℕ
numbers_where test n [] = []
numbers_where test n (row ∷ rows) = chosen_at test n (Some row) ++ numbers_where test (n + 1) rows

-- the dynamic names of a link, and the imports that are copied, in order of names
abbrev pub dynamic_in : ResolutionValue → Needs → OptionRecord → List ℕ
dynamic_in resolution needs options = cond resolution.dynamic (numbers_where (is_dynamic_row (needed_numbers needs) options.export_dynamic) 0 resolution.rows) []

abbrev pub copied_in : ResolutionValue → Needs → List ℕ
copied_in resolution needs = numbers_where (is_copied_row (copied_numbers needs)) 0 resolution.rows
