-- This project's own: the faults that the names' rows have, name by name and contribution by contribution.
use Rattle.std.specs.Prelude.{ℕ, ◌==◌, Bool, false, cond, List, [], ◌∷◌, ◌++◌, flat_map, get_or, Option, Some, None, option_and_then, slice_get}
use Rattle.std.specs.Option.{option_or}
use Rattle.lk_report.specs.declared.faults.Fault.{Fault}
use Rattle.lk_report.specs.declared.faults.Fault.TheVariants as fault
use Rattle.lk_elf.specs.Numbers.{stt_tls}
use Rattle.lk_model.specs.declared.summaries.Contribution.{Contribution}
use Rattle.lk_model.specs.declared.summaries.Global.{Global}
use Rattle.lk_model.specs.ResolveFaults.{tls_mismatches}
use Rattle.lk_model.specs.Symbols.{is_strong_definition}
use Rattle.lk_model.specs.Winners.{is_in_object}
use Rattle.lk_symtab.specs.NameRows.{NameRow, number_of, row_winner}

-- the fault of a contribution, where the first strong definition before it is in this input
abbrev pub doubled_at : List (List ℕ) → List ℕ → Option ℕ → Contribution → List Fault
doubled_at paths name None c = []
doubled_at paths name (Some first) c = cond (is_strong_definition c) (fault.MultipleDefinition name (get_or paths first []) (get_or paths c.input []) ∷ []) []

-- the input of the first strong definition, with one more contribution
abbrev pub first_with : Option ℕ → Contribution → Option ℕ
first_with first c = option_or first (cond (is_strong_definition c) (Some c.input) None)

-- the faults of a list of contributions
abbrev pub doubled_on : List (List ℕ) → List ℕ → Option ℕ → List Contribution → List Fault
doubled_on paths name first [] = []
doubled_on paths name first (c ∷ cs) = doubled_at paths name first c ++ doubled_on paths name (first_with first c) cs

-- the faults of a row: its later strong definitions, and being thread-local here and not there
abbrev pub doubled_in : List (List ℕ) → NameRow → List Fault
doubled_in paths row = doubled_on paths row.contributions.name None row.contributions.list

abbrev pub mismatched_in : NameRow → List Fault
mismatched_in row = tls_mismatches (row.contributions, row_winner row)

-- what a row has, where there is one
abbrev pub of_row : (NameRow → List Fault) → Option NameRow → List Fault
of_row faults None = []
of_row faults (Some row) = faults row

-- whether a winner is in an object, where there is one
abbrev pub is_some_in_object : Option NameRow → Bool
is_some_in_object None = false
is_some_in_object (Some row) = is_in_object (row_winner row)

-- the fault of an entry that no object defines
abbrev pub entry_faults : List NameRow → List ℕ → List Fault
entry_faults rows entry = cond (is_some_in_object (option_and_then (slice_get rows) (number_of rows entry))) [] (fault.NoEntry entry ∷ [])

-- the faults of the rows
abbrev pub faults_in : List (List ℕ) → List ℕ → List NameRow → List Fault
faults_in paths entry rows = flat_map (doubled_in paths) rows ++ flat_map mismatched_in rows ++ entry_faults rows entry

-- whether a symbol is thread-local, where there is one
abbrev pub is_tls_symbol : Option Global → Bool
is_tls_symbol o = elim o [ None ↦ false | Some g ↦ g.code == stt_tls ]
