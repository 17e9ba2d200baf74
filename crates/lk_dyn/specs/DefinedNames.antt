-- Names that an object defines, by the rows of the table of names (gABI "Symbol Table").
use Rattle.std.specs.Prelude.{ℕ, if◌then◌else◌, List, Option, Some, None, option_and_then, slice_get}
use Rattle.lk_model.specs.declared.summaries.Winner.{Winner}
use Rattle.lk_model.specs.Winners.{is_in_object}
use Rattle.lk_symtab.specs.NameRows.{NameRow, number_of, row_winner}

-- the number of a name, where its winner is in an object
abbrev pub defined_by : ℕ → Winner → Option ℕ
defined_by n w = if is_in_object w then Some n else None

-- that of the name of a row
abbrev pub defined_at : ℕ → Option NameRow → Option ℕ
defined_at n None = None
defined_at n (Some row) = defined_by n (row_winner row)

-- that of a name
abbrev pub defined_in : List NameRow → List ℕ → Option ℕ
defined_in rows name = option_and_then (λ n. defined_at n (slice_get rows n)) (number_of rows name)
