-- Which names `.symtab` has (this project's own), by the rows of the table of names.
use Rattle.std.specs.Prelude.{ℕ, Bool, not}
use Rattle.lk_model.specs.Winners.{is_nothing}
use Rattle.lk_symtab.specs.NameRows.{NameRow, row_winner}

-- whether the name of a row has a winner
abbrev pub has_winner : ℕ → NameRow → Bool
has_winner n row = not (is_nothing (row_winner row))
