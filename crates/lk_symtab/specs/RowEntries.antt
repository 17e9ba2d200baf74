-- This project's own: the entries of a map from names to rows are a table where each name is beside its own row and
-- the numbers of the rows have 32 bits.
use Rattle.std.specs.Prelude.{◌≡◌, ℕ, ◌<◌, ◌^◌, List, length}
use Rattle.std.specs.Map.{keys_of, values_of}
use Rattle.lk_symtab.specs.NameRows.{NameRow, row_names}

pub record IsTable (entries : List (List ℕ × NameRow)) : Type 0 where
  pub named : keys_of entries ≡ row_names (values_of entries)
  pub few : length entries < 2 ^ 32
