-- This project's own: tables with their sizes, as lk_model has them.
use Rattle.std.specs.Prelude.{ℕ, List, map}
use Rattle.lk_model.specs.declared.layouts.SectionKey.{SectionKey}
use Rattle.lk_dyn_sizes.specs.declared.size_rows.TableSize.{TableSize}

-- a table and its size
abbrev pub as_pair : TableSize → SectionKey × ℕ
as_pair t = (t.key, t.size)

abbrev pub as_pairs : List TableSize → List (SectionKey × ℕ)
as_pairs tables = map as_pair tables
