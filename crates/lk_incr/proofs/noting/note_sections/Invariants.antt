use Rattle.std.proofs.Common.{◌≡◌, drop, fold, map}
use Rattle.lk_model.specs.Texts.{with_text}
use Rattle.lk_model.specs.Tail.{row_name}
use Rattle.lk_incr.proofs.noting.note_sections.Given as goal

-- the table with the names that are left is the table with all names
abbrev pub invariant-loop-row : goal.invariant-loop-row
invariant-loop-row l = fold with_text l.table (map row_name (drop l.row-index l.rows)) ≡ fold with_text l.initial.table (map row_name l.rows)
