use Rattle.std.specs.Prelude.{◌≡◌, drop, map}
use Rattle.lk_command.specs.Tables.{value_in, beginning_seen}
use Rattle.lk_command.proofs.word_tables.value_of.Given as goal

abbrev pub invariant-loop-row : goal.invariant-loop-row
invariant-loop-row l =
    value_in (map beginning_seen (drop l.row-index l.rows)) l.word ≡ value_in (map beginning_seen l.rows) l.word
