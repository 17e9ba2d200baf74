use Rattle.std.specs.Prelude.{◌≡◌, drop, map}
use Rattle.lk_command.specs.Tables.{meaning_in, row_seen}
use Rattle.lk_command.proofs.word_tables.row_of.Given as goal

abbrev pub invariant-loop-row : goal.invariant-loop-row
invariant-loop-row l =
    meaning_in (map row_seen (drop l.row-index l.rows)) l.word ≡ meaning_in (map row_seen l.rows) l.word
