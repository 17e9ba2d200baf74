use Rattle.std.proofs.Common.{sym}
use Rattle.lk_command.specs.Seen.{meaning_seen, valued_seen}
use Rattle.lk_command.proofs.WordTables.{zero_means, path_means, whole_means, joined_means, nothing_means}
use Rattle.lk_command.proofs.word_tables.meaning_of.Goals as goal

pub returns-then-has_zero : goal.returns-then-has_zero
returns-then-has_zero c = zero_means c.args.word.now (sym c.if-has_zero.ensures)

pub returns-then-begins_as_path : goal.returns-then-begins_as_path
returns-then-begins_as_path c = path_means c.args.word.now (sym c.if-has_zero.ensures) (sym c.if-begins_as_path.ensures)

pub returns-in-Some : goal.returns-in-Some
returns-in-Some c = whole_means c.args.word.now (meaning_seen c.in-Some.meaning) (sym c.if-has_zero.ensures) c.in-Some.ensures

pub returns-in-Some-joined_value : goal.returns-in-Some-joined_value
returns-in-Some-joined_value c =
    joined_means c.args.word.now (valued_seen c.in-Some-joined_value.option, c.in-Some-joined_value.value.now) (sym c.if-has_zero.ensures) c.in_default.ensures c.in-Some-joined_value.ensures

pub returns-in-None : goal.returns-in-None
returns-in-None c = nothing_means c.args.word.now (sym c.if-has_zero.ensures) (sym c.if-begins_as_path.ensures) c.in_default.ensures c.in-None.ensures
