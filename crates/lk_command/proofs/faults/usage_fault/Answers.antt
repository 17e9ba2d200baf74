use Rattle.std.specs.Prelude.{map, true, false}
use Rattle.lk_command.specs.Seen.{phrase_seen}
use Rattle.lk_command.proofs.PhraseFaults.{phrase_fault_reported, input_reported}
use Rattle.lk_command.proofs.faults.usage_fault.Goals as goal

pub returns-in-Some : goal.returns-in-Some
returns-in-Some c = phrase_fault_reported (map phrase_seen c.args.phrases.now) c.in-Some.fault c.in-Some.ensures

pub returns-then-not-is_input_named : goal.returns-then-not-is_input_named
returns-then-not-is_input_named c =
    input_reported c.args.phrases.now false c.in_default.ensures c.if-not-is_input_named.ensures

pub returns : goal.returns
returns c = input_reported c.args.phrases.now true c.in_default.ensures c.if-not-is_input_named.ensures
