use Rattle.std.specs.Prelude.{◌≡◌, drop, map, None, false}
use Rattle.lk_command.specs.PhraseFaults.{fault_after}
use Rattle.lk_command.specs.Seen.{phrase_seen}
use Rattle.lk_command.proofs.faults.phrases_fault.Given as goal

abbrev pub invariant-loop-phrase : goal.invariant-loop-phrase
invariant-loop-phrase l =
    fault_after l.group l.named (map phrase_seen (drop l.phrase-index l.phrases)) ≡ fault_after None false (map phrase_seen l.phrases)
