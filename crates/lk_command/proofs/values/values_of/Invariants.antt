use Rattle.std.specs.Prelude.{◌≡◌, drop, fold, map}
use Rattle.lk_command.specs.Seen.{phrase_seen}
use Rattle.lk_command.specs.Values.{at_first, values_after, values_seen}
use Rattle.lk_command.proofs.values.values_of.Given as goal

abbrev pub invariant-loop-phrase : goal.invariant-loop-phrase
invariant-loop-phrase l =
    fold values_after (values_seen l.values) (map phrase_seen (drop l.phrase-index l.phrases)) ≡ fold values_after at_first (map phrase_seen l.phrases)
