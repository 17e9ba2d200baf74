use Rattle.std.specs.Prelude.{◌≡◌, ◌++◌, drop, flat_map, map}
use Rattle.lk_model.specs.Grammar.{dirs_of}
use Rattle.lk_command.specs.Seen.{phrase_seen}
use Rattle.lk_command.proofs.paths.dirs_of.Given as goal

abbrev pub invariant-loop-phrase : goal.invariant-loop-phrase
invariant-loop-phrase l =
    l.dirs ++ flat_map dirs_of (map phrase_seen (drop l.phrase-index l.phrases)) ≡ flat_map dirs_of (map phrase_seen l.phrases)
