use Rattle.std.specs.Prelude.{◌≡◌, ◌+◌, ◌++◌, drop, map, option_map}
use Rattle.lk_model.specs.Grammar.{phrases_from, phrases_of}
use Rattle.lk_command.specs.Seen.{phrase_seen, valued_seen}
use Rattle.lk_command.proofs.reading.phrases_of.Given as goal

abbrev pub invariant-loop-word : goal.invariant-loop-word
invariant-loop-word l =
    (l.number ≡ l.word-index + 1)
    × (map phrase_seen l.phrases.items ++ phrases_from l.number (option_map valued_seen l.waiting) (drop l.word-index l.words) ≡ phrases_of l.words)
