use Rattle.std.proofs.Common.{◌≡◌, ◌++◌, map, drop}
use Rattle.lk_inputs.specs.Named.{in_lib, words_seen}
use Rattle.lk_inputs.proofs.input_words.push_members.Given as goal

abbrev pub invariant-loop-word : goal.invariant-loop-word
invariant-loop-word l = words_seen l.rows ++ map (in_lib l.lib) (drop l.word-index l.words) ≡ words_seen l.initial.rows ++ map (in_lib l.lib) l.words
