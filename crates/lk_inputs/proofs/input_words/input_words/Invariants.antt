use Rattle.std.proofs.Common.{◌≡◌, ◌++◌, drop}
use Rattle.lk_model.specs.Inputs.{words_from}
use Rattle.lk_inputs.specs.Named.{words_seen}
use Rattle.lk_inputs.proofs.input_words.input_words.Given as goal

abbrev pub invariant-loop-item : goal.invariant-loop-item
invariant-loop-item l = words_seen l.rows ++ words_from l.lib (drop l.item-index l.items) ≡ words_from 1 l.items
