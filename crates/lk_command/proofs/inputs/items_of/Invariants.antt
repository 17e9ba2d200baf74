use Rattle.std.specs.Prelude.{◌≡◌, drop, fold, map}
use Rattle.lk_model.specs.Grammar.{nothing_listed, with_input}
use Rattle.lk_command.specs.Inputs.{listing_seen}
use Rattle.lk_command.specs.Seen.{phrase_seen}
use Rattle.lk_command.proofs.inputs.items_of.Given as goal

abbrev pub invariant-loop-phrase : goal.invariant-loop-phrase
invariant-loop-phrase l =
    fold with_input (listing_seen l.listing) (map phrase_seen (drop l.phrase-index l.phrases)) ≡ fold with_input nothing_listed (map phrase_seen l.phrases)
