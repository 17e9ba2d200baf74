use Rattle.lk_model.specs.InputsSection.{input_head}
use Rattle.lk_incr.proofs.WordsSpelled.{words_put}
use Rattle.lk_incr.proofs.input_heads.put_input_head.Goals as goal

pub returns : goal.returns
returns c = words_put _ (input_head c.args.input.now) _ _ _ c.input_words.ensures c.in_ok-put_words.ensures
