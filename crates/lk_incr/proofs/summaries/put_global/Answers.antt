use Rattle.lk_model.specs.InputsSection.{global_fields}
use Rattle.lk_incr.proofs.WordsSpelled.{words_put}
use Rattle.lk_incr.proofs.summaries.put_global.Goals as goal

pub returns : goal.returns
returns c = words_put _ (global_fields c.args.global.now) _ _ _ c.global_words.ensures c.in_ok-put_words.ensures
