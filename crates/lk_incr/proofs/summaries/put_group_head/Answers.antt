use Rattle.lk_incr.specs.Words.{group_head}
use Rattle.lk_incr.proofs.WordsSpelled.{words_put}
use Rattle.lk_incr.proofs.summaries.put_group_head.Goals as goal

pub returns : goal.returns
returns c = words_put _ (group_head c.args.group.now) _ _ _ c.group_words.ensures c.in_ok-put_words.ensures
