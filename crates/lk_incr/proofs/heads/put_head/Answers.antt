use Rattle.lk_model.specs.InputsSection.{head_fields}
use Rattle.lk_incr.specs.RecordParts.{nameless}
use Rattle.lk_incr.proofs.WordsSpelled.{words_put}
use Rattle.lk_incr.proofs.heads.put_head.Goals as goal

pub returns : goal.returns
returns c = words_put _ (head_fields (nameless c.args.parts.now)) _ _ _ c.head_words.ensures c.in_ok-put_words.ensures
