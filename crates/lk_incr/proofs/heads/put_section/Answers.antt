use Rattle.lk_model.specs.InputsSection.{section_fields}
use Rattle.lk_incr.proofs.WordsSpelled.{words_put}
use Rattle.lk_incr.proofs.heads.put_section.Goals as goal

pub returns : goal.returns
returns c = words_put _ (section_fields c.args.row.now) _ _ _ c.section_words.ensures c.in_ok-put_words.ensures
