use Rattle.lk_law_records.proofs.AnswerRecords.{full-links-are-recorded}
use Rattle.lk_law_records.proofs.laws.full_links_are_recorded.Goals as goal

pub returns : goal.returns
returns c = full-links-are-recorded
