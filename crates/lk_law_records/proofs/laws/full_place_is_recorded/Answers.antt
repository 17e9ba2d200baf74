use Rattle.lk_law_records.proofs.Recorded.{full-place-recorded}
use Rattle.lk_law_records.proofs.laws.full_place_is_recorded.Goals as goal

pub returns : goal.returns
returns c = full-place-recorded
