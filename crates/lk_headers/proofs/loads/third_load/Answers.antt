use Rattle.lk_headers.proofs.FieldBytes.{load_reported}
use Rattle.lk_headers.proofs.loads.third_load.Goals as goal

pub returns : goal.returns
returns c = load_reported _ _ _ _ _ _ _ _ _ c.load.ensures c.third_flags.ensures c.third_segment_start.ensures c.end_in.ensures.value c.end_in-2.ensures.value
