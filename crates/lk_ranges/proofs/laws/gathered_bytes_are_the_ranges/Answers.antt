use Rattle.lk_ranges.proofs.PatchedBytes.{bytes_are_these}
use Rattle.lk_ranges.proofs.laws.gathered_bytes_are_the_ranges.Goals as goal

pub returns : goal.returns
returns c = bytes_are_these
