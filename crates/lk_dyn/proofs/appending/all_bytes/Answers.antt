use Rattle.std.proofs.Common.{◌∙◌}
use Rattle.lk_elf.proofs.Widths.{little_bytes-bytes_of}
use Rattle.lk_dyn.proofs.appending.all_bytes.Goals as goal

pub returns : goal.returns
returns c = c.to_le_bytes.ensures ∙ little_bytes-bytes_of 8 c.args.n
