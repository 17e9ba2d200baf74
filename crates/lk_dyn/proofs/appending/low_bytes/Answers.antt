use Rattle.std.proofs.Common.{◌∙◌, ap, take, arith}
use Rattle.lk_elf.proofs.LowBits.{take-bytes_of}
use Rattle.lk_dyn.proofs.appending.low_bytes.Goals as goal

pub returns : goal.returns
returns c = ap (take 4) c.requires ∙ take-bytes_of 4 8 c.args.n (omega arith)
