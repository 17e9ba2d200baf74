use Rattle.std.proofs.Common.{◌<◌, arith}
use Rattle.lk_elf.proofs.Slices.{put_byte}
use Rattle.lk_elf.proofs.fields.put_u8.Goals as goal

pub returns : goal.returns
returns c = let byte : c.args.n < 256 = omega arith in put_byte c.args.n c.args.at c.args.bytes.now byte c.requires
