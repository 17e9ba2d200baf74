use Rattle.lk_elf.proofs.Slices.{read_byte}
use Rattle.lk_elf.proofs.fields.u8_at.Goals as goal

pub returns : goal.returns
returns c = read_byte c.args.at c.args.bytes.now c.requires
