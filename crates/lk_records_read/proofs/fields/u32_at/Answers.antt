use Rattle.std.proofs.Common.{◌∙◌}
use Rattle.lk_elf.proofs.Slices.{read_num}
use Rattle.lk_records_read.proofs.fields.u32_at.Goals as goal

pub returns : goal.returns
returns c = c.read_u32.ensures ∙ read_num 4 c.args.at c.args.bytes.now c.requires
