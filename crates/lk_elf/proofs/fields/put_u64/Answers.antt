use Rattle.std.proofs.Common.{◌≤◌, length, arith}
use Rattle.lk_elf.proofs.Slices.{put_num}
use Rattle.lk_elf.proofs.fields.put_u64.Goals as goal

pub returns : goal.returns
returns c =
    let room : c.args.at ≤ length c.args.bytes.now = omega arith in
    put_num 8 c.args.n c.args.at c.args.bytes.now c.write_u64.new.buf room c.write_u64.ensures
