-- As many headers as the table has are few.
use Rattle.std.specs.Prelude.{length}
use Rattle.std.proofs.Common.{ap, arith}
use Rattle.lk_loader.proofs.HeaderRefusals.{headers_few}
use Rattle.lk_loader.proofs.program_headers.read_headers.Goals as goal

pub returns-clause-few : goal.returns-clause-few
returns-clause-few c =
    let size = headers_few c.args.image.now c.args.table c.loop-n.n c.loop-n.headers.items c.loop-n.invariant.items in
    let made = ap length c.from_vec.ensures in
    omega (arith, size, made)
