use Rattle.std.proofs.Common.{arith}
use Rattle.lk_headers.proofs.PutInTurn.{some_headers}
use Rattle.lk_headers.proofs.program_headers.put_program_headers.Goals as goal

pub put_table-requires : goal.put_table-requires
put_table-requires c = let some = some_headers c.args.place.now c.args.exec_stack in let is = c.requires in omega (arith, some, is)
