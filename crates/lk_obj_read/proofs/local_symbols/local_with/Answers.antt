use Rattle.lk_obj_read.proofs.LocalsRead.{one_reported}
use Rattle.lk_obj_read.proofs.local_symbols.local_with.Goals as goal

pub returns : goal.returns
returns c = one_reported c.args.symbol c.local_of.result c.local_of.ensures
