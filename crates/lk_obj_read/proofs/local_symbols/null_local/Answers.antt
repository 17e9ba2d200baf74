use Rattle.lk_obj_read.proofs.LocalsRead.{null_reported}
use Rattle.lk_obj_read.proofs.local_symbols.null_local.Goals as goal

pub returns : goal.returns
returns c = null_reported c.local_of.result c.local_of.ensures
