use Rattle.std.proofs.Common.{sym, ◌∙◌}
use Rattle.lk_summary.proofs.FaultsFirst.{front_reported}
use Rattle.lk_summary.proofs.kinds.kind_of.Goals as goal

pub returns-in-Err : goal.returns-in-Err
returns-in-Err c = front_reported c.args.bytes.now c.in-Err.fault (sym c.header_of.ensures ∙ c.in-Err.is)
