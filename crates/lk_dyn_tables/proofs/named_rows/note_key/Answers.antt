use Rattle.std.proofs.Common.{rules}
use Rattle.lk_dyn_tables.proofs.named_rows.note_key.Goals as goal

pub returns-in-Ok : goal.returns-in-Ok
returns-in-Ok c = λ k. let u = c.in-Ok.ensures.updates.0 k in search (rules, u)
