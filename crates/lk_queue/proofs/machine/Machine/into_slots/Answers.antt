use Rattle.std.proofs.Common.{sym, ap, ◌∙◌, arith}
use Rattle.lk_queue.proofs.MachineCalls.{present, room_is, hands}
use Rattle.lk_queue.proofs.machine.Machine.into_slots.Goals as goal

pub all_present-requires-clause-there : goal.all_present-requires-clause-there
all_present-requires-clause-there g c = present _ _ _ _ _ _ _ _ c.self.invariant g.W.Work.is_owned g.met.W.Work.owns_as_before (sym c.is_one_running.ensures ∙ c.if-is_one_running.false)

pub all_present-requires-clause-room : goal.all_present-requires-clause-room
all_present-requires-clause-room g c = room_is _ _ _ _ _ _ _ _ c.self.invariant g.W.Work.is_owned g.met.W.Work.owns_as_before

pub returns : goal.returns
returns g c =
    rw (← c.self.view_is) (hands _ _ _ _ _ _ _ _ c.self.invariant g.W.Work.is_owned g.met.W.Work.owns_as_before (sym c.is_one_running.ensures ∙ c.if-is_one_running.false) c.all_present.result c.all_present.ensures)
