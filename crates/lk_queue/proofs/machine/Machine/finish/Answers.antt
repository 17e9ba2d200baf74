use Rattle.std.proofs.Common.{sym, ap, ◌∙◌, arith}
use Rattle.lk_task_runs.specs.declared.tasks.Needs.{Needs}
use Rattle.lk_queue.proofs.MachineCalls.{running_there, finish_room, finished_by}
use Rattle.lk_queue.proofs.machine.Machine.finish.Goals as goal

pub needs-requires : goal.needs-requires
needs-requires g c =
    let under = rw (← c.self.view_is) at c.requires.runs in
    running_there _ _ _ _ _ _ _ _ c.self.invariant c.args.worker c.args.task under

pub end-requires-clause-there : goal.end-requires-clause-there
end-requires-clause-there g c =
    let under = rw (← c.self.view_is) at c.requires.runs in
    running_there _ _ _ _ _ _ _ _ c.self.invariant c.args.worker c.args.task under

pub push_event-requires : goal.push_event-requires
push_event-requires g c =
    let under = rw (← c.self.view_is) at c.requires.runs in
    omega (arith, c.self.inside.history.ok.0, finish_room _ _ _ _ _ _ _ _ c.self.invariant c.args.worker c.args.task under)

pub invariant_of-self : goal.invariant_of-self
invariant_of-self g c =
    let under = rw (← c.self.view_is) at c.requires.runs in
    let allowed = rw (← c.self.view_is) at c.requires.allowed in
    rw c.push_event.ensures.items (finished_by _ _ _ _ _ _ _ _ c.self.invariant _ _ _ c.args.worker c.args.task c.args.done c.parts_of-slots.result.0 c.as_slice.result.now c.parts_of-slots.result.1 c.push_event.ensures.room under allowed
    c.parts_of-slots.ensures.slots c.parts_of-slots.ensures.wrote (c.as_slice.ensures ∙ ap (λ (n : Needs). n.writes) c.needs.ensures) c.end.ensures c.put_back.ensures)
