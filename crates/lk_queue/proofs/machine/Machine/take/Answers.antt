use Rattle.std.proofs.Common.{◌≡◌, Some, refl, sym, ap, ◌∙◌, subst, arith}
use Rattle.lk_task_runs.specs.declared.tasks.Needs.{Needs}
use Rattle.lk_task_runs.specs.Phases.{need}
use Rattle.lk_queue.proofs.MachineCalls.{nothing, lowest_there, lowest_runs, job_there, writes_once_of, event_room, taken, gives}
use Rattle.lk_queue.proofs.machine.Machine.take.Goals as goal

pub returns-in_default : goal.returns-in_default
returns-in_default g c =
    rw (← c.self.view_is) (nothing _ _ _ _ _ _ _ _ c.self.invariant (sym c.is_stopped.ensures ∙ c.if-is_stopped.false) (sym c.is_all_done.ensures ∙ c.if-is_all_done.false) (sym c.lowest.ensures ∙ c.in_default.is))

pub needs-requires : goal.needs-requires
needs-requires g c = lowest_there _ _ _ (sym c.lowest.ensures ∙ c.in-Some.is)

pub give_out-took-requires-clause-there : goal.give_out-took-requires-clause-there
give_out-took-requires-clause-there g c = rw c.needs.ensures (job_there _ _ _ _ _ _ _ _ c.self.invariant c.in-Some.task (sym c.lowest.ensures ∙ c.in-Some.is))

pub give_out-took-requires-clause-once : goal.give_out-took-requires-clause-once
give_out-took-requires-clause-once g c = rw c.needs.ensures (writes_once_of _ _ _ _ _ _ _ _ c.self.invariant c.in-Some.task)

pub start-requires-clause-there : goal.start-requires-clause-there
start-requires-clause-there g c = lowest_there _ _ _ (sym c.lowest.ensures ∙ c.in-Some.is)

pub start-requires-clause-runnable : goal.start-requires-clause-runnable
start-requires-clause-runnable g c = lowest_runs _ _ _ (sym c.lowest.ensures ∙ c.in-Some.is)

pub push_event-requires : goal.push_event-requires
push_event-requires g c = omega (arith, c.self.inside.history.ok.0, event_room _ _ _ _ _ _ _ _ c.self.invariant c.in-Some.task (sym c.lowest.ensures ∙ c.in-Some.is))

pub invariant_of-self : goal.invariant_of-self
invariant_of-self g c =
    let idle = rw (← c.self.view_is) at c.requires in
    let store = rw c.needs.ensures at c.give_out-took.ensures.store in
    rw c.push_event.ensures.items (taken _ _ _ _ _ _ _ _ c.self.invariant _ _ _ _ c.args.worker c.in-Some.task c.push_event.ensures.room (sym c.lowest.ensures ∙ c.in-Some.is) (sym c.is_stopped.ensures ∙ c.if-is_stopped.false) idle c.start.ensures store c.give_out-took.ensures.jobs)

pub returns : goal.returns
returns g c =
    let given = rw c.needs.ensures at c.give_out-took.ensures.took in
    rw (c.push_event.ensures.items, ← c.self.view_is) (gives _ _ _ _ _ _ _ _ c.self.invariant _ c.args.worker c.in-Some.task c.give_out-took.result (sym c.lowest.ensures ∙ c.in-Some.is) (sym c.is_stopped.ensures ∙ c.if-is_stopped.false) (sym c.is_all_done.ensures ∙ c.if-is_all_done.false) refl given)
