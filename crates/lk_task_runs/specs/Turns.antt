-- Which histories are runs. Whether an event is lawful depends on how far the tasks are, and on no slot.
use Rattle.std.specs.Prelude.{ℕ, Bool, true, not, ◌&&◌, List, [], ◌∷◌, length, replicate, nat_lt, slice_set}
use Rattle.lk_task_runs.specs.declared.tasks.Needs.{Needs}
use Rattle.lk_task_runs.specs.declared.tasks.Phase.{Phase}
use Rattle.lk_task_runs.specs.declared.tasks.Phase.TheVariants.{Waiting, Running, Done}
use Rattle.lk_task_runs.specs.declared.tasks.Event.{Event}
use Rattle.lk_task_runs.specs.declared.tasks.Event.TheVariants.{Take, Finish}
use Rattle.lk_task_runs.specs.Phases.{phase_of, is_under, is_runnable, is_busy, is_stopped}

-- so many tasks, of which none was taken
abbrev pub all_waiting : ℕ → List Phase
all_waiting n = replicate n Waiting

-- how far the tasks are after an event
abbrev pub turn : List Phase → Event → List Phase
turn ms (Take w t) = slice_set ms t (Running w)
turn ms (Finish w t wrote) = slice_set ms t (Done wrote)

-- whether an event is lawful: a worker that runs nothing takes a runnable task, where none reported out of memory; or
-- it finishes the task that it runs
abbrev pub is_lawful : List Needs → List Phase → Event → Bool
is_lawful ns ms (Take w t) = nat_lt t (length ns) && (is_runnable ns ms t && (not (is_busy ms w) && not (is_stopped ms)))
is_lawful ns ms (Finish w t wrote) = is_under w (phase_of ms t)

-- how far the tasks are after a history
abbrev pub phases_after : List Phase → List Event → List Phase
phases_after ms [] = ms
phases_after ms (e ∷ es) = phases_after (turn ms e) es

-- whether a history is a run: each of its events is lawful after those before it
abbrev pub is_run : List Needs → List Phase → List Event → Bool
is_run ns ms [] = true
is_run ns ms (e ∷ es) = is_lawful ns ms e && is_run ns (turn ms e) es
