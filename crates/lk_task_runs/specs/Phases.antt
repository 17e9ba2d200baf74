-- Which tasks are runnable. Counts of blockers and holders of locks follow from how far each task is.
use Rattle.std.specs.Prelude.{ℕ, ◌==◌, Bool, true, false, not, ◌&&◌, List, [], length, nat_lt, Option, None, Some}
use Rattle.std.specs.List.{list_any, list_all, slice_index_or}
use Rattle.lk_task_runs.specs.declared.tasks.Needs.{Needs}
use Rattle.lk_task_runs.specs.declared.tasks.Phase.{Phase}
use Rattle.lk_task_runs.specs.declared.tasks.Phase.TheVariants.{Waiting, Running, Done}
use Rattle.lk_task_runs.specs.Below.{has, any_below, count_below, first_below}

-- what no task needs
abbrev pub no_needs : Needs
no_needs = record { waits = None; releases = None; locks = []; reads = []; writes = [] }

-- what the task of a number needs
abbrev pub need : List Needs → ℕ → Needs
need ns t = slice_index_or ns t no_needs

-- how far the task of a number is
abbrev pub phase_of : List Phase → ℕ → Phase
phase_of ms t = slice_index_or ms t Waiting

abbrev pub is_waiting : Phase → Bool
is_waiting Waiting = true
is_waiting (Running w) = false
is_waiting (Done wrote) = false

abbrev pub is_running : Phase → Bool
is_running Waiting = false
is_running (Running w) = true
is_running (Done wrote) = false

-- whether a task runs under this worker
abbrev pub is_under : ℕ → Phase → Bool
is_under w Waiting = false
is_under w (Running v) = v == w
is_under w (Done wrote) = false

abbrev pub is_done : Phase → Bool
is_done Waiting = false
is_done (Running w) = false
is_done (Done wrote) = true

-- whether a task is done and has written
abbrev pub has_wrote : Phase → Bool
has_wrote Waiting = false
has_wrote (Running w) = false
has_wrote (Done wrote) = wrote

-- whether a task is done and reported out of memory
abbrev pub has_failed : Phase → Bool
has_failed Waiting = false
has_failed (Running w) = false
has_failed (Done wrote) = not wrote

-- whether a token that there may be is this one
abbrev pub is_token : ℕ → Option ℕ → Bool
is_token b None = false
is_token b (Some c) = c == b

-- whether two tokens that there may be are one
abbrev pub is_same_token : Option ℕ → Option ℕ → Bool
is_same_token a None = false
is_same_token a (Some b) = is_token b a

-- whether the first task releases the blocker that the second waits for
abbrev pub blocks : List Needs → ℕ → ℕ → Bool
blocks ns t u = is_same_token (need ns t).releases (need ns u).waits

-- whether a task counts for a blocker: it releases it and is not done
abbrev pub is_counted : List Needs → List Phase → ℕ → ℕ → Bool
is_counted ns ms b t = is_token b (need ns t).releases && not (is_done (phase_of ms t))

-- the count of a blocker: how many unfinished tasks release it
abbrev pub blocker_count : List Needs → List Phase → ℕ → ℕ
blocker_count ns ms b = count_below (is_counted ns ms b) (length ns)

-- whether a blocker that there may be has a count above 0
abbrev pub is_blocked : List Needs → List Phase → Option ℕ → Bool
is_blocked ns ms None = false
is_blocked ns ms (Some b) = nat_lt 0 (blocker_count ns ms b)

-- whether a task has a lock: it runs and takes it
abbrev pub has_lock : List Needs → List Phase → ℕ → ℕ → Bool
has_lock ns ms l t = is_running (phase_of ms t) && has l (need ns t).locks

-- whether a task has a lock
abbrev pub is_locked : List Needs → List Phase → ℕ → Bool
is_locked ns ms l = any_below (has_lock ns ms l) (length ns)

-- whether a task is runnable: it is neither running nor done, its blocker's count is 0 and its locks are free
abbrev pub is_runnable : List Needs → List Phase → ℕ → Bool
is_runnable ns ms t = is_waiting (phase_of ms t) && (not (is_blocked ns ms (need ns t).waits) && not (list_any (is_locked ns ms) (need ns t).locks))

-- the runnable task of lowest number
abbrev pub lowest_runnable : List Needs → List Phase → Option ℕ
lowest_runnable ns ms = first_below (is_runnable ns ms) (length ns)

-- whether a task reported out of memory
abbrev pub is_stopped : List Phase → Bool
is_stopped ms = list_any has_failed ms

-- whether every task is done
abbrev pub is_all_done : List Phase → Bool
is_all_done ms = list_all is_done ms

-- whether every task is done and has written
abbrev pub is_complete : List Phase → Bool
is_complete ms = list_all has_wrote ms

-- whether a task runs
abbrev pub is_one_running : List Phase → Bool
is_one_running ms = list_any is_running ms

-- whether a worker runs a task
abbrev pub is_busy : List Phase → ℕ → Bool
is_busy ms w = list_any (is_under w) ms
