-- When tasks are ordered, so that no interleaving can change what they make of the slots.
use Rattle.std.specs.Prelude.{◌≡◌, ℕ, zero, suc, ◌<◌, ◌^◌, Bool, true, false, not, ◌&&◌, ◌||◌, List, length, nat_eq, nat_lt, Option, None, Some}
use Rattle.std.specs.List.{list_any, IsDistinct}
use Rattle.lk_task_runs.specs.declared.tasks.Needs.{Needs}
use Rattle.lk_task_runs.specs.Below.{has, any_below, first_below}
use Rattle.lk_task_runs.specs.Phases.{need, is_token, blocks}

-- whether a task waits for a blocker, itself or by way of at most so many lower tasks, each of which releases what
-- the next waits for
abbrev pub reaches : List Needs → ℕ → ℕ → ℕ → Bool
reaches ns zero b u = is_token b (need ns u).waits
reaches ns (suc links) b u = is_token b (need ns u).waits || any_below (λ v. blocks ns v u && reaches ns links b v) u

-- whether a task is after whatever releases a blocker that there may be
abbrev pub is_after_token : List Needs → ℕ → Option ℕ → Bool
is_after_token ns u None = false
is_after_token ns u (Some b) = reaches ns u b u

-- whether task u is after task t by blockers
abbrev pub is_after : List Needs → ℕ → ℕ → Bool
is_after ns t u = is_after_token ns u (need ns t).releases

-- whether a task reads or writes a slot
abbrev pub touches : Needs → ℕ → Bool
touches a n = has n a.reads || has n a.writes

-- whether the first task writes a slot that the second reads or writes
abbrev pub writes_for : Needs → Needs → Bool
writes_for a b = list_any (touches b) a.writes

-- whether two tasks share a written slot: one writes it and the other reads or writes it
abbrev pub shares : Needs → Needs → Bool
shares a b = writes_for a b || writes_for b a

-- whether a task waits for a blocker that a task of equal or higher number releases
abbrev pub waits_ahead : List Needs → ℕ → Bool
waits_ahead ns u = any_below (λ t. blocks ns t u && not (nat_lt t u)) (length ns)

-- whether a task shares a written slot with an earlier task and is not after it
abbrev pub clashes : List Needs → ℕ → Bool
clashes ns u = any_below (λ t. shares (need ns t) (need ns u) && not (is_after ns t u)) u

abbrev pub is_not_ordered : List Needs → ℕ → Bool
is_not_ordered ns u = waits_ahead ns u || clashes ns u

-- the first task that is not ordered
abbrev pub first_not_ordered : List Needs → Option ℕ
first_not_ordered ns = first_below (is_not_ordered ns) (length ns)

-- tasks that are ordered, over so many slots, of which so many are shared and may be read
pub record IsOrdered (shared slots : ℕ) (ns : List Needs) : Type 0 where
  pub in_order : first_not_ordered ns ≡ None
  pub reads_shared : (t n : ℕ) → has n (need ns t).reads ≡ true → n < shared
  pub writes_there : (t n : ℕ) → has n (need ns t).writes ≡ true → n < slots
  pub writes_once : (t : ℕ) → IsDistinct nat_eq (need ns t).writes
  pub locks_once : (t : ℕ) → IsDistinct nat_eq (need ns t).locks
  pub few_tasks : length ns < 2 ^ 32
  pub few_slots : slots < 2 ^ 32
