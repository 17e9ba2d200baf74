-- Which blockers a task waits for, itself or by way of the tasks right below it.
use Rattle.std.specs.Prelude.{◌≡◌, ℕ, zero, suc, ◌-◌, ◌<◌, ◌≤◌, ◌==◌, Bool, false, ◌&&◌, ◌||◌, List, length, slice_index, Option, None, Some}
use Rattle.lk_task_runs.specs.declared.tasks.Needs.{Needs}
use Rattle.lk_task_runs.specs.Phases.{need, is_token}

-- whether a task releases a blocker that there may be and that passes a test
abbrev pub passes_token : (ℕ → Bool) → Option ℕ → Bool
passes_token p None = false
passes_token p (Some b) = p b

-- whether a task waits for a blocker, itself or by way of the given number of tasks right below it
abbrev pub swept : List Needs → ℕ → ℕ → ℕ → Bool
swept ns u zero b = is_token b (need ns u).waits
swept ns u (suc j) b = swept ns u j b || (passes_token (swept ns u j) (need ns (u - suc j)).releases && is_token b (need ns (u - suc j)).waits)

-- blockers are marked with a number exactly where they were swept, and with none that is greater
pub record AreSwept (ns : List Needs) (u j number : ℕ) (reached : List ℕ) : Type 0 where
  pub most : (b : ℕ) → slice_index reached b ≤ number
  pub marks : (b : ℕ) → b < length reached → (slice_index reached b == number) ≡ swept ns u j b
