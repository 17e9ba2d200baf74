-- This project's own: how calls on an object in memory are counted, and which of them must fail.
use Rattle.std.specs.Prelude.{◌≡◌, ◌≤◌, ◌+◌, ◌-◌, ◌^◌, ◌⊎◌, ℕ, min, Option, Some, None}
use Rattle.lk_outside.specs.declared.calls.Calls.{Calls}

-- the calls after this one are to fail, and so many were made
abbrev pub IfStopped : Option ℕ → ℕ → Type 0
IfStopped None made = ⊥
IfStopped (Some last) made = last ≤ made

-- a count goes up by one, and stays at its last value
abbrev pub counted : ℕ → ℕ
counted n = min (n + 1) (2 ^ 64 - 1)

-- no call was made, and none is to fail
abbrev pub no_calls : Calls
no_calls = record { made = 0; failing = None; stopping = None; faults = 0 }

-- the next call is the one that was named to fail, or comes after the last one that may succeed; calls are numbered
-- from 1
abbrev pub FailsNext : Calls → Type 0
FailsNext c = (c.failing ≡ Some (c.made + 1)) ⊎ IfStopped c.stopping c.made

-- one more call was made; and it failed
abbrev pub call_made : Calls → Calls
call_made c = record c { made = counted c.made }

abbrev pub call_failed : Calls → Calls
call_failed c = record c { made = counted c.made; faults = counted c.faults }
