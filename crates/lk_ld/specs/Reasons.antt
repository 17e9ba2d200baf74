-- This project's own: which of the system's errors is reported, and of which path.
use Rattle.std.specs.Prelude.{◌≡◌, ℕ, List, codes, IsUtf8, Option, None, option_map}
use Rattle.std.specs.declared.io.Error.{Error}
use Rattle.lk_report.specs.declared.statuses.Status.{Status}
use Rattle.lk_report.specs.declared.statuses.Status.TheVariants as status

-- the path as a text: itself, where it is one
abbrev pub IsTextOf : List ℕ → List ℕ → Type 0
IsTextOf path text = (IsUtf8 path → text ≡ path) × (¬ (IsUtf8 path) → text ≡ codes "(a path that is no text)")

-- an error is reported of this path
abbrev pub reported_of : List ℕ → Option Error → Option (List ℕ × Error)
reported_of path error = option_map (λ e. (path, e)) error

-- where a link ended with a failed read, that error is reported of the path that the status names; where it ended with
-- a failed device, that of the device is reported of the output; else nothing is reported
abbrev pub reason_in : Status → List ℕ → Option Error → Option Error → Option (List ℕ × Error)
reason_in (status.ReadFault path) output read written = reported_of path read
reason_in status.DeviceFault output read written = reported_of output written
reason_in other output read written = None
