-- This project's own: the exit status that a program ends with.
use Rattle.std.specs.Prelude.{ℕ}
use Rattle.lk_report.specs.declared.statuses.Status.{Status}
use Rattle.lk_report.specs.declared.statuses.Status.TheVariants.{Done, LinkError, Usage, ReadFault, DeviceFault, NoMemory, Limit, NotUpdated, NotYet}

-- 0 where the output is the link that was asked for, else one number for each kind of refusal
abbrev pub exit_status_of : Status → ℕ
exit_status_of (Done outcome) = 0
exit_status_of (LinkError faults) = 1
exit_status_of (Usage fault) = 2
exit_status_of (ReadFault path) = 3
exit_status_of DeviceFault = 4
exit_status_of NoMemory = 5
exit_status_of (Limit fault) = 6
exit_status_of (NotUpdated cause) = 7
exit_status_of (NotYet waiting) = 8
