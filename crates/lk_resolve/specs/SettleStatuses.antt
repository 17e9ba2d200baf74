-- This project's own: what a link answers where there is no resolution.
use Rattle.lk_report.specs.declared.statuses.Status.{Status}
use Rattle.lk_report.specs.declared.statuses.Status.TheVariants as status
use Rattle.lk_resolve.specs.declared.settle_faults.SettleFault.{SettleFault}
use Rattle.lk_resolve.specs.declared.settle_faults.SettleFault.TheVariants as settle

-- the faults of the names; a limit that is exceeded; out of memory
abbrev pub settle_status : SettleFault → Status
settle_status (settle.Faults faults) = status.LinkError faults
settle_status (settle.Limit l) = status.Limit l
settle_status settle.NoMemory = status.NoMemory
