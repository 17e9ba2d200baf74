-- This project's own: the status of a link whose references have faults.
use Rattle.lk_report.specs.declared.statuses.Status.{Status}
use Rattle.lk_report.specs.declared.statuses.Status.TheVariants as status
use Rattle.lk_scan.specs.declared.scans.ScanFailure.{ScanFailure}
use Rattle.lk_scan.specs.declared.scans.ScanFailure.TheVariants as failure

-- the faults of the references; out of memory
abbrev pub scan_status : ScanFailure → Status
scan_status (failure.Faults faults) = status.LinkError faults
scan_status failure.NoMemory = status.NoMemory
