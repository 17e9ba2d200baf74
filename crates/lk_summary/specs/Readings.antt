-- What reading a file answers (this project's own): its first fault, or a value of which something holds.
use Rattle.std.specs.Prelude.{◌≡◌, Option, Some, None, Result, Ok, Err}
use Rattle.lk_report.specs.declared.faults.InputFault.{InputFault}
use Rattle.lk_summary.specs.declared.failures.ReadFailure.{ReadFailure}
use Rattle.lk_summary.specs.declared.failures.ReadFailure.TheVariants.{Input, NoMemory}

-- what is answered of a file with this first fault: the fault, or where there is none a value of which
-- this holds; out of memory is tied to no cause
abbrev pub ReadGives : {X : Type 0} → Option InputFault → (X → Type 0) → Result X ReadFailure → Type 0
ReadGives fault P (Ok x) = (fault ≡ None) × P x
ReadGives fault P (Err (Input reported)) = fault ≡ Some reported
ReadGives fault P (Err NoMemory) = Unit {0}
