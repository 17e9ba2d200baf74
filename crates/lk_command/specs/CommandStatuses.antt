-- This project's own: the status of a link whose words are no command.
use Rattle.lk_report.specs.declared.statuses.Status.{Status}
use Rattle.lk_report.specs.declared.statuses.Status.TheVariants as status
use Rattle.lk_command.specs.declared.command_faults.CommandFault.{CommandFault}
use Rattle.lk_command.specs.declared.command_faults.CommandFault.TheVariants as faults

-- the first fault of the words; out of memory
abbrev pub command_status : CommandFault → Status
command_status (faults.Usage fault) = status.Usage fault
command_status faults.NoMemory = status.NoMemory
