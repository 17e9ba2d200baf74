-- This project's own: the status of a look-up or a read without an answer.
use Rattle.lk_report.specs.declared.statuses.Status.{Status}
use Rattle.lk_report.specs.declared.statuses.Status.TheVariants as status
use Rattle.lk_inputs.specs.declared.unread.Unread.{Unread}
use Rattle.lk_inputs.specs.declared.unread.Unread.TheVariants as unread

abbrev pub unread_status : Unread → Status
unread_status (unread.Failed path) = status.ReadFault path
unread_status unread.NoMemory = status.NoMemory
