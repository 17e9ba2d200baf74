-- This project's own: what a link answers where there is no placement.
use Rattle.lk_report.specs.declared.statuses.Status.{Status}
use Rattle.lk_report.specs.declared.statuses.Status.TheVariants as status
use Rattle.lk_model.specs.declared.layouts.LayoutFault.{LayoutFault}
use Rattle.lk_model.specs.declared.layouts.LayoutFault.TheVariants as layout

abbrev pub layout_status : LayoutFault → Status
layout_status (layout.Limit l) = status.Limit l
layout_status layout.NoMemory = status.NoMemory
