-- This project's own: what the link of inputs that were read may answer.
use Rattle.std.specs.Prelude.{◌≡◌, false, None}
use Rattle.std.specs.List.{list_any}
use Rattle.lk_report.specs.declared.statuses.LimitKind.TheVariants as limit
use Rattle.lk_report.specs.declared.statuses.Outcome.TheVariants as outcome
use Rattle.lk_report.specs.declared.statuses.Status.{Status}
use Rattle.lk_report.specs.declared.statuses.Status.TheVariants as status
use Rattle.lk_report.specs.declared.statuses.Waiting.TheVariants as waiting
use Rattle.lk_inputs.specs.Asked.{is_missing}

-- a link that is done, faults of which none reports a missing input, a form that waits, a limit other than that on
-- the number of inputs
abbrev pub IsLinkStatus : Status → Type 0
IsLinkStatus (status.Done (outcome.Full None)) = Unit {0}
IsLinkStatus (status.LinkError faults) = list_any is_missing faults ≡ false
IsLinkStatus (status.NotYet (waiting.Form path)) = Unit {0}
IsLinkStatus (status.Limit l) = l.which ≡ limit.Inputs → ⊥
IsLinkStatus other = ⊥
