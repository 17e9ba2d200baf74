-- A limit is exceeded exactly by the numbers above it.
use Rattle.std.proofs.Common.{◌≡◌, ◌<◌, ◌≤◌, ap, ℕ, Option, Some, None}
use Rattle.std.specs.Prelude.{if◌then◌else◌}
use Rattle.std.proofs.lemmas.Bool.{le-ltb, lt-ltb}
use Rattle.lk_report.specs.declared.statuses.LimitKind.{LimitKind}
use Rattle.lk_report.specs.declared.statuses.Status.{Status}
use Rattle.lk_report.specs.declared.statuses.Status.TheVariants as status
use Rattle.lk_model.specs.Answers.{limit_fault}

pub above : (which : LimitKind) (most n : ℕ) → most < n → limit_fault which most n ≡ Some (status.Limit (record { which = which; number = n }))
above which most n h = ap (λ b. if b then Some (status.Limit (record { which = which; number = n })) else None) (lt-ltb most n h)

pub below : (which : LimitKind) (most n : ℕ) → n ≤ most → limit_fault which most n ≡ None
below which most n h = ap (λ b. let o : Option Status = if b then Some (status.Limit (record { which = which; number = n })) else None in o) (le-ltb most n h)
