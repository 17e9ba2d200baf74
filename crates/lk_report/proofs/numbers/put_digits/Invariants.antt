use Rattle.std.proofs.Common.{◌≡◌, ◌≤◌, false, length, drop}
use Rattle.std.specs.Fmt.{digits_onto, digits}
use Rattle.lk_report.proofs.numbers.put_digits.Given as goal

-- the digits of the rest, followed by those that are put, are the digits of the number
abbrev pub invariant-loop-start : goal.invariant-loop-start
invariant-loop-start l = (l.start ≤ 64) × (length l.room ≡ 64) × (digits_onto l.start l.base false l.rest (drop l.start l.room) ≡ digits l.base false l.n)

abbrev pub decreases-loop-start : goal.decreases-loop-start
decreases-loop-start l = l.start
