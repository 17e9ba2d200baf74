use Rattle.std.proofs.Common.{◌≡◌, drop, false, fold, replicate}
use Rattle.lk_marks.specs.Marked.{with_mark}
use Rattle.lk_marks.proofs.marking.marks_of.Given as goal

abbrev pub invariant-loop-number : goal.invariant-loop-number
invariant-loop-number l =
    fold with_mark l.marks.items (drop l.number-index l.numbers) ≡ fold with_mark (replicate l.count false) l.numbers
