use Rattle.std.proofs.Common.{◌≡◌, ℕ, List, drop}
use Rattle.lk_marks.specs.Marked.{is_marked}
use Rattle.lk_symbol_values.specs.MadeValues.{bound_from, bound_of}
use Rattle.lk_symbol_values.proofs.made_values.bounds_among.Given as goal

abbrev pub invariant-loop-number : goal.invariant-loop-number
invariant-loop-number l = (name : List ℕ) → bound_of l.bounds.entries name ≡ bound_from (is_marked l.with_pieces) l.number (drop l.number l.rows) name
