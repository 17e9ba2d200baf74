use Rattle.std.proofs.Common.{◌≡◌}
use Rattle.lk_resolve.specs.MadeRows.{made_before, with_making}
use Rattle.lk_resolve.proofs.made_names.make_names.Given as goal

abbrev pub invariant-loop-number : goal.invariant-loop-number
invariant-loop-number l = l.names ≡ made_before (with_making l.is_dynamic l.sections.keys) l.number l.initial.names
