use Rattle.lk_resolve.proofs.Passes.{Passed}
use Rattle.lk_resolve.proofs.searches.pass.Given as goal

abbrev pub invariant-loop-member : goal.invariant-loop-member
invariant-loop-member l = Passed l.initial.state l.state l.waiting l.member-index l.left
