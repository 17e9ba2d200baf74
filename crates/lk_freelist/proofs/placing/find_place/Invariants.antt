use Rattle.std.proofs.Common.{◌≡◌, drop}
use Rattle.lk_model.specs.FirstFit.{first_fit}
use Rattle.lk_freelist.proofs.placing.find_place.Given as goal

abbrev pub invariant-loop-index : goal.invariant-loop-index
invariant-loop-index l = first_fit (drop l.index l.holes) l.least l.size l.align ≡ first_fit l.holes l.least l.size l.align
