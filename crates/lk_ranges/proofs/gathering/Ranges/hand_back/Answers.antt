use Rattle.std.proofs.Common.{subst, sym, List}
use Rattle.std.specs.List.Sorted.{IsNonDecreasingBy}
use Rattle.lk_ranges.specs.Stretches.{Stretch, start_of}
use Rattle.lk_ranges.proofs.Gathered.{handed_rises}
use Rattle.lk_ranges.proofs.gathering.Ranges.hand_back.Goals as goal

pub invariant_of-self : goal.invariant_of-self
invariant_of-self c = subst (λ (xs : List Stretch). IsNonDecreasingBy start_of xs) (sym c.put_back.ensures.put) (handed_rises c.self.inside.list.items c.args.range c.self.invariant)
