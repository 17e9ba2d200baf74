use Rattle.lk_dyn_sizes.proofs.PairsPut.{four_put}
use Rattle.lk_dyn_sizes.proofs.putting.put_symbols.Goals as goal

pub returns : goal.returns
returns c = four_put _ _ _ _ _ _ _ _ _ c.in_ok-put.ensures c.in_ok-put-2.ensures c.in_ok-put-3.ensures c.in_ok-put-4.ensures
