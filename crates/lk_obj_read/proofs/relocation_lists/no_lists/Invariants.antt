use Rattle.std.specs.Prelude.{◌≡◌, ◌-◌, ◌≤◌, [], replicate, vec_len}
use Rattle.lk_obj_read.proofs.relocation_lists.no_lists.Given as goal

abbrev pub invariant-loop-lists : goal.invariant-loop-lists
invariant-loop-lists l = record {
  items : l.lists.items ≡ replicate (vec_len l.lists) [];
  within : vec_len l.lists ≤ l.count;
}

abbrev pub decreases-loop-lists : goal.decreases-loop-lists
decreases-loop-lists l = l.count - vec_len l.lists
