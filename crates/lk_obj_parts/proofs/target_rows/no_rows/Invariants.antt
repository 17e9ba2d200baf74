use Rattle.std.specs.Prelude.{◌≡◌, ◌-◌, ◌≤◌, [], replicate, vec_len}
use Rattle.lk_obj_parts.proofs.target_rows.no_rows.Given as goal

abbrev pub invariant-loop-alloc : goal.invariant-loop-alloc
invariant-loop-alloc l = record {
  items : l.lists.items ≡ replicate (vec_len l.lists) [];
  within : vec_len l.lists ≤ l.count;
}

abbrev pub decreases-loop-alloc : goal.decreases-loop-alloc
decreases-loop-alloc l = l.count - vec_len l.lists
