use Rattle.std.proofs.Common.{◌≡◌, nat_eq, flat_map, fold, drop}
use Rattle.lk_model.specs.Numbered.{with_new}
use Rattle.lk_dyn_sizes.specs.DynamicRows.{slot_names}
use Rattle.lk_dyn_sizes.proofs.name_sets.insert_slots.Given as goal

abbrev pub invariant-loop-key : goal.invariant-loop-key
invariant-loop-key l = fold (with_new nat_eq) l.names.keys (flat_map slot_names (drop l.key-index l.keys)) ≡ fold (with_new nat_eq) l.initial.names.keys (flat_map slot_names l.keys)
