use Rattle.std.specs.Prelude.{◌≡◌, ◌<◌, ◌++◌, ℕ, [], drop, length, slice_index_or, vec_len}
use Rattle.lk_obj_read.specs.RelocationLists.{relas_on}
use Rattle.lk_obj_read.proofs.relocation_lists.relocations_by_target.Given as goal

abbrev pub invariant-loop-i : goal.invariant-loop-i
invariant-loop-i l = record {
  count : vec_len l.lists ≡ length l.sections;
  lists : (t : ℕ) → t < length l.sections → slice_index_or l.lists.items t [] ++ relas_on l.file t (drop l.i l.sections) ≡ relas_on l.file t (drop 1 l.sections);
}
