use Rattle.std.specs.Prelude.{◌≡◌, ◌<◌, ◌++◌, ℕ, [], drop, length, slice_index_or, vec_len}
use Rattle.lk_obj_parts.specs.ElfViews.{elf_from}
use Rattle.lk_obj_parts.specs.TargetRows.{marked_rows_on}
use Rattle.lk_obj_parts.proofs.target_rows.rows_by_target.Given as goal

abbrev pub invariant-loop-i : goal.invariant-loop-i
invariant-loop-i l = record {
  count : vec_len l.lists ≡ length l.sections;
  rows : (t : ℕ) → t < length l.sections → slice_index_or l.lists.items t [] ++ marked_rows_on (elf_from l.bytes l.header l.sections []) l.rise t l.i (drop l.i l.sections) ≡ marked_rows_on (elf_from l.bytes l.header l.sections []) l.rise t 1 (drop 1 l.sections);
}
