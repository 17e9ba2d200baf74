use Rattle.std.specs.Prelude.{◌<◌, ◌≤◌, ℕ, [], slice_index_or}
use Rattle.lk_elf.specs.declared.section_header.Shdr.{Shdr}
use Rattle.lk_obj_parts.specs.TargetRows.{room_with}
use Rattle.lk_obj_parts.proofs.overlaps.longest_target.Given as goal

abbrev pub invariant-loop-t : goal.invariant-loop-t
invariant-loop-t l = (t : ℕ) (d : Shdr) → t < l.t → room_with (slice_index_or l.sections t d) (slice_index_or l.lists t []) ≤ l.size
