use Rattle.std.specs.Prelude.{◌≡◌, drop, fold}
use Rattle.lk_marks.specs.Marked.{with_mark}
use Rattle.lk_obj_parts.specs.GroupParts.{members_in, words_in}
use Rattle.lk_obj_parts.proofs.group_checks.mark_members.Given as goal

abbrev pub invariant-loop-k : goal.invariant-loop-k
invariant-loop-k l =
    fold with_mark l.marks (drop l.k (words_in l.bytes l.section)) ≡ fold with_mark l.fn.marks (members_in l.bytes l.section)
