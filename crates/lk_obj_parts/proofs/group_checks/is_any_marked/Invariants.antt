use Rattle.std.specs.Prelude.{◌≡◌, drop}
use Rattle.std.specs.List.{list_any}
use Rattle.lk_marks.specs.Marked.{is_marked}
use Rattle.lk_obj_parts.specs.GroupParts.{members_in, words_in}
use Rattle.lk_obj_parts.proofs.group_checks.is_any_marked.Given as goal

abbrev pub invariant-loop-k : goal.invariant-loop-k
invariant-loop-k l =
    list_any (is_marked l.marks) (drop l.k (words_in l.bytes l.section)) ≡ list_any (is_marked l.marks) (members_in l.bytes l.section)
