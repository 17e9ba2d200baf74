use Rattle.std.specs.Prelude.{◌≡◌, drop}
use Rattle.std.specs.List.{list_all}
use Rattle.lk_obj_parts.specs.GroupMarks.{is_section_in}
use Rattle.lk_obj_parts.specs.GroupParts.{members_in, words_in}
use Rattle.lk_obj_parts.proofs.group_checks.are_sections.Given as goal

abbrev pub invariant-loop-k : goal.invariant-loop-k
invariant-loop-k l =
    list_all (is_section_in l.sections) (drop l.k (words_in l.bytes l.section)) ≡ list_all (is_section_in l.sections) (members_in l.bytes l.section)
