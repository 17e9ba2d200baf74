use Rattle.std.specs.Prelude.{◌≡◌, ◌++◌, drop}
use Rattle.lk_obj_parts.specs.ElfViews.{elf_from}
use Rattle.lk_obj_parts.specs.GroupLists.{groups_among}
use Rattle.lk_obj_parts.proofs.groups.groups_of.Given as goal

abbrev pub invariant-loop-i : goal.invariant-loop-i
invariant-loop-i l =
    l.groups ++ groups_among (elf_from l.bytes l.header l.sections l.symbols) (drop l.i l.sections)
    ≡ groups_among (elf_from l.bytes l.header l.sections l.symbols) (drop 1 l.sections)
