use Rattle.std.specs.Prelude.{◌≡◌, ◌++◌, ◌-◌}
use Rattle.lk_model.specs.Elf.{elf_of}
use Rattle.lk_so_read.specs.DynamicParts.{entries_from}
use Rattle.lk_so_read.specs.Needs.{needs_among}
use Rattle.lk_so_read.proofs.needs.needs_under.Given as goal

abbrev pub invariant-loop-k : goal.invariant-loop-k
invariant-loop-k l =
    l.needs ++ needs_among (elf_of l.bytes) l.dynamic.sh_link (entries_from l.bytes l.dynamic l.k (l.count - l.k))
    ≡ needs_among (elf_of l.bytes) l.dynamic.sh_link (entries_from l.bytes l.dynamic 0 l.count)
