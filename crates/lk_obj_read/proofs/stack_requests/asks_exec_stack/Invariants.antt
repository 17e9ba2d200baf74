use Rattle.std.specs.Prelude.{◌≡◌, [], drop}
use Rattle.lk_obj_parts.specs.ElfViews.{elf_from}
use Rattle.lk_obj_read.specs.StackRequests.{any_asks_from}
use Rattle.lk_obj_read.proofs.stack_requests.asks_exec_stack.Given as goal

abbrev pub invariant-loop-i : goal.invariant-loop-i
invariant-loop-i l =
    any_asks_from (elf_from l.bytes l.header l.sections []) l.i (drop l.i l.sections)
    ≡ any_asks_from (elf_from l.bytes l.header l.sections []) 1 (drop 1 l.sections)
