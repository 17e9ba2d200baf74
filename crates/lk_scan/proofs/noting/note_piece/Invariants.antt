use Rattle.std.proofs.Common.{◌≡◌, drop}
use Rattle.lk_model.specs.Elf.{elf_of}
use Rattle.lk_model.specs.Objects.{summary_in}
use Rattle.lk_scan.specs.Noted.{with_relas}
use Rattle.lk_scan.proofs.noting.note_piece.Given as goal

abbrev pub invariant-loop-k : goal.invariant-loop-k
invariant-loop-k l =
    with_relas l.resolution (elf_of l.object) (summary_in (elf_of l.object)) l.input l.piece l.scan (drop l.k l.relas)
    ≡ with_relas l.resolution (elf_of l.object) (summary_in (elf_of l.object)) l.input l.piece l.initial.scan l.relas
