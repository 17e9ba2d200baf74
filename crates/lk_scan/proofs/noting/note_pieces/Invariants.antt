use Rattle.std.proofs.Common.{◌≡◌, drop}
use Rattle.lk_model.specs.Elf.{elf_of}
use Rattle.lk_model.specs.Objects.{summary_in}
use Rattle.lk_scan.specs.Noted.{with_pieces}
use Rattle.lk_scan.proofs.noting.note_pieces.Given as goal

abbrev pub invariant-loop-piece : goal.invariant-loop-piece
invariant-loop-piece l =
    with_pieces l.resolution (elf_of l.object) (summary_in (elf_of l.object)) l.input l.scan (drop l.piece-index l.pieces)
    ≡ with_pieces l.resolution (elf_of l.object) (summary_in (elf_of l.object)) l.input l.initial.scan l.pieces
