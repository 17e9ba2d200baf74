use Rattle.std.specs.Prelude.{◌≡◌, ◌++◌, List, drop}
use Rattle.lk_elf.specs.declared.symbol.Sym.{Sym}
use Rattle.lk_obj_parts.specs.ElfViews.{elf_from}
use Rattle.lk_obj_read.specs.PieceParts.{pieces_from}
use Rattle.lk_obj_read.proofs.pieces.pieces_of.Given as goal

abbrev pub invariant-loop-i : goal.invariant-loop-i
invariant-loop-i l = (symbols : List Sym) →
    l.pieces ++ pieces_from (elf_from l.file l.header l.sections symbols) l.i (drop l.i l.sections)
    ≡ pieces_from (elf_from l.file l.header l.sections symbols) 1 (drop 1 l.sections)
