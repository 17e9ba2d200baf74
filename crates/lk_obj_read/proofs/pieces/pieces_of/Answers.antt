-- With every section looked at, the pieces are those of a file with any symbols.
use Rattle.std.proofs.Common.{arith}
use Rattle.lk_obj_parts.specs.ElfViews.{elf_from}
use Rattle.lk_obj_read.proofs.PiecesReported.{pieces_done}
use Rattle.lk_obj_read.proofs.pieces.pieces_of.Goals as goal

pub returns : goal.returns
returns c = λ symbols.
    pieces_done (elf_from c.args.file.now c.args.header.now c.args.sections.now symbols) c.loop-i.pieces c.loop-i.i (omega arith) (c.loop-i.invariant symbols)
