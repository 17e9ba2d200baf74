use Rattle.std.proofs.Common.{sym, ◌∙◌}
use Rattle.lk_relocate.proofs.PiecePut.{piece_is}
use Rattle.lk_relocate.proofs.object_tables.ObjectTables.learn.Goals as goal

pub relocations-relas-requires : goal.relocations-relas-requires
relocations-relas-requires c =
    piece_is c.args.object.now c.args.section (sym (c.requires.marks_are c.args.section) ∙ sym c.is_marked.ensures ∙ c.if-is_marked.true)
