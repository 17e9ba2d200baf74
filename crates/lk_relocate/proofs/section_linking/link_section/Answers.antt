use Rattle.std.proofs.Common.{sym, ◌∙◌}
use Rattle.lk_model.specs.Elf.{elf_of}
use Rattle.lk_model.specs.Objects.{summary_in}
use Rattle.lk_marks.specs.Marked.{is_marked}
use Rattle.lk_relocate.specs.PieceLists.{is_listed}
use Rattle.lk_relocate.proofs.PiecePut.{not_both, piece_is}
use Rattle.lk_relocate.proofs.section_linking.link_section.Goals as goal

pub piece_bytes-bytes-requires : goal.piece_bytes-bytes-requires
piece_bytes-bytes-requires c =
    let s = c.args.section.now in
    piece_is s.object.now s.section (sym (c.requires.tables_are.marks_are s.section) ∙ sym c.is_marked.ensures ∙ c.if-is_marked.true)

pub relocations-relas-requires : goal.relocations-relas-requires
relocations-relas-requires c =
    let s = c.args.section.now in
    piece_is s.object.now s.section (sym (c.requires.tables_are.marks_are s.section) ∙ sym c.is_marked.ensures ∙ c.if-is_marked.true)

pub returns-else-is_marked-clause-linked : goal.returns-else-is_marked-clause-linked
returns-else-is_marked-clause-linked c = λ r is.
    let s = c.args.section.now in
    not_both (is_marked s.tables.now.marks s.section) (is_listed s.section (summary_in (elf_of s.object.now)).pieces) (c.requires.tables_are.marks_are s.section) (sym c.is_marked.ensures ∙ c.if-is_marked.false) is.listed

pub returns-else-is_marked-clause-reported : goal.returns-else-is_marked-clause-reported
returns-else-is_marked-clause-reported c = λ r is.
    let s = c.args.section.now in
    not_both (is_marked s.tables.now.marks s.section) (is_listed s.section (summary_in (elf_of s.object.now)).pieces) (c.requires.tables_are.marks_are s.section) (sym c.is_marked.ensures ∙ c.if-is_marked.false) is.listed
