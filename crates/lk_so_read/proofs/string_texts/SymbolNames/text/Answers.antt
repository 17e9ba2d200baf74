use Rattle.std.proofs.Common.{[], ap, ◌∙◌}
use Rattle.lk_elf.specs.Records.{ehdr_at}
use Rattle.lk_elf.specs.declared.file_header.Ehdr.{Ehdr}
use Rattle.lk_obj_parts.specs.ElfViews.{elf_from}
use Rattle.lk_obj_parts.specs.SymbolParts.{name_in}
use Rattle.lk_obj_parts.proofs.SymbolRows.{name_reported}
use Rattle.lk_so_read.proofs.string_texts.SymbolNames.text.Goals as goal

-- a name is the same under any header
pub returns : goal.returns
returns c =
    let header : Ehdr = ehdr_at c.args.self.now.file.now 0 in
    c.name_at.ensures header
    ∙ name_reported (elf_from c.as_slice.result.now header c.args.self.now.sections.now []) c.args.self.now.strings c.args.offset
    ∙ ap (λ bytes. name_in bytes c.args.self.now.sections.now c.args.self.now.strings c.args.offset) c.as_slice.ensures
