-- A name does not depend on the file header, so one of zeros serves.
use Rattle.std.specs.Prelude.{[]}
use Rattle.std.proofs.Common.{◌∙◌}
use Rattle.lk_elf.specs.declared.file_header.Ehdr.{Ehdr}
use Rattle.lk_obj_parts.specs.ElfViews.{elf_from}
use Rattle.lk_obj_parts.proofs.SymbolRows.{name_reported}
use Rattle.lk_obj_parts.proofs.symbols.name_in.Goals as goal

no_header : Ehdr
no_header = record { e_ident = []; e_type = 0; e_machine = 0; e_version = 0; e_entry = 0; e_phoff = 0; e_shoff = 0; e_flags = 0; e_ehsize = 0; e_phentsize = 0; e_phnum = 0; e_shentsize = 0; e_shnum = 0; e_shstrndx = 0 }

pub returns : goal.returns
returns c = c.name_at.ensures no_header ∙ name_reported (elf_from c.args.bytes.now no_header c.args.sections.now []) c.args.strings c.args.offset
