use Rattle.std.specs.Prelude.{◌≡◌, ◌++◌, drop}
use Rattle.lk_elf.specs.declared.file_header.Ehdr.{Ehdr}
use Rattle.lk_obj_parts.specs.ElfViews.{elf_from}
use Rattle.lk_obj_parts.specs.SymbolParts.{globals_from}
use Rattle.lk_obj_parts.proofs.symbols.globals_of.Given as goal

abbrev pub invariant-loop-k : goal.invariant-loop-k
invariant-loop-k l = (header : Ehdr) → l.globals.items ++ globals_from (elf_from l.file header l.sections l.symbols) l.k (drop l.k l.symbols) ≡ globals_from (elf_from l.file header l.sections l.symbols) 1 (drop 1 l.symbols)
