use Rattle.std.specs.Prelude.{◌≡◌, drop}
use Rattle.lk_elf.specs.declared.file_header.Ehdr.{Ehdr}
use Rattle.lk_obj_parts.specs.ElfViews.{elf_from}
use Rattle.lk_obj_parts.specs.SymbolParts.{faults_from}
use Rattle.lk_obj_parts.proofs.symbol_checks.fault_of_symbols.Given as goal

abbrev pub invariant-loop-k : goal.invariant-loop-k
invariant-loop-k l = (header : Ehdr) → faults_from (elf_from l.bytes header l.sections l.symbols) l.first l.k (drop l.k l.symbols) ≡ faults_from (elf_from l.bytes header l.sections l.symbols) l.first 1 (drop 1 l.symbols)
