use Rattle.std.specs.Prelude.{◌≡◌, ◌-◌, []}
use Rattle.lk_model.specs.Elf.{elf_of}
use Rattle.lk_so_read.specs.SymbolRows.{kept_after, name_fault, rows_from}
use Rattle.lk_so_read.proofs.symbol_reading.offered_symbols.Given as goal

abbrev pub invariant-loop-k : goal.invariant-loop-k
invariant-loop-k l = record {
  kept : kept_after (elf_of l.file) l.table.1.sh_link l.offered (rows_from l.file l.table.1 l.k (l.count - l.k)) ≡ kept_after (elf_of l.file) l.table.1.sh_link ([], []) (rows_from l.file l.table.1 1 (l.count - 1));
  names : name_fault (elf_of l.file) l.table (rows_from l.file l.table.1 l.k (l.count - l.k)) ≡ name_fault (elf_of l.file) l.table (rows_from l.file l.table.1 1 (l.count - 1));
}
