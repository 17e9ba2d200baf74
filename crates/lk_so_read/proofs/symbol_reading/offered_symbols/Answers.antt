-- Symbol after symbol: the first without a name is the fault, and each other adds what it adds.
use Rattle.std.proofs.Common.{◌+◌, ◌-◌, ap, sym, ◌∙◌}
use Rattle.std.specs.Option.{option_copied}
use Rattle.lk_model.specs.Elf.{elf_of}
use Rattle.lk_so_read.proofs.FileParts.{name_of_file}
use Rattle.lk_so_read.specs.OfferedSymbols.{Kept}
use Rattle.lk_so_read.specs.SymbolRows.{kept_after, rows_from}
use Rattle.lk_so_read.proofs.SymbolsKept.{kept_here, kept_left, kept_of_file, named_here, names_of_file, no_name_here, no_row_left}
use Rattle.lk_so_read.proofs.symbol_reading.offered_symbols.Goals as goal

pub returns-in_default : goal.returns-in_default
returns-in_default c =
    let elf = elf_of c.args.file.now in
    names_of_file c.args.file.now c.args.table.now c.in_ok-count.count c.in_ok-count.ensures.value
    ∙ sym c.loop-k.invariant.names
    ∙ no_name_here elf c.args.table.now c.args.file.now c.loop-k.k c.in_ok-count.count c.symbol_in-symbol.result c.loop-k-test.true c.symbol_in-symbol.ensures
    (name_of_file c.args.file.now c.args.sections.now c.args.table.now.1.sh_link c.symbol_in-symbol.result.st_name c.requires.read ∙ sym c.text-text.ensures ∙ ap option_copied c.in_default.is)

pub loop-k-preserved : goal.loop-k-preserved
loop-k-preserved c =
    let elf = elf_of c.args.file.now in
    let named = name_of_file c.args.file.now c.args.sections.now c.args.table.now.1.sh_link c.symbol_in-symbol.result.st_name c.requires.read ∙ sym c.text-text.ensures ∙ ap option_copied c.in-Some.is in
    record {
      kept =
          ap (λ (s : Kept). kept_after elf c.args.table.now.1.sh_link s (rows_from c.args.file.now c.args.table.now.1 (c.loop-k.k + 1) (c.in_ok-count.count - (c.loop-k.k + 1)))) c.in_ok-add.ensures
          ∙ sym (kept_here elf c.args.table.now.1 c.args.file.now c.loop-k.k c.in_ok-count.count c.loop-k.offered c.symbol_in-symbol.result c.in-Some.text.now c.loop-k-test.true c.symbol_in-symbol.ensures named)
          ∙ c.loop-k.invariant.kept;
      names =
          sym (named_here elf c.args.table.now c.args.file.now c.loop-k.k c.in_ok-count.count c.symbol_in-symbol.result c.in-Some.text.now c.loop-k-test.true c.symbol_in-symbol.ensures named)
          ∙ c.loop-k.invariant.names;
    }

pub returns : goal.returns
returns c =
    let elf = elf_of c.args.file.now in (
      names_of_file c.args.file.now c.args.table.now c.in_ok-count.count c.in_ok-count.ensures.value
          ∙ sym c.loop-k.invariant.names
          ∙ no_row_left elf c.args.table.now c.args.file.now c.loop-k.k c.in_ok-count.count c.loop-k-test.false,
      c.into_list.ensures
          ∙ ap (λ (s : Kept). s.0) (sym (kept_left elf c.args.table.now.1 c.args.file.now c.loop-k.k c.in_ok-count.count c.loop-k.offered c.loop-k-test.false) ∙ c.loop-k.invariant.kept)
          ∙ kept_of_file c.args.file.now c.args.table.now c.in_ok-count.count c.in_ok-count.ensures.value,
    )
