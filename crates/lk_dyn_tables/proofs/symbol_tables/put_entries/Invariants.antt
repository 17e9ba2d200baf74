use Rattle.std.specs.Prelude.{◌≡◌, ◌++◌, List, drop, flat_map}
use Rattle.lk_report.specs.declared.causes.OptionRecord.{OptionRecord}
use Rattle.lk_model.specs.Lawful.{Lawful}
use Rattle.lk_model.specs.Resolving.{resolve}
use Rattle.lk_model.specs.Views.{Input}
use Rattle.lk_resolve.specs.Given.{IsGiven}
use Rattle.lk_dyn_tables.specs.SymbolTables.{entry_bytes}
use Rattle.lk_dyn_tables.proofs.symbol_tables.put_entries.Given as goal

abbrev pub invariant-loop-number : goal.invariant-loop-number
invariant-loop-number l =
    (options : OptionRecord) (xs : List Input)
    → IsGiven l.symbols.resolution l.symbols.summaries l.symbols.needs options xs
    → Lawful (resolve options xs) l.symbols.place
    → l.out.items ++ flat_map (entry_bytes l.table (resolve options xs) l.symbols.place l.texts) (drop l.number-index l.numbers)
    ≡ l.initial.out.items ++ flat_map (entry_bytes l.table (resolve options xs) l.symbols.place l.texts) l.numbers
