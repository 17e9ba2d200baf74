use Rattle.std.proofs.Common.{◌≡◌, ◌++◌}
use Rattle.lk_model.specs.Texts.{table_bytes}
use Rattle.lk_string_table.specs.StringTables.{texts_in}
use Rattle.lk_string_table.proofs.string_tables.StringTable.put.Given as goal

-- what was put and the texts that are left are what was there and all texts
abbrev pub invariant-loop-text : goal.invariant-loop-text
invariant-loop-text l =
    l.out.items ++ table_bytes (texts_in l.text-iterator) ≡ l.initial.out.items ++ table_bytes (texts_in l.initial.text-iterator)
