use Rattle.std.proofs.Common.{◌≡◌, ◌∙◌}
use Rattle.std.specs.Prelude.{ℕ, List, ◌++◌, flat_map}
use Rattle.std.proofs.lemmas.Result.{IfOk-weaker}
use Rattle.lk_elf.specs.Records.{sym_bytes}
use Rattle.lk_model.specs.DynamicSymbols.{dynsym_bytes}
use Rattle.lk_model.specs.Resolving.{resolve}
use Rattle.lk_model.specs.SymbolEntries.{null_entry}
use Rattle.lk_dyn_tables.specs.SymbolTables.{entry_bytes}
use Rattle.lk_dyn_tables.specs.declared.symbols.SymbolTable.TheVariants as table
use Rattle.lk_dyn_tables.proofs.TablesPut.{dynsym_is}
use Rattle.lk_dyn_tables.proofs.symbol_tables.dynsym_table.Goals as goal

pub returns : goal.returns
returns c = λ options xs given lawful chosen noted.
    let r = resolve options xs in
    let place = c.args.symbols.now.place in
    IfOk-weaker c.table_of.result (λ (b : List ℕ). b ≡ sym_bytes null_entry ++ flat_map (entry_bytes table.Dynsym r place c.args.texts.now) c.args.numbers.now) (λ (b : List ℕ). b ≡ dynsym_bytes r place)
    (λ b made. made ∙ dynsym_is r place c.args.texts.now c.args.numbers.now chosen noted)
    (c.table_of.ensures options xs given lawful)
