use Rattle.std.proofs.Common.{◌≡◌, ◌∙◌, ap}
use Rattle.std.specs.Prelude.{ℕ, List, ◌++◌, flat_map}
use Rattle.std.proofs.lemmas.Result.{IfOk-weaker}
use Rattle.lk_elf.specs.Records.{sym_bytes}
use Rattle.lk_model.specs.Resolving.{resolve}
use Rattle.lk_model.specs.SymbolEntries.{null_entry}
use Rattle.lk_dyn_tables.specs.SymbolTables.{entry_bytes}
use Rattle.lk_dyn_tables.proofs.symbol_tables.table_of.Goals as goal

pub returns : goal.returns
returns c = λ options xs given lawful.
    let entries : List ℕ = flat_map (entry_bytes c.args.table (resolve options xs) c.args.symbols.now.place c.args.texts.now) c.args.numbers.now in
    IfOk-weaker c.from_vec.result (λ b. b ≡ c.put_entries.new.out.items) (λ b. b ≡ sym_bytes null_entry ++ entries)
    (λ b made. made
    ∙ c.in_ok-put_entries.ensures options xs given lawful
    ∙ ap (λ (l : List ℕ). l ++ entries) (c.in_ok-put_entry.ensures ∙ ap (λ (l : List ℕ). l ++ sym_bytes null_entry) c.new-out.ensures.items))
    c.from_vec.ensures
