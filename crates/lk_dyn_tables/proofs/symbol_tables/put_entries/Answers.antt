use Rattle.std.proofs.Common.{◌∙◌, ap, refl}
use Rattle.std.specs.Prelude.{ℕ, List, ◌++◌, flat_map, get_or}
use Rattle.lk_model.specs.Resolving.{resolve}
use Rattle.lk_dyn.proofs.PutInTurn.{listed_end, listed_step}
use Rattle.lk_dyn_tables.specs.SymbolTables.{entry_bytes}
use Rattle.lk_dyn_tables.proofs.symbol_tables.put_entries.Goals as goal

pub loop-number-preserved : goal.loop-number-preserved
loop-number-preserved c = λ options xs given lawful.
    let entries = entry_bytes c.args.table (resolve options xs) c.args.symbols.now.place c.args.texts.now in
    listed_step
    entries
    0
    c.args.numbers.now
    c.loop-number.out.items
    c.put_entry.new.out.items
    (c.args.out.now.items ++ flat_map entries c.args.numbers.now)
    c.loop-number.number-index
    (get_or c.args.numbers.now c.loop-number.number-index 0)
    c.loop-number-test.true
    refl
    (c.in_ok-put_entry.ensures ∙ ap (λ (l : List ℕ). c.loop-number.out.items ++ l) (c.entry.ensures options xs given lawful))
    (c.loop-number.invariant options xs given lawful)

pub returns : goal.returns
returns c = λ options xs given lawful.
    let entries = entry_bytes c.args.table (resolve options xs) c.args.symbols.now.place c.args.texts.now in
    listed_end entries c.args.numbers.now c.loop-number.out.items (c.args.out.now.items ++ flat_map entries c.args.numbers.now) c.loop-number.number-index c.loop-number-test.false (c.loop-number.invariant options xs given lawful)
