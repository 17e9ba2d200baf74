use Rattle.std.proofs.Common.{sym, subst, ◌-◌, ◌^◌, ◌<◌, List, length}
use Rattle.lk_symtab.specs.NameRows.{NameRow}
use Rattle.lk_symtab.proofs.SymbolsNoted.{one_noted, still_noted}
use Rattle.lk_symtab.proofs.symbol_table.SymTab.add_symbol.Goals as goal

-- the name of the symbol is noted
pub invariant_of-self-2 : goal.invariant_of-self-2
invariant_of-self-2 c =
    one_noted c.self.inside.table c.add.new.self c.args.name.now c.args.contribution c.in_ok-number.number c.make_room.new.self c.note.new.self
    (still_noted c.self.inside.table c.self.inside.symbols c.make_room.new.self c.self.invariant c.make_room.ensures.same)
    (subst (λ (l : List NameRow). length l < 2 ^ 32 - 1) (sym c.self.view_is) c.requires)
    c.note.ensures c.in_ok-number.ensures
