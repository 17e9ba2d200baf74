use Rattle.std.proofs.Common.{ap}
use Rattle.lk_symtab.proofs.Entries.{written}
use Rattle.lk_symtab.specs.NameRows.{NameRow, made_row}
use Rattle.lk_symtab.proofs.name_table.NameTable.make.Goals as goal

-- the row with the number is made
pub invariant_of-self : goal.invariant_of-self
invariant_of-self c =
    (written made_row c.self.inside.rows.entries c.args.number c.pair_mut-row.result.0.now c.pair_mut-row.result.1.now c.make.new.self c.self.invariant c.pair_mut-row.ensures.value c.make.ensures (ap (λ (x : NameRow). x.contributions.name) c.make.ensures)).table

pub returns : goal.returns
returns c =
    rw (← c.self.view_is) (written made_row c.self.inside.rows.entries c.args.number c.pair_mut-row.result.0.now c.pair_mut-row.result.1.now c.make.new.self c.self.invariant c.pair_mut-row.ensures.value c.make.ensures (ap (λ (x : NameRow). x.contributions.name) c.make.ensures)).rows
