use Rattle.lk_symtab.proofs.Entries.{added_last}
use Rattle.lk_symtab.proofs.name_table.NameTable.add_first.Goals as goal

-- the new row is last
pub invariant_of-self-2 : goal.invariant_of-self-2
invariant_of-self-2 c =
    (added_last c.self.inside.rows.entries c.insert_full.new.self.entries c.args.self.now c.in_ok-key.key c.args.name.now c.in_ok-row.row c.in-Ok.number c.args.symbol c.self.invariant c.self.view_is c.requires.few c.requires.absent c.in_ok-key.ensures c.in_ok-row.ensures c.in-Ok.ensures.entries c.in-Ok.ensures.index).table

pub returns : goal.returns
returns c =
    let done = added_last c.self.inside.rows.entries c.insert_full.new.self.entries c.args.self.now c.in_ok-key.key c.args.name.now c.in_ok-row.row c.in-Ok.number c.args.symbol c.self.invariant c.self.view_is c.requires.few c.requires.absent c.in_ok-key.ensures c.in_ok-row.ensures c.in-Ok.ensures.entries c.in-Ok.ensures.index in
    (done.number_is, done.rows_are)
