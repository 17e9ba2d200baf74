use Rattle.std.proofs.Common.{refl, sym}
use Rattle.lk_symtab.proofs.Entries.{found_adds}
use Rattle.lk_symtab.proofs.name_table.NameTable.add.Goals as goal

-- the row with the number of the name is the one of the name
pub returns-in-Some : goal.returns-in-Some
returns-in-Some c =
    found_adds c.self.inside.rows.entries c.args.self.now c.add_again.new.self c.args.name.now c.in-Some.n c.args.symbol c.args.symbol c.add_again.result c.self.invariant c.self.view_is (sym c.in-Some.ensures.index) refl c.add_again.ensures
