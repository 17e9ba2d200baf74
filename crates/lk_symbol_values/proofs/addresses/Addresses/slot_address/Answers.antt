use Rattle.std.proofs.Common.{ap, ◌∙◌}
use Rattle.lk_symbol_values.specs.Addresses.{slot_at, tables_of}
use Rattle.lk_symbol_values.specs.declared.addresses.Tables.{Tables}
use Rattle.lk_symbol_values.proofs.Placed.{slot_placed}
use Rattle.lk_symbol_values.proofs.addresses.Addresses.slot_address.Goals as goal

pub returns : goal.returns
returns c =
    c.slot_at.ensures
    ∙ ap (slot_at c.self.inside.tables.got) c.slot_number.ensures
    ∙ slot_placed c.self.inside.tables.got c.args.self.now (ap (λ (t : Tables). t.got) (c.self.invariant.tables_are ∙ ap tables_of c.self.view_is)) c.args.key
