use Rattle.std.proofs.Common.{ap, ◌∙◌}
use Rattle.std.specs.Option.{option_map}
use Rattle.lk_model.specs.SymbolValues.{plt_address}
use Rattle.lk_symbol_values.specs.Addresses.{entry_address}
use Rattle.lk_symbol_values.specs.Sections.{low_64}
use Rattle.lk_symbol_values.proofs.Placed.{entry_found}
use Rattle.lk_symbol_values.proofs.addresses.Addresses.plt_address.Goals as goal

pub returns : goal.returns
returns c =
    c.entry_address.ensures
    ∙ ap (entry_address c.self.inside.tables.plt) c.entry_of.ensures
    ∙ entry_found c.self.inside.pieces.entries c.self.inside.values.entries c.self.inside.threads.entries c.self.inside.entries.entries c.self.inside.tables c.self.inside.rows c.self.invariant c.args.name
    ∙ ap (λ place. option_map low_64 (plt_address place c.args.name)) c.self.view_is
