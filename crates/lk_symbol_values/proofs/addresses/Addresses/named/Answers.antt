use Rattle.std.proofs.Common.{ap, ◌∙◌}
use Rattle.std.specs.Option.{option_map}
use Rattle.lk_model.specs.Keys.{piece_row_of}
use Rattle.lk_symbol_values.specs.Addresses.{address_of_piece}
use Rattle.lk_symbol_values.specs.PieceAddresses.{piece_of}
use Rattle.lk_symbol_values.proofs.Placed.{piece_found}
use Rattle.lk_symbol_values.proofs.addresses.Addresses.named.Goals as goal

pub returns : goal.returns
returns c =
    c.address_of.ensures
    ∙ piece_found c.self.inside.pieces.entries c.self.inside.values.entries c.self.inside.threads.entries c.self.inside.entries.entries c.self.inside.tables c.self.inside.rows c.self.invariant c.args.key
    ∙ ap (λ place. option_map address_of_piece (piece_row_of place (piece_of c.args.key))) c.self.view_is
