use Rattle.std.proofs.Common.{ap, ◌∙◌}
use Rattle.lk_model.specs.Keys.{piece_row_of}
use Rattle.lk_dyn_tables.specs.NamedRows.{piece_of}
use Rattle.lk_dyn_tables.proofs.PlacesFound.{named_found}
use Rattle.lk_dyn_tables.proofs.symbol_places.SymbolPlaces.named_row.Goals as goal

pub returns : goal.returns
returns c =
    c.row_at.ensures
    ∙ named_found c.self.inside.named.entries c.self.inside.rows c.self.invariant.rows_found c.args.key
    ∙ ap (λ place. piece_row_of place (piece_of c.args.key)) c.self.view_is
