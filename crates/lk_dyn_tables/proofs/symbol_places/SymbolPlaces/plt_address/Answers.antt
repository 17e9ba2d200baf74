use Rattle.std.proofs.Common.{ap, ◌∙◌, unwrap_or}
use Rattle.lk_model.specs.SymbolValues.{plt_address}
use Rattle.lk_dyn.specs.LowBits.{low_64}
use Rattle.lk_dyn_tables.specs.SymbolPlaces.{entry_address}
use Rattle.lk_dyn_tables.proofs.PlacesFound.{entry_found}
use Rattle.lk_dyn_tables.proofs.symbol_places.SymbolPlaces.plt_address.Goals as goal

pub returns : goal.returns
returns c =
    c.entry_address.ensures
    ∙ ap (λ n. low_64 (entry_address c.self.inside.plt n)) c.place.ensures
    ∙ ap low_64 (entry_found c.self.inside.named.entries c.self.inside.entries c.self.inside.plt c.self.inside.tls_start c.self.inside.rows c.self.invariant c.args.name)
    ∙ ap (λ place. low_64 (unwrap_or (plt_address place c.args.name) 0)) c.self.view_is
