use Rattle.std.proofs.Common.{ap, sym, subst, ◌∙◌}
use Rattle.lk_model.specs.declared.layouts.Placement.{Placement}
use Rattle.lk_dyn_tables.specs.NamedRows.{row_in}
use Rattle.lk_dyn_tables.specs.SymbolPlaces.{IsIndexed}
use Rattle.lk_dyn_tables.proofs.symbol_places.SymbolPlaces.new.Goals as goal

pub invariant_of-result : goal.invariant_of-result
invariant_of-result c =
    subst (λ (p : Placement). IsIndexed c.in_ok-named.named.entries c.in_ok-entries.entries c.section_address-plt.result c.tls_start-tls_start.result p)
    (sym c.in_ok-rows.ensures)
    (record {
      rows_found = λ k. c.in_ok-named.ensures k ∙ ap (λ rows. row_in rows k) c.as_slice.ensures;
      entries_are = c.in_ok-entries.ensures ∙ c.as_slice-2.ensures;
      plt_is = c.section_address-plt.ensures;
      tls_is = c.tls_start-tls_start.ensures;
    })
