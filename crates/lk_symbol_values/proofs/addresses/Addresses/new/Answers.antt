use Rattle.std.proofs.Common.{ap, sym, subst, ◌∙◌, ◌==◌, true, false}
use Rattle.lk_model.specs.declared.layouts.Placement.{Placement}
use Rattle.lk_symbol_values.specs.Addresses.{IsIndexed}
use Rattle.lk_symbol_values.specs.PieceAddresses.{address_in}
use Rattle.lk_symbol_values.specs.SlotNumbers.{is_slot_with, place_from}
use Rattle.lk_symbol_values.proofs.addresses.Addresses.new.Goals as goal

pub invariant_of-result : goal.invariant_of-result
invariant_of-result c =
    subst (λ (p : Placement). IsIndexed c.in_ok-pieces.pieces.entries c.in_ok-values.values.entries c.in_ok-threads.threads.entries c.in_ok-entries.entries.entries c.tables_of-tables.result p)
    (sym c.in_ok-rows.ensures)
    (record {
      pieces_found = λ k. c.in_ok-pieces.ensures k ∙ ap (λ rows. address_in rows k) c.as_slice.ensures;
      values_found = λ k. c.in_ok-values.ensures k ∙ ap (λ slots. place_from (is_slot_with false k) 0 slots) c.as_slice-2.ensures;
      threads_found = λ k. c.in_ok-threads.ensures k ∙ ap (λ slots. place_from (is_slot_with true k) 0 slots) c.as_slice-3.ensures;
      entries_found = λ n. c.in_ok-entries.ensures n ∙ ap (λ names. place_from (λ m. m == n) 0 names) c.as_slice-4.ensures;
      tables_are = c.tables_of-tables.ensures;
    })
