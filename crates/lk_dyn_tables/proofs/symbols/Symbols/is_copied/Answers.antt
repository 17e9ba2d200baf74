use Rattle.std.proofs.Common.{ap, ◌∙◌, nat_eq}
use Rattle.std.specs.Cmp.{nat_eq_equiv}
use Rattle.std.specs.Prelude.{ℕ, List}
use Rattle.lk_model.specs.Numbered.{is_number_in}
use Rattle.lk_resolve.proofs.ListSets.{any-distinct}
use Rattle.lk_dyn_tables.specs.SymbolTables.{SymbolInputs}
use Rattle.lk_dyn_tables.proofs.symbols.Symbols.is_copied.Goals as goal

pub returns : goal.returns
returns c =
    c.has_number.ensures
    ∙ ap (λ (l : List ℕ). is_number_in l c.args.number) c.self.invariant.copied_are
    ∙ any-distinct nat_eq nat_eq_equiv c.args.number c.self.inside.needs.now.copies
    ∙ ap (λ (s : SymbolInputs). is_number_in s.needs.copies c.args.number) c.self.view_is
