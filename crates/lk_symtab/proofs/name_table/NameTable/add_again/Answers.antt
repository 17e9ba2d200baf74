use Rattle.std.proofs.Common.{refl, ap, ◌∙◌}
use Rattle.std.specs.Map.{values_of}
use Rattle.lk_symtab.specs.NameRows.{NameRow, row_with}
use Rattle.lk_symtab.proofs.Entries.{kept_adds, written, written_again}
use Rattle.lk_symtab.proofs.name_table.NameTable.add_again.Goals as goal

-- after out of memory the row is as it was
pub invariant_of-self : goal.invariant_of-self
invariant_of-self c =
    rw (written_again c.self.inside.rows.entries c.args.n c.pair_mut-row.result.0.now c.pair_mut-row.result.1.now c.push.new.self c.pair_mut-row.ensures.value c.in_err-push.ensures.unchanged) c.self.invariant

pub returns-in_err-push : goal.returns-in_err-push
returns-in_err-push c =
    kept_adds c.args.self.now _ c.args.n c.args.symbol c.from_residual.result c.from_residual.ensures.0
    (ap values_of (written_again c.self.inside.rows.entries c.args.n c.pair_mut-row.result.0.now c.pair_mut-row.result.1.now c.push.new.self c.pair_mut-row.ensures.value c.in_err-push.ensures.unchanged) ∙ c.self.view_is)

-- else it has one more symbol
pub invariant_of-self-2 : goal.invariant_of-self-2
invariant_of-self-2 c =
    (written (λ (row : NameRow). row_with row c.args.symbol) c.self.inside.rows.entries c.args.n c.pair_mut-row.result.0.now c.pair_mut-row.result.1.now c.push.new.self c.self.invariant c.pair_mut-row.ensures.value c.in_ok-push.ensures.pushed (ap (λ (x : NameRow). x.contributions.name) c.in_ok-push.ensures.pushed)).table

pub returns : goal.returns
returns c = (
  refl,
  rw (← c.self.view_is) (written (λ (row : NameRow). row_with row c.args.symbol) c.self.inside.rows.entries c.args.n c.pair_mut-row.result.0.now c.pair_mut-row.result.1.now c.push.new.self c.self.invariant c.pair_mut-row.ensures.value c.in_ok-push.ensures.pushed (ap (λ (x : NameRow). x.contributions.name) c.in_ok-push.ensures.pushed)).rows,
)
