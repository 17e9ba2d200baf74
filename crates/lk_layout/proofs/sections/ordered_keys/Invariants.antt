use Rattle.std.proofs.Common.{◌≡◌, ◌++◌, ℕ, map, drop}
use Rattle.lk_model.specs.declared.layouts.SectionKey.{SectionKey}
use Rattle.lk_layout.specs.Grouping.{keys_in}
use Rattle.lk_dyn_sizes.specs.SizeRows.{as_pairs}
use Rattle.lk_layout.proofs.sections.ordered_keys.Given as goal

abbrev pub invariant-loop-table : goal.invariant-loop-table
invariant-loop-table l =
    l.keys ++ map (λ (table : SectionKey × ℕ). table.0) (as_pairs (drop l.table-index l.tables))
    ≡ keys_in l.kept.sections ++ map (λ (table : SectionKey × ℕ). table.0) (as_pairs l.tables)
