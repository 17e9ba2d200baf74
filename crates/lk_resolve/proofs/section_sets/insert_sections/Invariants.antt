use Rattle.std.proofs.Common.{◌≡◌, nat_eq, fold, drop}
use Rattle.lk_model.specs.Numbered.{with_new}
use Rattle.lk_resolve.proofs.section_sets.insert_sections.Given as goal

abbrev pub invariant-loop-section : goal.invariant-loop-section
invariant-loop-section l = fold (with_new nat_eq) l.sections.keys (drop l.section-index l.more) ≡ fold (with_new nat_eq) l.initial.sections.keys l.more
