use Rattle.std.proofs.Common.{◌≡◌, ◌++◌, drop}
use Rattle.lk_model.specs.Views.{Resolved}
use Rattle.lk_relocate.specs.Faults.{overflows}
use Rattle.lk_relocate.specs.ObjectSections.{IsSectionOf, references_among}
use Rattle.lk_relocate.proofs.field_filling.check_fields.Given as goal

abbrev pub invariant-loop-k : goal.invariant-loop-k
invariant-loop-k l =
    (r : Resolved) → IsSectionOf l.section r
    → l.faults ++ overflows r l.section.values.now.place (references_among r l.section (drop l.k l.relas)) ≡ l.initial.faults ++ overflows r l.section.values.now.place (references_among r l.section l.relas)
