use Rattle.std.proofs.Common.{ap, ◌∙◌, ℕ, List, [], ◌∷◌, ◌++◌}
use Rattle.lk_report.specs.declared.faults.Fault.{Fault}
use Rattle.lk_relocate.specs.Faults.{overflow_at}
use Rattle.lk_relocate.proofs.NumbersReported.{path_reported}
use Rattle.lk_relocate.proofs.field_filling.report_overflow.Goals as goal

pub returns : goal.returns
returns c = λ r is.
    let s = c.args.section.now in
    let numbers = c.args.numbers in
    c.in_ok-push.ensures.pushed
    ∙ ap (λ (f : Fault). c.args.faults.now ++ f ∷ []) c.in_ok-fault.ensures
    ∙ ap (λ (path : List ℕ). c.args.faults.now ++ overflow_at path s.section c.args.rela.now.r_offset numbers.p numbers.s numbers.a c.args.value ∷ []) (path_reported s.values.now r is.link s.input)
