use Rattle.std.proofs.Common.{ap, ◌∙◌}
use Rattle.lk_model.specs.RecordsOf.{records_of}
use Rattle.lk_incr.specs.RecordParts.{RecordPartsValue}
use Rattle.lk_incr.proofs.TailsMade.{tail_linked, tail_made}
use Rattle.lk_incr.proofs.tail_parts.tail.Goals as goal

pub returns-clause-any : goal.returns-clause-any
returns-clause-any c = λ records is.
    tail_made records _ _ _ _ _ (ap (λ (p : RecordPartsValue). p.placement) (c.parts.view_is ∙ is)) (c.in_ok-inputs.ensures records is) (c.in_ok-names.ensures records) c.in_ok-made.ensures

pub returns-clause-of_link : goal.returns-clause-of_link
returns-clause-of_link c = λ r place is.
    let records = records_of r place in
    tail_linked r place _
    (tail_made records _ _ _ _ _ (ap (λ (p : RecordPartsValue). p.placement) (c.parts.view_is ∙ is)) (c.in_ok-inputs.ensures records is) (c.in_ok-names.ensures records) c.in_ok-made.ensures)
