use Rattle.lk_incr.proofs.TailsMade.{sections_made}
use Rattle.lk_incr.proofs.inputs_section.write_inputs.Goals as goal

pub returns : goal.returns
returns c = λ records is.
    sections_made c.args.parts.now records _ _ _ is c.in_ok-table.ensures c.in_ok-inputs.ensures c.in_ok-texts.ensures
