use Rattle.lk_incr.proofs.Spelling.{input_put, inputs_put}
use Rattle.lk_incr.proofs.putting.put_inputs.Goals as goal

pub loop-number-preserved : goal.loop-number-preserved
loop-number-preserved c =
    input_put _ c.args.placed.now c.args.inputs.now c.loop-number.number c.index-inputs-number.result _ _ _ c.loop-number-test.true c.index-inputs-number.is
    c.loop-number.invariant c.in_ok-put_input.ensures

pub returns : goal.returns
returns c = inputs_put _ c.args.placed.now c.args.inputs.now c.loop-number.number _ _ c.loop-number-test.false c.loop-number.invariant
