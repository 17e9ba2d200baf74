use Rattle.lk_inputs.specs.Named.{word_seen}
use Rattle.lk_inputs.proofs.PassesReported.{word_found, word_missing}
use Rattle.lk_inputs.proofs.word_look_ups.look_up.Goals as goal

pub returns-in-Some-clause-reported : goal.returns-in-Some-clause-reported
returns-in-Some-clause-reported g c = λ there e.
    word_found c.args.command.now there (word_seen c.args.row) c.in_ok-places.places c.as_slice.result.now c.in_ok-place.field-0 c.in-Some.place c.name_at.result c.in_ok-places.ensures c.as_slice.ensures (c.in_ok-place.ensures.reported there e) c.in-Some.is c.name_at.ensures

pub returns-clause-reported : goal.returns-clause-reported
returns-clause-reported g c = λ there e.
    word_missing c.args.command.now there (word_seen c.args.row) c.in_ok-places.places c.as_slice.result.now c.in_ok-place.field-0 c.in_ok-places.ensures c.as_slice.ensures (c.in_ok-place.ensures.reported there e) c.in-None.is
