use Rattle.std.proofs.Common.{sym, ap, ◌∙◌, ◌-◌, ◌/◌, drop, arith, length-set, drop_of_length-le, false}
use Rattle.std.specs.Fmt.{digits_onto}
use Rattle.lk_report.proofs.Digits.{onto_nothing, onto_last, onto_more, put_before}
use Rattle.lk_report.proofs.numbers.put_digits.Goals as goal

pub loop-start-init : goal.loop-start-init
loop-start-init c = (
  omega arith,
  c.told-room,
  ap (digits_onto 64 c.args.base false c.args.n) (drop_of_length-le c.args.room.now {i = 64} (omega arith)) ∙ onto_nothing _ _,
)

pub loop-start-preserved : goal.loop-start-preserved
loop-start-preserved c =
    let l = c.loop-start in
    let a = c.args in
    let written = ap (digits_onto (l.start - 1) a.base false (l.rest / a.base)) (put_before l.room l.start _ _ c.loop-start-test.true (omega arith) c.digit.ensures) in
    (omega arith, length-set l.room (l.start - 1) c.digit.result ∙ l.invariant.1, written ∙ sym (onto_more a.base l.rest l.start (drop l.start l.room) c.loop-start-test.true c.if-rest-eq0.false) ∙ l.invariant.2)

pub returns-then-rest-eq0 : goal.returns-then-rest-eq0
returns-then-rest-eq0 c =
    let l = c.loop-start in
    let a = c.args in
    let written = put_before l.room l.start _ _ c.loop-start-test.true (omega arith) c.digit.ensures in
    record { inside = omega arith; digits = written ∙ sym (onto_last a.base l.rest l.start (drop l.start l.room) c.loop-start-test.true c.if-rest-eq0.true) ∙ l.invariant.2 }
