use Rattle.std.proofs.Common.{◌<◌, ◌^◌, ℕ, subst, sym, arith}
use Rattle.std.specs.Option.{SomeIff}
use Rattle.lk_freelist.proofs.Steps.{rounded_here, rounded_up}
use Rattle.lk_freelist.proofs.placing.round_up.Goals as goal

pub returns-then-past-eq0 : goal.returns-then-past-eq0
returns-then-past-eq0 c =
    let here = rounded_here c.args.n c.args.align c.requires c.if-past-eq0.true in
    (omega (arith, here), sym here)

pub returns : goal.returns
returns c =
    let up = rounded_up c.args.n c.args.align c.requires (omega arith) in
    subst (λ (m : ℕ). SomeIff c.checked_add.result (m < 2 ^ 64) m) (sym up) c.checked_add.ensures
