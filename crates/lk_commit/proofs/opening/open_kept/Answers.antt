-- A short file becomes zeros; one whose length is not known is as it was.
use Rattle.std.proofs.Common.{◌≡◌, ◌<◌, length, sym, ◌∙◌, subst, arith}
use Rattle.std.specs.Prelude.{IfSome}
use Rattle.std.specs.Option.{ForSome}
use Rattle.lk_outside.specs.Disk.{Stored}
use Rattle.lk_commit.specs.Stages.{IsKeptOpened, IsKeptUnopened, IsLeftShort, IsMadeZeros}
use Rattle.lk_commit.proofs.FileOpened.{opened_zeros, unbroken_same, unopened_zeros}
use Rattle.lk_commit.proofs.Reported.{reported_same, same_stage, stage_given}
use Rattle.lk_commit.proofs.opening.open_kept.Goals as goal

pub returns-then-length : goal.returns-then-length
returns-then-length g c =
    let before = g.D.Device.disk c.args.device.now in
    let asked = g.D.Device.disk c.length.new.self in
    let after = g.D.Device.disk c.make_zeros.new.device in
    let short : ForSome asked.stored (λ s. length s.bytes < 4096) = λ s o.
    let size : c.in-Known.length ≡ length s.bytes = subst (λ x. IfSome x (λ (f : Stored). c.in-Known.length ≡ length f.bytes)) (sym c.in-Known.ensures.0.0 ∙ o) c.in-Known.ensures.1 in
    let less = c.if-length.true in
    omega (arith, size, less) in
    same_stage IsKeptOpened IsKeptUnopened before asked after c.make_zeros.result c.in-Known.ensures.0.0 c.in-Known.ensures.0.1
    (stage_given IsMadeZeros IsLeftShort IsKeptOpened IsKeptUnopened (λ s. length s.bytes < 4096) asked after c.make_zeros.result short opened_zeros (λ s t less left. unopened_zeros s t left) c.make_zeros.ensures)

pub returns-in-Failed : goal.returns-in-Failed
returns-in-Failed g c =
    let before = g.D.Device.disk c.args.device.now in
    let after = g.D.Device.disk c.length.new.self in
    (c.in-Failed.ensures.1, reported_same IsKeptUnopened before.stored after.stored c.in-Failed.ensures.0 (λ s o. let same = unbroken_same s (c.requires s o) in record { moments = same.moments; file = same.file }))
