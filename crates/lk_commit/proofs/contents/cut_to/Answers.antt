-- A longer file is cut, and any other is as it was.
use Rattle.std.proofs.Common.{◌≡◌, length, sym, ◌∙◌, subst, arith}
use Rattle.std.specs.Prelude.{IfSome}
use Rattle.lk_outside.specs.Disk.{Stored}
use Rattle.lk_commit.specs.Stages.{IsCutTo, IsUnsealed, StaysOpen}
use Rattle.lk_commit.proofs.CrashesLeave.{stays_none}
use Rattle.lk_commit.proofs.ImageWritten.{cut_done, cut_stays, not_longer}
use Rattle.lk_commit.proofs.Reported.{cut_stage, reported_same, same_stage}
use Rattle.lk_commit.proofs.contents.cut_to.Goals as goal

pub returns-then-now-length : goal.returns-then-now-length
returns-then-now-length g c =
    let before = g.D.Device.disk c.args.device.now in
    let asked = g.D.Device.disk c.length.new.self in
    let after = g.D.Device.disk c.cut.new.self in
    same_stage (IsCutTo c.args.length) StaysOpen before asked after c.cut.result c.in-Known.ensures.0.0 c.in-Known.ensures.0.1
    (cut_stage (IsCutTo c.args.length) StaysOpen IsUnsealed c.args.length asked after c.cut.result (λ s o. c.requires.unsealed s (sym c.in-Known.ensures.0.0 ∙ o))
    (λ s unsealed. cut_done c.args.length s c.requires.long unsealed)
    (λ s unsealed. stays_none s unsealed)
    (λ s unsealed. cut_stays c.args.length s (omega (arith, c.requires.long)) unsealed)
    c.cut.ensures)

pub returns-else-now-length : goal.returns-else-now-length
returns-else-now-length g c =
    let before = g.D.Device.disk c.args.device.now in
    let after = g.D.Device.disk c.length.new.self in (
      c.in-Known.ensures.0.1,
      reported_same (IsCutTo c.args.length) before.stored after.stored c.in-Known.ensures.0.0 (λ s o.
          let size : c.in-Known.now ≡ length s.bytes = subst (λ x. IfSome x (λ (f : Stored). c.in-Known.now ≡ length f.bytes)) o c.in-Known.ensures.1 in
          let least = c.if-now-length.false in
          not_longer c.args.length s (omega (arith, size, least)) (c.requires.unsealed s o)),
    )

pub returns-in-Failed : goal.returns-in-Failed
returns-in-Failed g c =
    let before = g.D.Device.disk c.args.device.now in
    let after = g.D.Device.disk c.length.new.self in
    (c.in-Failed.ensures.1, reported_same StaysOpen before.stored after.stored c.in-Failed.ensures.0 (λ s o. stays_none s (c.requires.unsealed s o)))
