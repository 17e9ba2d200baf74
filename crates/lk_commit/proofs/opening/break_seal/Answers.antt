-- A file without the seal is as it was, and so is one that could not be read.
use Rattle.std.proofs.Common.{◌≡◌, ℕ, List, sym, ◌∙◌, ap, subst}
use Rattle.std.specs.Prelude.{IfSome}
use Rattle.std.specs.Str.{bytes_eq}
use Rattle.lk_model.specs.Images.{seal}
use Rattle.lk_outside.specs.Disk.{Stored}
use Rattle.lk_commit.specs.Stages.{IsBroken, IsUnbroken, at_seal}
use Rattle.lk_commit.proofs.FileOpened.{broken_same, unbroken_same}
use Rattle.lk_commit.proofs.Reported.{reported_same}
use Rattle.lk_commit.proofs.opening.break_seal.Goals as goal

pub returns-else-eq : goal.returns-else-eq
returns-else-eq g c =
    let before = g.D.Device.disk c.args.device.now in
    let after = g.D.Device.disk c.read_at.new.self in (
      c.in-Done.ensures.0.1,
      reported_same IsBroken before.stored after.stored c.in-Done.ensures.0.0 (λ s o.
          let read : c.read_at.new.into ≡ at_seal s.bytes = subst (λ x. IfSome x (λ (f : Stored). c.read_at.new.into ≡ at_seal f.bytes)) o c.in-Done.ensures.1 in
          broken_same s (c.requires.kept s o, c.requires.long s o) (ap (λ (l : List ℕ). bytes_eq l seal) (sym read ∙ sym c.as_slice.ensures) ∙ sym c.if-eq.ensures)),
    )

pub returns-in-Failed : goal.returns-in-Failed
returns-in-Failed g c =
    let before = g.D.Device.disk c.args.device.now in
    let after = g.D.Device.disk c.read_at.new.self in
    (c.in-Failed.ensures.0.1, reported_same IsUnbroken before.stored after.stored c.in-Failed.ensures.0.0 (λ s o. unbroken_same s (c.requires.kept s o)))
