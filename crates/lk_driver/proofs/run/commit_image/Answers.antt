-- An image that has the seal is itself what a commit leaves.
use Rattle.std.proofs.Common.{◌≡◌, ℕ, List, ◌∙◌, ap, subst}
use Rattle.lk_outside.specs.Disk.{Stored}
use Rattle.lk_commit.specs.CrashStates.{IsFinished, IsStopped, WhereReported, sealed}
use Rattle.lk_commit.proofs.SealPlaces.{sealed_same}
use Rattle.lk_driver.proofs.run.commit_image.Goals as goal

pub returns-in-Done : goal.returns-in-Done
returns-in-Done g c =
    let same : sealed c.as_slice.result.now ≡ c.args.image.now = ap sealed c.as_slice.ensures ∙ sealed_same c.args.image.now c.requires.1 in
    let before = (g.D.Device.disk c.args.out.now).stored in
    let after = (g.D.Device.disk c.commit_full.new.device).stored in
    (c.in-Done.ensures.0, subst (λ (image : List ℕ). WhereReported (λ (s t : Stored). IsFinished image s t) before after) same c.in-Done.ensures.1)

pub returns-in-Failed : goal.returns-in-Failed
returns-in-Failed g c =
    let same : sealed c.as_slice.result.now ≡ c.args.image.now = ap sealed c.as_slice.ensures ∙ sealed_same c.args.image.now c.requires.1 in
    let before = (g.D.Device.disk c.args.out.now).stored in
    let after = (g.D.Device.disk c.commit_full.new.device).stored in
    (c.in-Failed.ensures.0, subst (λ (image : List ℕ). WhereReported (λ (s t : Stored). IsStopped image s t) before after) same c.in-Failed.ensures.1)
