-- The three stages one after another.
use Rattle.std.proofs.Common.{◌∙◌, subst}
use Rattle.lk_report.specs.Spoken.{Rose}
use Rattle.lk_commit.specs.CrashStates.{IsFinished, IsStopped, sealed}
use Rattle.lk_commit.specs.Stages.{IsFileOpened, IsImageWritten, IsSealed, IsUnfinished}
use Rattle.lk_commit.proofs.Committed.{IsPut, finished, is_put, not_opened, not_put, unfinished}
use Rattle.lk_commit.proofs.CrashesLeave.{unsealed_kept}
use Rattle.lk_commit.proofs.Reported.{reported_after, reported_map2, reported_then, stage_then}
use Rattle.lk_commit.proofs.full.commit_full.Goals as goal

pub put_image-requires-clause-unsealed : goal.put_image-requires-clause-unsealed
put_image-requires-clause-unsealed g c =
    let before = g.D.Device.disk c.args.device.now in
    reported_after (λ s t (opened : IsFileOpened s t). unsealed_kept t opened.kept opened.file) before.stored (g.D.Device.disk c.open_file.new.device).stored c.in-Done.ensures.1

pub put_seal-requires-clause-no_seal : goal.put_seal-requires-clause-no_seal
put_seal-requires-clause-no_seal g c =
    let opened = g.D.Device.disk c.open_file.new.device in
    reported_after (λ s t (written : IsImageWritten c.args.image.now s t). written.stays.unsealed.file) opened.stored (g.D.Device.disk c.put_image.new.device).stored c.in-Done-put_image.ensures.1

pub returns-in-Done-put_image : goal.returns-in-Done-put_image
returns-in-Done-put_image g c =
    let image = c.args.image.now in
    let before = g.D.Device.disk c.args.device.now in
    let opened = g.D.Device.disk c.open_file.new.device in
    let written = g.D.Device.disk c.put_image.new.device in
    let after = g.D.Device.disk c.put_seal.new.device in
    let put = reported_then (λ s t u a b. is_put image s t u c.requires a b) before.stored opened.stored written.stored c.in-Done.ensures.1 c.in-Done-put_image.ensures.1 in
    stage_then (IsPut (sealed image)) IsSealed IsUnfinished (IsFinished (sealed image)) (IsStopped (sealed image)) before written after c.put_seal.result
    (finished (sealed image)) (unfinished (sealed image)) (c.in-Done-put_image.ensures.0 ∙ c.in-Done.ensures.0) put c.put_seal.ensures

pub returns-in-Failed-put_image : goal.returns-in-Failed-put_image
returns-in-Failed-put_image g c =
    let image = c.args.image.now in
    let before = g.D.Device.disk c.args.device.now in
    let opened = g.D.Device.disk c.open_file.new.device in
    let after = g.D.Device.disk c.put_image.new.device in (
      subst (λ n. Rose n after.faults) c.in-Done.ensures.0 c.in-Failed-put_image.ensures.0,
      reported_then (not_put (sealed image)) before.stored opened.stored after.stored c.in-Done.ensures.1 c.in-Failed-put_image.ensures.1,
    )

pub returns-in-Failed : goal.returns-in-Failed
returns-in-Failed g c =
    let before = g.D.Device.disk c.args.device.now in
    let after = g.D.Device.disk c.open_file.new.device in
    (c.in-Failed.ensures.0, reported_map2 (not_opened (sealed c.args.image.now)) before.stored after.stored c.in-Failed.ensures.1)
