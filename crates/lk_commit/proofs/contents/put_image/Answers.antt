-- The image is written, a longer file cut, and then that is kept.
use Rattle.std.proofs.Common.{◌≡◌, sym, ◌∙◌, subst}
use Rattle.lk_report.specs.Spoken.{Rose}
use Rattle.lk_outside.specs.Disk.{stored_synced}
use Rattle.lk_commit.specs.Stages.{IsImageWritten, IsPartWritten, StaysOpen, at_seal, with_seal}
use Rattle.lk_commit.proofs.ImageWritten.{image_cut, image_synced, stays_more}
use Rattle.lk_commit.proofs.Reported.{reported_after, reported_then, stage_then, sync_call}
use Rattle.lk_commit.proofs.contents.put_image.Goals as goal

pub cut_to-requires-clause-unsealed : goal.cut_to-requires-clause-unsealed
cut_to-requires-clause-unsealed g c =
    let before = g.D.Device.disk c.args.device.now in
    reported_after (λ s t (written : IsPartWritten c.args.image.now s t). written.stays.unsealed) before.stored (g.D.Device.disk c.write_image.new.device).stored c.in-Done.ensures.1

pub returns-in-Done-cut_to : goal.returns-in-Done-cut_to
returns-in-Done-cut_to g c =
    let image = c.args.image.now in
    let before = g.D.Device.disk c.args.device.now in
    let written = g.D.Device.disk c.write_image.new.device in
    let cut = g.D.Device.disk c.cut_to.new.device in
    let after = g.D.Device.disk c.sync.new.self in
    let both = reported_then (image_cut image) before.stored written.stored cut.stored c.in-Done.ensures.1 c.in-Done-cut_to.ensures.1 in
    stage_then (λ s t. StaysOpen s t × (t.bytes ≡ with_seal (at_seal s.bytes) image)) (λ t u. u ≡ stored_synced t) (λ t u. u ≡ t) (IsImageWritten image) StaysOpen before cut after c.sync.result
    (image_synced image) (λ s t u h same. subst (StaysOpen s) (sym same) h.0) (c.in-Done-cut_to.ensures.0 ∙ c.in-Done.ensures.0) both (sync_call cut after c.sync.result c.sync.ensures)

pub returns-in-Failed-cut_to : goal.returns-in-Failed-cut_to
returns-in-Failed-cut_to g c =
    let image = c.args.image.now in
    let before = g.D.Device.disk c.args.device.now in
    let written = g.D.Device.disk c.write_image.new.device in
    let after = g.D.Device.disk c.cut_to.new.device in (
      subst (λ n. Rose n after.faults) c.in-Done.ensures.0 c.in-Failed-cut_to.ensures.0,
      reported_then (λ s t u (h : IsPartWritten image s t) stays. stays_more s t u h.stays stays) before.stored written.stored after.stored c.in-Done.ensures.1 c.in-Failed-cut_to.ensures.1,
    )
