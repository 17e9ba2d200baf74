-- The file is kept, and then opened.
use Rattle.lk_outside.specs.Disk.{stored_synced}
use Rattle.lk_commit.specs.Stages.{IsFileOpened, IsFileUnopened, IsKeptOpened, IsKeptUnopened}
use Rattle.lk_commit.proofs.FileOpened.{IsFirstKept, first_kept, first_opened, first_unopened}
use Rattle.lk_commit.proofs.Reported.{reported_map, stage_then}
use Rattle.lk_commit.proofs.opening.open_file.Goals as goal

pub returns-in-Done : goal.returns-in-Done
returns-in-Done g c =
    let before = g.D.Device.disk c.args.device.now in
    let kept = g.D.Device.disk c.sync.new.self in
    let after = g.D.Device.disk c.open_kept.new.device in
    let first = reported_map IsFirstKept (λ s. Unit {0}) stored_synced before.stored kept.stored (λ s o. tt) c.in-Done.ensures.0 (λ s h. first_kept s) in
    stage_then IsFirstKept IsKeptOpened IsKeptUnopened IsFileOpened IsFileUnopened before kept after c.open_kept.result
    first_opened first_unopened c.in-Done.ensures.1 first c.open_kept.ensures
