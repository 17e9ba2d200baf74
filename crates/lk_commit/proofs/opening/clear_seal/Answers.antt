-- Zeros are written over the seal, and then that is kept.
use Rattle.std.proofs.Common.{◌≡◌}
use Rattle.lk_outside.specs.Disk.{stored_synced}
use Rattle.lk_commit.specs.Stages.{IsBroken, IsKept, IsUnbroken}
use Rattle.lk_commit.proofs.FileOpened.{IsCleared, IsKeptLong, IsKeptSealed, clear_failed, clear_not_synced, clear_synced, seal_cleared}
use Rattle.lk_commit.proofs.Reported.{both_known, stage_then, sync_call, write_done, write_failed}
use Rattle.lk_commit.proofs.SealPlaces.{zeros}
use Rattle.lk_commit.proofs.opening.clear_seal.Goals as goal

pub returns-in-Done : goal.returns-in-Done
returns-in-Done g c =
    let before = g.D.Device.disk c.args.device.now in
    let between = g.D.Device.disk c.write_at.new.self in
    let after = g.D.Device.disk c.sync.new.self in
    let known = both_known IsKeptLong _ before.stored (both_known IsKept _ before.stored c.requires.kept c.requires.long) c.requires.sealed in
    let cleared = write_done IsCleared IsKeptSealed 4088 (zeros 8) before between known seal_cleared c.in-Done.ensures in
    stage_then IsCleared (λ t u. u ≡ stored_synced t) (λ t u. u ≡ t) IsBroken IsUnbroken before between after c.sync.result
    clear_synced clear_not_synced c.in-Done.ensures.1 cleared (sync_call between after c.sync.result c.sync.ensures)

pub returns-in-Failed : goal.returns-in-Failed
returns-in-Failed g c =
    let before = g.D.Device.disk c.args.device.now in
    let known = both_known IsKeptLong _ before.stored (both_known IsKept _ before.stored c.requires.kept c.requires.long) c.requires.sealed in
    (c.in-Failed.ensures.1, write_failed IsUnbroken IsKeptSealed 4088 (zeros 8) before (g.D.Device.disk c.write_at.new.self) known clear_failed c.in-Failed.ensures)
