-- The seal is written, and then that is kept.
use Rattle.std.proofs.Common.{◌≡◌}
use Rattle.lk_model.specs.Images.{seal}
use Rattle.lk_outside.specs.Disk.{stored_synced}
use Rattle.lk_commit.specs.Stages.{IsKept, IsSealed, IsUnfinished}
use Rattle.lk_commit.proofs.Reported.{both_known, stage_then, sync_call, write_done, write_failed}
use Rattle.lk_commit.proofs.SealWritten.{IsReady, IsSealPut, seal_failed, seal_not_synced, seal_put, seal_synced}
use Rattle.lk_commit.proofs.sealing.put_seal.Goals as goal

pub returns-in-Done : goal.returns-in-Done
returns-in-Done g c =
    let before = g.D.Device.disk c.args.device.now in
    let between = g.D.Device.disk c.write_at.new.self in
    let after = g.D.Device.disk c.sync.new.self in
    let put = write_done IsSealPut IsReady 4088 seal before between (both_known IsKept _ before.stored c.requires.kept c.requires.no_seal) seal_put c.in-Done.ensures in
    stage_then IsSealPut (λ t u. u ≡ stored_synced t) (λ t u. u ≡ t) IsSealed IsUnfinished before between after c.sync.result
    seal_synced seal_not_synced c.in-Done.ensures.1 put (sync_call between after c.sync.result c.sync.ensures)

pub returns-in-Failed : goal.returns-in-Failed
returns-in-Failed g c =
    let before = g.D.Device.disk c.args.device.now in
    (c.in-Failed.ensures.1, write_failed IsUnfinished IsReady 4088 seal before (g.D.Device.disk c.write_at.new.self) (both_known IsKept _ before.stored c.requires.kept c.requires.no_seal) seal_failed c.in-Failed.ensures)
