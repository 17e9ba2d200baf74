-- The file is cut, zeros are written, and then that is kept.
use Rattle.std.proofs.Common.{◌≡◌, [], ◌∙◌, subst}
use Rattle.lk_report.specs.Spoken.{Rose}
use Rattle.lk_outside.specs.Disk.{stored_cut, stored_synced}
use Rattle.lk_commit.specs.Stages.{IsKept, IsLeftShort, IsMadeZeros}
use Rattle.lk_commit.proofs.FileOpened.{HasBytes, IsKeptShort, short_cut, short_late, short_same, zeros_failed, zeros_not_synced, zeros_synced, zeros_written_by}
use Rattle.lk_commit.proofs.Reported.{both_known, reported_map, reported_then, stage_then, sync_call, write_call, write_refused, cut_refused}
use Rattle.lk_commit.proofs.SealPlaces.{zeros}
use Rattle.lk_commit.proofs.opening.make_zeros.Goals as goal

pub returns-in-Done-write_at : goal.returns-in-Done-write_at
returns-in-Done-write_at g c =
    let before = g.D.Device.disk c.args.device.now in
    let cut = g.D.Device.disk c.cut.new.self in
    let between = g.D.Device.disk c.write_at.new.self in
    let after = g.D.Device.disk c.sync.new.self in
    let known = both_known IsKept _ before.stored c.requires.kept c.requires.short in
    let emptied = reported_map (HasBytes []) IsKeptShort (stored_cut 0) before.stored cut.stored known c.in-Done.ensures.0 short_cut in
    let put = reported_then zeros_written_by before.stored cut.stored between.stored emptied (write_call 0 (zeros 4096) cut between c.in-Done-write_at.ensures) in
    stage_then (HasBytes (zeros 4096)) (λ t u. u ≡ stored_synced t) (λ t u. u ≡ t) IsMadeZeros IsLeftShort before between after c.sync.result
    zeros_synced zeros_not_synced (c.in-Done-write_at.ensures.1 ∙ c.in-Done.ensures.1) put (sync_call between after c.sync.result c.sync.ensures)

pub returns-in-Failed-write_at : goal.returns-in-Failed-write_at
returns-in-Failed-write_at g c =
    let before = g.D.Device.disk c.args.device.now in
    let cut = g.D.Device.disk c.cut.new.self in
    let after = g.D.Device.disk c.write_at.new.self in
    let known = both_known IsKept _ before.stored c.requires.kept c.requires.short in
    let emptied = reported_map (HasBytes []) IsKeptShort (stored_cut 0) before.stored cut.stored known c.in-Done.ensures.0 short_cut in (
      subst (λ n. Rose n after.faults) c.in-Done.ensures.1 c.in-Failed-write_at.ensures.1,
      reported_then zeros_failed before.stored cut.stored after.stored emptied (write_refused 0 (zeros 4096) cut after c.in-Failed-write_at.ensures),
    )

pub returns-in-Failed : goal.returns-in-Failed
returns-in-Failed g c =
    let before = g.D.Device.disk c.args.device.now in
    let after = g.D.Device.disk c.cut.new.self in
    let known = both_known IsKept _ before.stored c.requires.kept c.requires.short in (
      c.in-Failed.ensures.1,
      cut_refused IsLeftShort IsKeptShort 0 before after known short_same short_late c.in-Failed.ensures,
    )
