use Rattle.std.proofs.Common.{◌≡◌, drop}
use Rattle.lk_commit.specs.CrashStates.{WhereReported}
use Rattle.lk_commit.specs.Stages.{IsPartUpdated}
use Rattle.lk_commit.proofs.updates.write_ranges.Given as goal

abbrev pub invariant-loop-range : goal.invariant-loop-range
invariant-loop-range g l = record {
  faults : (g.D.Device.disk l.device).faults ≡ (g.D.Device.disk l.initial.device).faults;
  written : WhereReported (IsPartUpdated (drop l.range-index l.writes) l.writes) (g.D.Device.disk l.initial.device).stored (g.D.Device.disk l.device).stored;
}
