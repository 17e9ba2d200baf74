use Rattle.std.proofs.Common.{take}
use Rattle.std.specs.List.{flat_map}
use Rattle.lk_report.specs.Texts.{fault_line}
use Rattle.lk_report.specs.Goes.{Goes}
use Rattle.lk_report.proofs.status_texts.say_faults.Given as goal

-- the lines of the faults passed are said
abbrev pub invariant-loop-fault : goal.invariant-loop-fault
invariant-loop-fault g l = Goes (g.S.Sink.spoken l.fn.says) (g.S.Sink.spoken l.says) (flat_map fault_line (take l.fault-index l.faults)) l.fn.progress l.progress
