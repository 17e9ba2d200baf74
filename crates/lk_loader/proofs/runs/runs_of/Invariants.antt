use Rattle.std.specs.Prelude.{◌≡◌, ◌++◌, drop}
use Rattle.lk_loader.specs.Runs.{runs_of}
use Rattle.lk_loader.proofs.runs.runs_of.Given as goal

abbrev pub invariant-loop-header : goal.invariant-loop-header
invariant-loop-header l = l.runs.items ++ runs_of l.image (drop l.header-index l.headers) ≡ runs_of l.image l.headers
