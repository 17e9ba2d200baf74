use Rattle.std.proofs.Common.{◌≡◌, ◌++◌, drop}
use Rattle.std.specs.List.{flat_map}
use Rattle.lk_probe.specs.LoadTexts.{run_line}
use Rattle.lk_probe.proofs.load_texts.put_runs.Given as goal

abbrev pub invariant-loop-run : goal.invariant-loop-run
invariant-loop-run l = l.text.items ++ flat_map run_line (drop l.run-index l.runs) ≡ l.initial.text.items ++ flat_map run_line l.runs
