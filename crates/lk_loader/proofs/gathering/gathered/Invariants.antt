use Rattle.std.specs.Prelude.{◌≡◌, ◌+◌, ◌-◌, ◌≤◌, ◌++◌, drop, length}
use Rattle.lk_loader.specs.Gathering.{gathered}
use Rattle.lk_loader.proofs.gathering.gathered.Given as goal

abbrev pub invariant-loop-run : goal.invariant-loop-run
invariant-loop-run l = record {
  most : length l.found.items ≤ l.size;
  rest :
      l.found.items ++ gathered (drop l.run-index l.runs) (l.address + length l.found.items) (l.size - length l.found.items)
      ≡ gathered l.runs l.address l.size;
}
