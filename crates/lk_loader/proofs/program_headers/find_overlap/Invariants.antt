use Rattle.std.specs.Prelude.{◌≡◌, drop}
use Rattle.lk_loader.specs.HeaderRows.{overlap_from}
use Rattle.lk_loader.proofs.program_headers.find_overlap.Given as goal

abbrev pub invariant-loop-n : goal.invariant-loop-n
invariant-loop-n l = overlap_from l.end l.n (drop l.n l.headers) ≡ overlap_from 0 0 l.headers
