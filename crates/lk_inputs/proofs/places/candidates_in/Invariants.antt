use Rattle.std.proofs.Common.{◌≡◌, ◌++◌, map, drop}
use Rattle.lk_inputs.specs.Candidates.{candidate_in}
use Rattle.lk_inputs.proofs.places.candidates_in.Given as goal

abbrev pub invariant-loop-dir : goal.invariant-loop-dir
invariant-loop-dir l = l.places ++ map (candidate_in l.name) (drop l.dir-index l.dirs) ≡ map (candidate_in l.name) l.dirs
