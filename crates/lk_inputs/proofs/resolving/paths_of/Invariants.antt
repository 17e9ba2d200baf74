use Rattle.std.proofs.Common.{◌≡◌, ◌++◌, map, drop}
use Rattle.lk_inputs.specs.Named.{file_path}
use Rattle.lk_inputs.proofs.resolving.paths_of.Given as goal

abbrev pub invariant-loop-file : goal.invariant-loop-file
invariant-loop-file l = l.paths ++ map file_path (drop l.file-index l.files) ≡ map file_path l.files
