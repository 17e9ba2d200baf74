use Rattle.std.proofs.Common.{◌≡◌, ◌≤◌, ◌^◌, ◌++◌, length, map, Some}
use Rattle.std.specs.Prelude.{All}
use Rattle.std.specs.Vec.Iter.{into_iter_items}
use Rattle.lk_report.specs.FileMap.{FileMap}
use Rattle.lk_inputs.specs.Asked.{known_failed, file_name, known_stats}
use Rattle.lk_inputs.specs.FileNumbers.{FileFits}
use Rattle.lk_inputs.specs.FilesRead.{are_names_there, files_at, sizes_limit}
use Rattle.lk_inputs.specs.Named.{file_path}
use Rattle.lk_inputs.specs.FileAnswers.{known_map, known_reads, reads_with}
use Rattle.lk_inputs.proofs.reading.read_inputs.Given as goal

abbrev pub invariant-loop-name : goal.invariant-loop-name
invariant-loop-name g l = record {
  kept : known_map (g.F.Files.state l.files) ≡ known_map (g.F.Files.state l.initial.files);
  reads : known_reads (g.F.Files.state l.files) ≡ reads_with (map file_path l.inputs) (known_reads (g.F.Files.state l.initial.files));
  inputs : (there : FileMap) → known_map (g.F.Files.state l.initial.files) ≡ Some there → l.inputs ++ files_at there (into_iter_items l.name-iterator) ≡ files_at there l.fn.names;
  limit : (there : FileMap) → known_map (g.F.Files.state l.initial.files) ≡ Some there → sizes_limit l.total (files_at there (into_iter_items l.name-iterator)) ≡ sizes_limit 0 (files_at there l.fn.names);
  all : (there : FileMap) → known_map (g.F.Files.state l.initial.files) ≡ Some there → are_names_there there (into_iter_items l.name-iterator) ≡ are_names_there there l.fn.names;
  total : l.total ≤ 2 ^ 30;
  short : All (λ input. length input.bytes ≤ 2 ^ 26) l.inputs;
  fit : All FileFits l.inputs;
  unlooked : known_stats (g.F.Files.state l.files) ≡ known_stats (g.F.Files.state l.initial.files);
  last : known_failed (g.F.Files.state l.files) ≡ known_failed (g.F.Files.state l.initial.files);
  misses : (g.F.Files.state l.files).misses ≡ (g.F.Files.state l.initial.files).misses;
  names : map file_name l.inputs ++ into_iter_items l.name-iterator ≡ l.fn.names;
  faults : (g.F.Files.state l.files).faults ≡ (g.F.Files.state l.initial.files).faults;
}
