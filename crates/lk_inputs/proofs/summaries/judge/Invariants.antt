use Rattle.std.proofs.Common.{◌≡◌, ◌++◌, drop}
use Rattle.std.specs.List.{filter_map}
use Rattle.lk_inputs.specs.FilesRead.{fault_in, sound_summary}
use Rattle.lk_inputs.proofs.summaries.judge.Given as goal

abbrev pub invariant-loop-file : goal.invariant-loop-file
invariant-loop-file l = record {
  faults : l.faults ++ filter_map fault_in (drop l.file-index l.files) ≡ filter_map fault_in l.files;
  summaries : l.summaries ++ filter_map sound_summary (drop l.file-index l.files) ≡ filter_map sound_summary l.files;
}
