use Rattle.std.proofs.Common.{◌≡◌, ◌+◌, ◌++◌, [], drop, length, map}
use Rattle.std.specs.Prelude.{filter_map}
use Rattle.std.specs.Vec.Iter.{into_iter_items}
use Rattle.lk_inputs.specs.FilesRead.{fault_in, summary_of}
use Rattle.lk_scan_inputs.specs.Objects.{input_names, marked_objects}
use Rattle.lk_scan_inputs.proofs.object_reading.read_marked.Given as goal

abbrev pub invariant-loop-file : goal.invariant-loop-file
invariant-loop-file l = record {
  number : l.number + length (into_iter_items l.file-iterator) ≡ length l.fn.files;
  sound : filter_map fault_in (into_iter_items l.file-iterator) ≡ [];
  summaries : drop l.number l.summaries ≡ map summary_of (into_iter_items l.file-iterator);
  names : l.read.names ++ input_names (into_iter_items l.file-iterator) ≡ input_names l.fn.files;
  objects : l.read.objects ++ marked_objects (drop l.number l.marks) (into_iter_items l.file-iterator) ≡ marked_objects l.marks l.fn.files;
}
