use Rattle.std.proofs.Common.{rules, ◌≡◌, ◌∷◌, false}
use Rattle.std.specs.Vec.Iter.{into_iter_items}
use Rattle.lk_scan_inputs.specs.Objects.{input_names, marked_objects}
use Rattle.lk_scan_inputs.proofs.ObjectsRead.{names_next, objects_next, rest_sound, summaries_next}
use Rattle.lk_scan_inputs.proofs.object_reading.read_marked.Goals as goal

pub loop-file-preserved : goal.loop-file-preserved
loop-file-preserved c =
    let left : into_iter_items c.loop-file.file-iterator ≡ c.in-Some.file ∷ into_iter_items c.next.new.self = c.in-Some.ensures.steps.0 in
    record {
      number = search (rules);
      sound = rest_sound (into_iter_items c.loop-file.file-iterator) (into_iter_items c.next.new.self) c.in-Some.file left c.loop-file.invariant.sound;
      summaries = summaries_next c.args.summaries.now c.loop-file.number (into_iter_items c.loop-file.file-iterator) (into_iter_items c.next.new.self) c.in-Some.file left c.loop-file.invariant.summaries;
      names = names_next (input_names c.args.files) (into_iter_items c.loop-file.file-iterator) (into_iter_items c.next.new.self) c.in-Some.file _ c.loop-file.read c.read_input.new.read left c.in_ok-read_input.ensures c.loop-file.invariant.names;
      objects = objects_next (marked_objects c.args.marks.now c.args.files) c.args.marks.now c.loop-file.number false (into_iter_items c.loop-file.file-iterator) (into_iter_items c.next.new.self) c.in-Some.file c.loop-file.read c.read_input.new.read (search (rules)) left c.in_ok-read_input.ensures c.loop-file.invariant.objects;
    }
