use Rattle.std.proofs.Common.{ap, ◌∙◌, List, Bool, length, subst}
use Rattle.std.specs.Prelude.{IfOk}
use Rattle.std.proofs.lemmas.List.FromFn.{length-map-range_with_len}
use Rattle.lk_marks.specs.Marked.{marks_of}
use Rattle.lk_model.specs.Numbered.{is_number_in}
use Rattle.lk_scan_inputs.specs.Objects.{HasObjects}
use Rattle.lk_scan_inputs.proofs.ObjectsRead.{marked_are_added, one_for_each}
use Rattle.lk_scan_inputs.proofs.object_reading.read_objects.Goals as goal

pub read_marked-requires-clause-alike : goal.read_marked-requires-clause-alike
read_marked-requires-clause-alike c =
    ap (λ (marks : List Bool). length marks) (c.as_slice-2.ensures ∙ c.in_ok-marks.ensures)
    ∙ length-map-range_with_len (is_number_in c.as_slice.result.now) 0 (length c.as_slice-count.result.now)
    ∙ ap (λ l. length l) c.as_slice-count.ensures

pub returns-clause-read : goal.returns-clause-read
returns-clause-read c =
    subst (λ objects. IfOk c.read_marked.result (HasObjects objects c.args.files))
    (marked_are_added c.args.resolution.now.added c.args.files (length c.as_slice-count.result.now) c.as_slice-2.result.now (ap (λ l. length l) c.as_slice-count.ensures)
    (c.as_slice-2.ensures ∙ c.in_ok-marks.ensures ∙ ap (λ a. marks_of a (length c.as_slice-count.result.now)) (c.as_slice.ensures ∙ c.added.ensures)))
    c.read_marked.ensures

pub returns-clause-count : goal.returns-clause-count
returns-clause-count c = one_for_each c.args.resolution.now.added c.args.files c.read_marked.result (returns-clause-read c)
