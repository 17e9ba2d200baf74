use Rattle.std.proofs.Common.{◌∙◌}
use Rattle.lk_scan_inputs.proofs.LinkScanned.{next_scanned}
use Rattle.lk_scan_inputs.proofs.object_scans.scan_added.Goals as goal

pub loop-input-preserved : goal.loop-input-preserved
loop-input-preserved c = λ found is named.
    next_scanned found c.args.objects.now c.args.resolution.now.added c.as_slice-input-items.result.now c.loop-input.input-index 0 c.loop-input.scan c.add_object.new.scan _
    (c.as_slice-input-items.ensures ∙ c.added.ensures) c.loop-input-test.true (c.loop-input.invariant found is named) (λ before e. c.in_ok-add_object.ensures found before is named e)
