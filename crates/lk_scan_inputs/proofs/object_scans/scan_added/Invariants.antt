use Rattle.std.proofs.Common.{◌≡◌, Some, drop, fold}
use Rattle.std.specs.Option.{option_map}
use Rattle.lk_model.specs.Finding.{Found}
use Rattle.lk_resolve.specs.Settling.{IsFound}
use Rattle.lk_scan.specs.Noted.{nothing_noted}
use Rattle.lk_scan_inputs.specs.Scans.{AreNamedObjects, scan_with}
use Rattle.lk_scan_inputs.proofs.object_scans.scan_added.Given as goal

abbrev pub invariant-loop-input : goal.invariant-loop-input
invariant-loop-input l = (found : Found) → IsFound l.resolution found → AreNamedObjects found l.objects → option_map (λ s. fold (scan_with found l.objects) s (drop l.input-index l.resolution.added)) l.scan ≡ Some (fold (scan_with found l.objects) nothing_noted l.resolution.added)
