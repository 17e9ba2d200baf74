use Rattle.lk_scan_inputs.proofs.UnrefusedObjects as unrefused
use Rattle.lk_scan_inputs.proofs.laws.unrefused_are_objects.Goals as goal

pub returns : goal.returns
returns c = unrefused.unrefused_are_objects
