use Rattle.std.proofs.Common.{◌++◌, flat_map}
use Rattle.lk_resolve.specs.RowFaults.{mismatched_in}
use Rattle.lk_resolve.proofs.FaultsOfRows.{noted_next}
use Rattle.lk_resolve.proofs.definition_faults.note_all_mismatches.Goals as goal

pub loop-number-preserved : goal.loop-number-preserved
loop-number-preserved c =
    noted_next mismatched_in c.loop-number.faults c.note_name_mismatch.new.faults (c.args.faults.now ++ flat_map mismatched_in c.args.names.now) c.args.names.now c.loop-number.number c.in_ok-note_name_mismatch.ensures c.loop-number.invariant
