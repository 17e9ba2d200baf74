use Rattle.std.proofs.Common.{◌++◌, flat_map}
use Rattle.lk_resolve.specs.RowFaults.{doubled_in}
use Rattle.lk_resolve.proofs.FaultsOfRows.{noted_next}
use Rattle.lk_resolve.proofs.definition_faults.note_all_doubled.Goals as goal

pub loop-number-preserved : goal.loop-number-preserved
loop-number-preserved c =
    noted_next (doubled_in c.args.paths.now) c.loop-number.faults c.note_name_doubled.new.faults (c.args.faults.now ++ flat_map (doubled_in c.args.paths.now) c.args.names.now) c.args.names.now c.loop-number.number c.in_ok-note_name_doubled.ensures c.loop-number.invariant
