use Rattle.std.proofs.Common.{map}
use Rattle.lk_records.specs.Occurrences.{name_path, occurrences_by}
use Rattle.lk_records.proofs.OccurrencesCounted.{all_counted, one_more}
use Rattle.lk_records.proofs.occurrences.occurrences_of.Goals as goal

pub loop-name-preserved : goal.loop-name-preserved
loop-name-preserved c =
    one_more c.loop-name.counts.entries c.note_path.new.counts.entries c.loop-name.occurrences c.push.new.self (occurrences_by (λ path. 0) (map name_path c.args.names.now)) c.in_ok-note_path.field-0 c.loop-name.name-index c.args.names.now c.name-item.result c.as_slice.result.now
    c.loop-name-test.true c.name-item.is c.as_slice.ensures c.in_ok-note_path.ensures c.in_ok-push.ensures.pushed c.loop-name.invariant

pub returns : goal.returns
returns c = all_counted c.loop-name.counts.entries c.loop-name.occurrences c.loop-name.name-index c.args.names.now c.loop-name-test.false c.loop-name.invariant
