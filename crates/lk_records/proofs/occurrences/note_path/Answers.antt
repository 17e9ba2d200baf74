use Rattle.lk_records.proofs.OccurrencesCounted.{noted}
use Rattle.lk_records.proofs.occurrences.note_path.Goals as goal

pub returns-in-Ok : goal.returns-in-Ok
returns-in-Ok c =
    noted c.args.counts.now.entries c.insert.new.self.entries c.args.path c.count_in-before.result c.in_ok-now.now c.count_in-before.ensures c.in_ok-now.ensures c.in-Ok.ensures.entries
