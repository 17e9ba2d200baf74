-- The map after a file took the place of another, or was put at the end.
use Rattle.std.proofs.Common.{sym, ◌∙◌}
use Rattle.lk_outside.proofs.Entries.{row_set, row_appended_or_not}
use Rattle.lk_outside.proofs.memory_files.put_entry.Goals as goal

pub returns-in-Some-clause-set : goal.returns-in-Some-clause-set
returns-in-Some-clause-set c =
    row_set c.args.entries.now.items c.in-Some.place c.args.entry (sym c.place_of.ensures ∙ c.in-Some.is)

pub returns-in-None-clause-set : goal.returns-in-None-clause-set
returns-in-None-clause-set c =
    row_appended_or_not c.append_entry.result c.args.entries.now.items _ c.args.entry
    (sym c.place_of.ensures ∙ c.in-None.is) c.append_entry.ensures.appended
