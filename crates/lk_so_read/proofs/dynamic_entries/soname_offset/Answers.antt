use Rattle.std.proofs.Common.{rules, sym, ◌∙◌}
use Rattle.lk_so_read.proofs.EntriesFound.{other_here}
use Rattle.lk_so_read.proofs.dynamic_entries.soname_offset.Goals as goal

pub loop-k-preserved : goal.loop-k-preserved
loop-k-preserved c =
    sym
    (other_here
    c.args.bytes.now
    c.args.dynamic.now
    c.loop-k.k
    c.entry_count-count.result
    c.entry_at-entry.result
    c.loop-k-test.true
    c.entry_at-entry.ensures
    (search rules)
    (search rules))
    ∙ c.loop-k.invariant
