use Rattle.std.proofs.Common.{rules}
use Rattle.lk_so_read.proofs.NeedsFound.{found_at_null}
use Rattle.lk_so_read.proofs.needs.needs_under.Goals as goal

pub returns-then-entry-eq-DT_NULL : goal.returns-then-entry-eq-DT_NULL
returns-then-entry-eq-DT_NULL c =
    found_at_null
    c.args.bytes.now
    c.args.dynamic.now
    c.loop-k.k
    c.entry_count-count.result
    c.entry_at-entry.result
    c.loop-k.needs
    c.entry_count-count.ensures.value
    c.loop-k.invariant
    c.loop-k-test.true
    c.entry_at-entry.ensures
    (search rules)
