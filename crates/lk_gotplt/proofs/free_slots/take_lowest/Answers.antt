use Rattle.std.proofs.Common.{◌∙◌, sym}
use Rattle.std.specs.BinaryHeap.{heap_items}
use Rattle.lk_gotplt.proofs.QueueCounts.{count_cons, count_permuted, count_below}
use Rattle.lk_gotplt.proofs.free_slots.take_lowest.Goals as goal

pub returns-in-Some-clause-lowest : goal.returns-in-Some-clause-lowest
returns-in-Some-clause-lowest c = λ n low. count_below n c.in-Some.field-0 (heap_items c.args.free.now) low (c.in-Some.ensures.heap_order c.requires).1

pub returns-in-Some-clause-taken : goal.returns-in-Some-clause-taken
returns-in-Some-clause-taken c = λ n.
    sym (count_permuted n (heap_items c.args.free.now) _ c.in-Some.ensures.permutation) ∙ count_cons n c.in-Some.field-0 (heap_items c.pop.new.self)
