use Rattle.std.specs.Prelude.{◌≡◌, ℕ, ◌+◌, length, is_none, true, false}
use Rattle.std.proofs.Common.{rules, subst}
use Rattle.std.specs.BinaryHeap.{heap_items}
use Rattle.lk_gotplt.specs.FreeSlots.{count_of, one_at}
use Rattle.lk_gotplt.proofs.SlotsFree.{free_behind, key_here, none_there, taken_behind}
use Rattle.lk_gotplt.proofs.free_slots.put_if_free.Goals as goal

pub returns-then-is_none-clause-put : goal.returns-then-is_none-clause-put
returns-then-is_none-clause-put c = λ slots at are.
    let is_free : is_none c.args.slot ≡ true = none_there c.args.slot c.is_none.result c.is_none.ensures c.if-is_none.true in
    let longer : length (heap_items c.put_free.new.free) ≡ length (heap_items c.args.free.now) + 1 = search rules in
    free_behind (heap_items c.args.free.now) (heap_items c.put_free.new.free) slots c.args.slot is_free are
    (λ n. subst (λ (m : ℕ). count_of n (heap_items c.put_free.new.free) ≡ one_at m n + count_of n (heap_items c.args.free.now)) at (c.put_free.ensures.put n))
    longer

pub returns-else-is_none-clause-put : goal.returns-else-is_none-clause-put
returns-else-is_none-clause-put c = λ slots at are.
    let taken : is_none c.args.slot ≡ false = key_here c.args.slot c.is_none.result c.is_none.ensures c.if-is_none.false in
    taken_behind (heap_items c.args.free.now) slots c.args.slot taken are
