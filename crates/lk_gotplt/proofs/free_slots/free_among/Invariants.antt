use Rattle.std.proofs.Common.{◌≤◌, take, length}
use Rattle.std.specs.BinaryHeap.{heap_capacity, heap_items}
use Rattle.lk_gotplt.specs.FreeSlots.{AreFree, IsQueue}
use Rattle.lk_gotplt.proofs.free_slots.free_among.Given as goal

abbrev pub invariant-loop-number : goal.invariant-loop-number
invariant-loop-number l = AreFree (heap_items l.free) (take l.number l.slots) × IsQueue (heap_items l.free) × (length l.slots ≤ heap_capacity l.free)
