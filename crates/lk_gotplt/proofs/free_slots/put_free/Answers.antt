use Rattle.std.specs.Prelude.{IsOk, OnOk, Result, Ok, Err}
use Rattle.std.proofs.Common.{◌∙◌, sym, true≢false}
use Rattle.std.specs.BinaryHeap.{heap_items}
use Rattle.lk_gotplt.proofs.QueueCounts.{count_cons, count_permuted}
use Rattle.lk_gotplt.proofs.free_slots.put_free.Goals as goal

-- what a call that succeeds ensures of its success
done : {T E : Type 0} {P : Type 0} (r : Result T E) → IsOk r → OnOk r P → P
done (Ok x) ok holds = holds
done (Err e) ok holds = absurd (true≢false (sym ok))

pub returns-clause-put : goal.returns-clause-put
returns-clause-put c = λ n.
    let moved = done c.push-done.result (c.push-done.ensures.succeeds c.requires.room) c.push-done.ensures.permutation in
    count_permuted n _ _ moved ∙ count_cons n _ (heap_items c.args.free.now)
