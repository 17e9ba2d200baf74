use Rattle.std.proofs.Common.{◌≡◌, ◌≤◌, length, vec_len, arith}
use Rattle.lk_task_board.proofs.Steps.{first_board}
use Rattle.lk_task_board.proofs.board.Board.new.Goals as goal

pub invariant_of-result : goal.invariant_of-result
invariant_of-result c =
    let size : vec_len c.args.needs ≡ length c.args.needs.items = omega (arith, c.args.needs.ok.0) in
    let tokens = rw c.deref-2.ensures.value at c.in_ok-tokens.ensures in
    let linked = rw c.deref-3.ensures.value at c.in_ok-waiters.ensures in
    let marks = rw c.deref-4.ensures.value at c.mark_ready.ensures.ready in
    let room : length c.args.needs.items ≤ length c.mark_ready.new.ready = omega (arith, size, c.mark_ready.ensures.room, c.in_ok-ready.ensures.room, c.len.ensures) in
    rw (c.in_ok-phases.ensures, c.len-2.ensures, c.len-left.ensures, size) (first_board _ _ _ _ _ _ c.requires tokens room marks linked)
