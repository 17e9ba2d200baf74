use Rattle.std.proofs.Common.{◌-◌, ◌≤◌, ◌∙◌, ap, sym, List, ℕ, [], length, take, drop, ◌++◌, replicate, arith}
use Rattle.lk_model.specs.Holes.{fill_bytes}
use Rattle.lk_model.specs.declared.layouts.FillKind.{FillKind}
use Rattle.lk_freelist.specs.Filling.{frame_head, unit_head}
use Rattle.lk_freelist.proofs.HoleBytes.{from_place, frame_bytes, unit_bytes, zero_bytes, trap_bytes, frame_length, unit_length}
use Rattle.lk_freelist.proofs.filling.fill.Goals as goal

pub returns-in-Zero : goal.returns-in-Zero
returns-in-Zero c =
    let n : ℕ = length c.args.bytes.now in
    c.write_from.ensures
    ∙ from_place [] 0 c.args.hole c.args.from n (omega arith)
    ∙ ap (λ bytes. take n (drop c.args.from bytes)) (sym (zero_bytes c.args.hole))
    ∙ ap (λ (kind : FillKind). take n (drop c.args.from (fill_bytes kind c.args.hole))) (sym c.in-Zero.is)

pub returns-in-Trap : goal.returns-in-Trap
returns-in-Trap c =
    let n : ℕ = length c.args.bytes.now in
    c.write_from-in-Trap.ensures
    ∙ from_place [] 0xcc c.args.hole c.args.from n (omega arith)
    ∙ ap (λ bytes. take n (drop c.args.from bytes)) (sym (trap_bytes c.args.hole))
    ∙ ap (λ (kind : FillKind). take n (drop c.args.from (fill_bytes kind c.args.hole))) (sym c.in-Trap.is)

pub returns-in-Frame : goal.returns-in-Frame
returns-in-Frame c =
    let n : ℕ = length c.args.bytes.now in
    let long : 16 ≤ c.args.hole = rw c.in-Frame.is at c.requires.enough in
    c.write_from-in-Frame.ensures
    ∙ ap (λ (start : List ℕ). take n (drop c.args.from start) ++ replicate (n - (length start - c.args.from)) 0) c.frame_start.ensures
    ∙ from_place (frame_head c.args.hole) 0 (c.args.hole - 13) c.args.from n (omega (arith, frame_length c.args.hole))
    ∙ ap (λ bytes. take n (drop c.args.from bytes)) (sym (frame_bytes c.args.hole))
    ∙ ap (λ (kind : FillKind). take n (drop c.args.from (fill_bytes kind c.args.hole))) (sym c.in-Frame.is)

pub returns-in-Unit : goal.returns-in-Unit
returns-in-Unit c =
    let n : ℕ = length c.args.bytes.now in
    let long : 11 ≤ c.args.hole = rw c.in-Unit.is at c.requires.enough in
    c.write_from-in-Unit.ensures
    ∙ ap (λ (start : List ℕ). take n (drop c.args.from start) ++ replicate (n - (length start - c.args.from)) 0) c.unit_start.ensures
    ∙ from_place (unit_head c.args.hole) 0 (c.args.hole - 11) c.args.from n (omega (arith, unit_length c.args.hole))
    ∙ ap (λ bytes. take n (drop c.args.from bytes)) (sym (unit_bytes c.args.hole))
    ∙ ap (λ (kind : FillKind). take n (drop c.args.from (fill_bytes kind c.args.hole))) (sym c.in-Unit.is)
