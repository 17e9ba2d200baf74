use Rattle.std.proofs.Common.{◌≡◌, ◌<◌, ◌≤◌, ℕ, Bool, length, sym, ◌∙◌, inl, inr, arith}
use Rattle.std.proofs.lemmas.Bool.{both_ways, cases_lt}
use Rattle.lk_task_runs.specs.Phases.{need}
use Rattle.lk_task_board.specs.Trees.{mark}
use Rattle.lk_task_board.specs.Tokens.{are_free}
use Rattle.lk_task_board.proofs.MarksFound.{IsFound, found, passed_more, first_free, none_free}
use Rattle.lk_task_board.proofs.board.lowest_free.Goals as goal
use Rattle.lk_task_board.proofs.board.lowest_free.Goals.{In-Some}

is_found : (c : In-Some) → IsFound c.args.ready.now c.loop-task.from (length c.args.ready.now) c.in-Some.task
is_found c = found c.args.ready.now c.loop-task.from (length c.args.ready.now) c.in-Some.task (sym c.first_from.ensures ∙ c.in-Some.is)

is_task : (c : In-Some) → c.in-Some.task < length c.args.needs.now
is_task c =
    elim (cases_lt c.in-Some.task (length c.args.needs.now)) [
      | inl l ↦ l
      | inr g ↦ absurd (both_ways (mark c.args.ready.now c.in-Some.task) (c.requires.past c.in-Some.task g) (is_found c).marked)
    ]

pub overflow_cast-number : goal.overflow_cast-number
overflow_cast-number c = omega (arith, is_task (goal.at.overflow_cast-number c).In-Some)

pub is_free-requires-clause-there : goal.is_free-requires-clause-there
is_free-requires-clause-there c = is_task (goal.at.is_free-requires-clause-there c).In-Some

pub returns-then-is_free : goal.returns-then-is_free
returns-then-is_free c =
    first_free c.args.ready.now (λ (k : ℕ). are_free c.args.tokens.now (need c.args.needs.now k).locks) c.loop-task.from (length c.args.ready.now) (length c.args.needs.now) c.in-Some.task (is_found (goal.at.returns-then-is_free c).In-Some) (is_task (goal.at.returns-then-is_free c).In-Some) (sym c.is_free.ensures ∙ c.if-is_free.true) c.loop-task.invariant

pub loop-task-preserved : goal.loop-task-preserved
loop-task-preserved c =
    passed_more c.args.ready.now (λ (k : ℕ). are_free c.args.tokens.now (need c.args.needs.now k).locks) c.loop-task.from (length c.args.ready.now) c.in-Some.task (is_found (goal.at.loop-task-preserved c).In-Some) (sym c.is_free.ensures ∙ c.if-is_free.false) c.loop-task.invariant

pub loop-task-smaller : goal.loop-task-smaller
loop-task-smaller c =
    let f = is_found (goal.at.loop-task-smaller c).In-Some in
    omega (arith, f.low, f.high)

pub returns : goal.returns
returns c =
    none_free c.args.ready.now (λ (k : ℕ). are_free c.args.tokens.now (need c.args.needs.now k).locks) c.loop-task.from (length c.args.ready.now) (length c.args.needs.now) (sym c.first_from.ensures ∙ c.in_default.is) c.requires.room c.loop-task.invariant
