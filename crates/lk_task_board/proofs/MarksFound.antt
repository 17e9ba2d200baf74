-- The first marked task from a number on, and the first of them that is free.
use Rattle.std.proofs.Common.{◌≡◌, ℕ, ◌+◌, ◌<◌, ◌≤◌, Bool, true, false, ◌&&◌, List, length, nat_le, Option, None, Some, refl, sym, ap, ◌∙◌, subst, inl, inr, arith}
use Rattle.std.proofs.lemmas.Bool.{both_ways, and_parts, and_from, and_left, and_right, leb-true, le-leb, cases_lt, cases_eq}
use Rattle.lk_task_runs.specs.Below.{first_from, first_below}
use Rattle.lk_task_runs.proofs.NumbersBelow.{first_none, first_some, first_absent, first_is, rest_false}
use Rattle.lk_task_board.specs.Trees.{mark, is_marked_from}

pub record IsFound (marks : List Bool) (from n task : ℕ) : Type 0 where
  pub low : from ≤ task
  pub high : task < n
  pub marked : mark marks task ≡ true
  pub skipped : (j : ℕ) → from ≤ j → j < task → mark marks j ≡ false

unmarked : (marks : List Bool) (from k : ℕ) → is_marked_from marks from k ≡ false → from ≤ k → mark marks k ≡ false
unmarked marks from k e l = rest_false (nat_le from k) (mark marks k) e (le-leb from k l)

pub found : (marks : List Bool) (from n task : ℕ) → first_below (is_marked_from marks from) n ≡ Some task → IsFound marks from n task
found marks from n task e =
    let f = first_some (is_marked_from marks from) 0 n task e in
    let parts = and_parts (nat_le from task) (mark marks task) f.2 in
    record {
      low = leb-true from task parts.0;
      high = omega (arith, f.1);
      marked = parts.1;
      skipped = λ j l below. unmarked marks from j (f.3 j (omega arith) below) l;
    }

-- the numbers from a bound on are passed over one by one
pub passed_more : (marks : List Bool) (free : ℕ → Bool) (from n task : ℕ) → IsFound marks from n task → free task ≡ false → ((k : ℕ) → k < from → (mark marks k && free k) ≡ false) → (k : ℕ) → k < task + 1 → (mark marks k && free k) ≡ false
passed_more marks free from n task h held before k l =
    elim (cases_lt k from) [
      | inl low ↦ before k low
      | inr high ↦ elim (cases_eq k task) [
        | inl e ↦ subst (λ (j : ℕ). (mark marks j && free j) ≡ false) (sym e) (and_right (mark marks task) (free task) held)
        | inr o ↦ and_left (mark marks k) (free k) (h.skipped k high (omega (arith, l, o)))
      ]
    ]

pub first_free : (marks : List Bool) (free : ℕ → Bool) (from n count task : ℕ) → IsFound marks from n task → task < count → free task ≡ true → ((k : ℕ) → k < from → (mark marks k && free k) ≡ false) → Some task ≡ first_below (λ k. mark marks k && free k) count
first_free marks free from n count task h l is before =
    sym (first_is (λ (k : ℕ). mark marks k && free k) 0 count task (omega arith) (omega (arith, l)) (and_from (mark marks task) (free task) h.marked is)
    (λ j low below. elim (cases_lt j from) [ inl under ↦ before j under | inr high ↦ and_left (mark marks j) (free j) (h.skipped j high below) ]))

pub none_free : (marks : List Bool) (free : ℕ → Bool) (from n count : ℕ) → first_below (is_marked_from marks from) n ≡ None → count ≤ n → ((k : ℕ) → k < from → (mark marks k && free k) ≡ false) → None ≡ first_below (λ k. mark marks k && free k) count
none_free marks free from n count e l before =
    sym (first_absent (λ (k : ℕ). mark marks k && free k) 0 count (λ k low high. elim (cases_lt k from) [
      | inl under ↦ before k under
      | inr above ↦ and_left (mark marks k) (free k) (unmarked marks from k (first_none (is_marked_from marks from) 0 n k e (omega arith) (omega (arith, high, l))) above)
    ]))
