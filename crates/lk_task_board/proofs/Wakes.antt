-- Tasks that are woken, one after another along their links.
use Rattle.std.proofs.Common.{◌≡◌, ℕ, ◌+◌, ◌<◌, ◌≤◌, Bool, true, false, cond, List, length, get_or, set, Option, None, Some, refl, sym, ap, ◌∙◌, subst, inl, inr, arith}
use Rattle.std.proofs.lemmas.Bool.{cond-true, cond-false, cases_order, cases_lt}
use Rattle.std.proofs.lemmas.List.{get_or-set_same, get_or-set_other, get_or_past, length-set}
use Rattle.lk_task_runs.specs.declared.tasks.Needs.{Needs}
use Rattle.lk_task_runs.specs.declared.tasks.Phase.{Phase}
use Rattle.lk_task_runs.specs.Phases.{need, no_needs, phase_of, is_token, is_waiting}
use Rattle.lk_task_board.specs.Trees.{mark}
use Rattle.lk_task_board.specs.Waiting.{IsNext, woken, AreWoken}

pub wake_start : (ns : List Needs) (ms : List Phase) (b : ℕ) (old : List Bool) (u : ℕ) → IsNext ns b 0 u → AreWoken ns ms b old old u
wake_start ns ms b old u h =
    record {
      size = refl;
      within = h.within;
      there = h.there;
      done = λ k l. sym (cond-false (is_token b (need ns k).waits) (is_waiting (phase_of ms k)) (mark old k) (h.skipped k (omega arith) l));
      left = λ k l. refl;
    }

pub wake_more : (ns : List Needs) (ms : List Phase) (b : ℕ) (old ready : List Bool) (task u : ℕ) → AreWoken ns ms b old ready task → task < length ns → length ns ≤ length old → IsNext ns b (task + 1) u → AreWoken ns ms b old (set ready task (is_waiting (phase_of ms task))) u
wake_more ns ms b old ready task u h l room next =
    record {
      size = length-set ready task (is_waiting (phase_of ms task)) ∙ h.size;
      within = next.within;
      there = next.there;
      done = λ k below. elim (cases_order k task) [
        | inl same ↦ subst (λ (j : ℕ). mark (set ready task (is_waiting (phase_of ms task))) j ≡ woken ns ms b (mark old j) j) (sym same)
            (get_or-set_same ready task (is_waiting (phase_of ms task)) false (omega (arith, l, room, h.size)) ∙ sym (cond-true (is_token b (need ns task).waits) (is_waiting (phase_of ms task)) (mark old task) (h.there l)))
        | inr apart ↦ elim apart [
          | inl low ↦ get_or-set_other ready task k (is_waiting (phase_of ms task)) false (λ (e : k ≡ task). absurd (omega (arith, e, low))) ∙ h.done k low
          | inr high ↦ get_or-set_other ready task k (is_waiting (phase_of ms task)) false (λ (e : k ≡ task). absurd (omega (arith, e, high)))
              ∙ h.left k (omega (arith, high)) ∙ sym (cond-false (is_token b (need ns k).waits) (is_waiting (phase_of ms k)) (mark old k) (next.skipped k (omega (arith, high)) below))
        ]
      ];
      left = λ k g. get_or-set_other ready task k (is_waiting (phase_of ms task)) false (λ (e : k ≡ task). absurd (omega (arith, e, g, next.start))) ∙ h.left k (omega (arith, g, next.start));
    }

pub wake_end : (ns : List Needs) (ms : List Phase) (b : ℕ) (old ready : List Bool) (task : ℕ) → AreWoken ns ms b old ready task → length ns ≤ task → (k : ℕ) → mark ready k ≡ woken ns ms b (mark old k) k
wake_end ns ms b old ready task h g k =
    elim (cases_lt k task) [
      | inl low ↦ h.done k low
      | inr high ↦ h.left k high ∙ sym (cond-false (is_token b (need ns k).waits) (is_waiting (phase_of ms k)) (mark old k) (ap (λ (n : Needs). is_token b n.waits) (get_or_past ns k no_needs (omega (arith, g, high)))))
    ]
