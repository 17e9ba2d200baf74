-- Links of the tasks that wait for a blocker, made from the highest task down.
use Rattle.std.proofs.Common.{◌≡◌, ℕ, ◌+◌, ◌<◌, ◌≤◌, ◌⊎◌, Bool, true, false, List, length, get_or, set, Option, None, Some, refl, sym, ap, ◌∙◌, subst, inl, inr, arith}
use Rattle.std.proofs.lemmas.Bool.{false≢true, both_ways, eqb-true, eq-eqb, ne_eqb, cases_eq}
use Rattle.std.proofs.lemmas.List.{get_or-set_same, get_or-set_other, length-set}
use Rattle.lk_task_runs.specs.declared.tasks.Needs.{Needs}
use Rattle.lk_task_runs.specs.Phases.{need, is_token}
use Rattle.lk_task_board.specs.Waiting.{IsNext, AreLinkedFrom}

next_before : (ns : List Needs) (b t u : ℕ) → is_token b (need ns t).waits ≡ false → IsNext ns b (t + 1) u → IsNext ns b t u
next_before ns b t u e h =
    record {
      start = omega (arith, h.start);
      within = h.within;
      skipped = λ v low high. elim (cases_eq v t) [ inl same ↦ subst (λ (j : ℕ). is_token b (need ns j).waits ≡ false) (sym same) e | inr other ↦ h.skipped v (omega (arith, low, other)) high ];
      there = h.there;
    }

next_here : (ns : List Needs) (b t : ℕ) → t < length ns → is_token b (need ns t).waits ≡ true → IsNext ns b t t
next_here ns b t l e = record { start = omega arith; within = omega (arith, l); skipped = λ v low high. absurd (omega (arith, low, high)); there = λ _. e }

pub link_none : (ns : List Needs) (blockers t : ℕ) (first next : List ℕ) → (need ns t).waits ≡ None → AreLinkedFrom ns blockers (t + 1) first next → AreLinkedFrom ns blockers t first next
link_none ns blockers t first next e h =
    record {
      first_size = h.first_size;
      next_size = h.next_size;
      first_is = λ b l. next_before ns b t (get_or first b 0) (ap (is_token b) e) (h.first_is b l);
      next_is = λ v b low l w. elim (cases_eq v t) [
        | inl same ↦ absurd (both_ways (is_token b (need ns t).waits) (ap (is_token b) e) (subst (λ (j : ℕ). is_token b (need ns j).waits ≡ true) same w))
        | inr other ↦ h.next_is v b (omega (arith, low, other)) l w
      ];
    }

first_after : (ns : List Needs) (blockers t c : ℕ) (first : List ℕ) → length first ≡ blockers → t < length ns → (need ns t).waits ≡ Some c → c < blockers → ((b : ℕ) → b < blockers → IsNext ns b (t + 1) (get_or first b 0)) → (b : ℕ) → b < blockers → IsNext ns b t (get_or (set first c t) b 0)
first_after ns blockers t c first size lt e lc h b l =
    elim (cases_eq b c) [
      | inl same ↦ (let here : IsNext ns b t t = next_here ns b t lt (ap (is_token b) e ∙ eq-eqb c b (sym same)) in
          let at : get_or (set first c t) b 0 ≡ t = ap (λ (j : ℕ). get_or (set first c t) j 0) same ∙ get_or-set_same first c t 0 (omega (arith, size, lc)) in
          subst (λ (u : ℕ). IsNext ns b t u) (sym at) here)
      | inr other ↦ subst (λ (u : ℕ). IsNext ns b t u) (sym (get_or-set_other first c b t 0 other))
          (next_before ns b t (get_or first b 0) (ap (is_token b) e ∙ ne_eqb c b (λ q. other (sym q))) (h b l))
    ]

next_after : (ns : List Needs) (t c w : ℕ) (next : List ℕ) → t < length next → (need ns t).waits ≡ Some c → IsNext ns c (t + 1) w → ((v b : ℕ) → t + 1 ≤ v → v < length ns → is_token b (need ns v).waits ≡ true → IsNext ns b (v + 1) (get_or next v 0)) → (v b : ℕ) → t ≤ v → v < length ns → is_token b (need ns v).waits ≡ true → IsNext ns b (v + 1) (get_or (set next t w) v 0)
next_after ns t c w next lt e after h v b low l wait =
    elim (cases_eq v t) [
      | inl same ↦ (let one : c ≡ b = eqb-true c b (ap (is_token b) (sym e) ∙ subst (λ (j : ℕ). is_token b (need ns j).waits ≡ true) same wait) in
          let here : IsNext ns b (t + 1) (get_or (set next t w) t 0) = subst (λ (u : ℕ). IsNext ns b (t + 1) u) (sym (get_or-set_same next t w 0 lt)) (subst (λ (x : ℕ). IsNext ns x (t + 1) w) one after) in
          subst (λ (j : ℕ). IsNext ns b (j + 1) (get_or (set next t w) j 0)) (sym same) here)
      | inr other ↦ subst (λ (u : ℕ). IsNext ns b (v + 1) u) (sym (get_or-set_other next t v w 0 other)) (h v b (omega (arith, low, other)) l wait)
    ]

pub link_some : (ns : List Needs) (blockers t c : ℕ) (first next : List ℕ) → t < length ns → (need ns t).waits ≡ Some c → c < blockers → AreLinkedFrom ns blockers (t + 1) first next → AreLinkedFrom ns blockers t (set first c t) (set next t (get_or first c 0))
link_some ns blockers t c first next lt e lc h =
    record {
      first_size = length-set first c t ∙ h.first_size;
      next_size = length-set next t (get_or first c 0) ∙ h.next_size;
      first_is = first_after ns blockers t c first h.first_size lt e lc h.first_is;
      next_is = next_after ns t c (get_or first c 0) next (omega (arith, lt, h.next_size)) e (h.first_is c lc) h.next_is;
    }

-- before any task is linked there is none
pub link_start : (ns : List Needs) (blockers : ℕ) (first next : List ℕ) → length first ≡ blockers → length next ≡ length ns → ((b : ℕ) → b < blockers → get_or first b 0 ≡ length ns) → AreLinkedFrom ns blockers (length ns) first next
link_start ns blockers first next fs size none =
    record {
      first_size = fs;
      next_size = size;
      first_is = λ b l. subst (λ (u : ℕ). IsNext ns b (length ns) u) (sym (none b l)) (record { start = omega arith; within = omega arith; skipped = λ v low high. absurd (omega (arith, low, high)); there = λ k. absurd (omega (arith, k)) });
      next_is = λ v b low l w. absurd (omega (arith, low, l));
    }
