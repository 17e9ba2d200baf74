-- Being after a task by blockers: how many links are looked at does not matter, and one after another is after what it is
-- after. So where tasks are ordered so far, a task need only be after the last that wrote a slot, and after those that
-- have read it since.
use Rattle.std.proofs.Common.{◌≡◌, ℕ, zero, suc, ◌<◌, ◌≤◌, ◌⊎◌, true, false, ◌&&◌, List, length, Option, None, Some, sym, subst, inl, inr, arith}
use Rattle.std.proofs.lemmas.Bool.{false≢true, eqb-true, or_left, or_right, or_cases, and_parts, and_from, cases_eq}
use Rattle.lk_task_runs.specs.declared.tasks.Needs.{Needs}
use Rattle.lk_task_runs.specs.Below.{any_below}
use Rattle.lk_task_runs.specs.Phases.{need, is_token, is_same_token, blocks}
use Rattle.lk_task_runs.specs.Orders.{reaches, is_after_token, is_after, waits_ahead}
use Rattle.lk_task_runs.proofs.NumbersBelow.{any_below_some, any_below_at}
use Rattle.lk_task_runs.proofs.ScheduledTasks.{waits_for_lower, after_parts}

pub joins : (b : ℕ) (o r : Option ℕ) → is_token b o ≡ true → is_token b r ≡ true → is_same_token r o ≡ true
joins b None r e h = absurd (false≢true e)
joins b (Some c) r e h = subst (λ (x : ℕ). is_token x r ≡ true) (sym (eqb-true c b e)) h

-- a task waits for a blocker by way of a lower one that does
pub reach_by : (ns : List Needs) (k b v u : ℕ) → v < u → blocks ns v u ≡ true → reaches ns k b v ≡ true → reaches ns (suc k) b u ≡ true
reach_by ns k b v u l h e =
    or_right (is_token b (need ns u).waits) (any_below (λ x. blocks ns x u && reaches ns k b x) u)
    (any_below_at (λ x. blocks ns x u && reaches ns k b x) u v l (and_from (blocks ns v u) (reaches ns k b v) h e))

-- a task waits itself, or by way of a lower one
reach_parts : (ns : List Needs) (k b u : ℕ) → reaches ns (suc k) b u ≡ true → (is_token b (need ns u).waits ≡ true) ⊎ ((v : ℕ) × (v < u) × (blocks ns v u ≡ true) × (reaches ns k b v ≡ true))
reach_parts ns k b u e =
    elim (or_cases (is_token b (need ns u).waits) (any_below (λ x. blocks ns x u && reaches ns k b x) u) e) [
      | inl here ↦ inl here
      | inr way ↦ (let x = any_below_some (λ x. blocks ns x u && reaches ns k b x) u way in
          let parts = and_parts (blocks ns x.0 u) (reaches ns k b x.0) x.2 in
          inr (x.0, x.1, parts.0, parts.1))
    ]

pub reach_more : (ns : List Needs) (k b u : ℕ) → reaches ns k b u ≡ true → reaches ns (suc k) b u ≡ true
reach_more ns zero b u e = or_left (is_token b (need ns u).waits) (any_below (λ x. blocks ns x u && reaches ns zero b x) u) e
reach_more ns (suc k) b u e =
    elim (reach_parts ns k b u e) [
      | inl here ↦ or_left (is_token b (need ns u).waits) (any_below (λ x. blocks ns x u && reaches ns (suc k) b x) u) here
      | inr way ↦ reach_by ns (suc k) b way.0 u way.1 way.2 (reach_more ns k b way.0 way.3)
    ]

pub reach_up : (ns : List Needs) (k m b u : ℕ) → k ≤ m → reaches ns k b u ≡ true → reaches ns m b u ≡ true
reach_up ns k zero b u l e = let same : k ≡ 0 = omega arith in subst (λ (j : ℕ). reaches ns j b u ≡ true) same e
reach_up ns k (suc m) b u l e =
    elim (cases_eq k (suc m)) [ inl same ↦ subst (λ (j : ℕ). reaches ns j b u ≡ true) same e | inr other ↦ reach_more ns m b u (reach_up ns k m b u (omega (arith, other)) e) ]

-- as many links as there are lower tasks are enough
pub reach_within : (ns : List Needs) (k b u : ℕ) → reaches ns k b u ≡ true → reaches ns u b u ≡ true
reach_within ns zero b u e = reach_up ns 0 u b u (omega arith) e
reach_within ns (suc k) b zero e =
    elim (reach_parts ns k b 0 e) [ inl here ↦ here | inr way ↦ absurd (omega (arith, way.1)) ]
reach_within ns (suc k) b (suc u) e =
    elim (reach_parts ns k b (suc u) e) [
      | inl here ↦ reach_up ns 0 (suc u) b (suc u) (omega arith) here
      | inr way ↦ reach_by ns u b way.0 (suc u) way.1 way.2 (reach_up ns way.0 u b way.0 (omega (arith, way.1)) (reach_within ns k b way.0 way.3))
    ]

-- what is after a task is after what that is after, where each waits for lower tasks alone
pub reach_join : (ns : List Needs) (k d b w u m : ℕ) → ((x : ℕ) → x ≤ u → waits_ahead ns x ≡ false) → w < length ns → is_token d (need ns w).releases ≡ true → reaches ns k d u ≡ true → reaches ns m b w ≡ true → reaches ns u b u ≡ true
reach_join ns zero d b w u m order l rel reach e =
    let blocked : blocks ns w u ≡ true = joins d (need ns u).waits (need ns w).releases reach rel in
    reach_within ns (suc m) b u (reach_by ns m b w u (waits_for_lower ns w u (order u (omega arith)) l blocked) blocked e)
reach_join ns (suc k) d b w u m order l rel reach e =
    elim (reach_parts ns k d u reach) [
      | inl here ↦ (let blocked : blocks ns w u ≡ true = joins d (need ns u).waits (need ns w).releases here rel in
          reach_within ns (suc m) b u (reach_by ns m b w u (waits_for_lower ns w u (order u (omega arith)) l blocked) blocked e))
      | inr way ↦ reach_within ns (suc way.0) b u (reach_by ns way.0 b way.0 u way.1 way.2 (reach_join ns k d b w way.0 m (λ x h. order x (omega (arith, way.1, h))) l rel way.3 e))
    ]

-- a task is after what releases a blocker that it waits for by any number of links
pub after_by : (ns : List Needs) (k b u : ℕ) (o : Option ℕ) → is_token b o ≡ true → reaches ns k b u ≡ true → is_after_token ns u o ≡ true
after_by ns k b u None h e = absurd (false≢true h)
after_by ns k b u (Some c) h e = reach_within ns k c u (subst (λ (x : ℕ). reaches ns k x u ≡ true) (sym (eqb-true c b h)) e)

pub after_trans : (ns : List Needs) (t w u : ℕ) → ((x : ℕ) → x ≤ u → waits_ahead ns x ≡ false) → w < length ns → is_after ns t w ≡ true → is_after ns w u ≡ true → is_after ns t u ≡ true
after_trans ns t w u order l first second =
    let p = after_parts ns w (need ns t).releases first in
    let q = after_parts ns u (need ns w).releases second in
    after_by ns u p.0 u (need ns t).releases p.1 (reach_join ns u q.0 p.0 w u w order l q.1 q.2 p.2)
