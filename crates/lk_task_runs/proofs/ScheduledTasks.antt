-- What is known of how far ordered tasks are in a run: whatever a task is after is done before it is taken.
use Rattle.std.proofs.Common.{◌≡◌, ℕ, zero, suc, ◌<◌, ◌≤◌, Bool, true, false, not, ◌&&◌, List, length, get_or, set, nat_lt, Option, None, Some, is_some, refl, sym, ap, ◌∙◌, subst, inl, inr, arith}
use Rattle.std.specs.List.{list_any}
use Rattle.std.proofs.lemmas.Bool.{false≢true, both_ways, false_from_ne_true, eqb-true, eq-eqb, or_parts, or_cases, and_parts, and_from, and_left, not-true, not-false, not_from_true, not_from_false, ltb-true, ltb-false, le-ltb, cases_eq, cases_lt, cases_order}
use Rattle.std.proofs.lemmas.List.{get_or-set_same, get_or-set_other, get_or_past, length-set}
use Rattle.std.proofs.lemmas.List.Folds.{list_any_none}
use Rattle.lk_task_runs.specs.declared.tasks.Needs.{Needs}
use Rattle.lk_task_runs.specs.declared.tasks.Phase.{Phase}
use Rattle.lk_task_runs.specs.declared.tasks.Phase.TheVariants.{Waiting, Running, Done}
use Rattle.lk_task_runs.specs.Below.{any_below, first_below}
use Rattle.lk_task_runs.specs.Phases.{need, phase_of, is_waiting, is_running, is_under, is_done, has_wrote, is_token, is_same_token, blocks, is_counted, blocker_count, is_blocked, has_lock, is_locked, is_runnable, lowest_runnable, is_all_done, is_one_running}
use Rattle.lk_task_runs.specs.Orders.{reaches, is_after_token, is_after, writes_for, shares, waits_ahead, clashes, is_not_ordered, first_not_ordered}
use Rattle.lk_task_runs.specs.TaskLaws.{SomeTaskIsRunnable}
use Rattle.lk_task_runs.proofs.NumbersBelow.{any_below_some, none_below, any_below_none, count_zero, count_none, first_none, first_some, first_exists, all_from, any_none_at, rest_false, or_comm}

-- what one phase says of the others
pub done_not_waiting : (x : Phase) → is_done x ≡ true → is_waiting x ≡ false
done_not_waiting Waiting e = absurd (false≢true e)
done_not_waiting (Running w) e = refl
done_not_waiting (Done wrote) e = refl

pub running_not_waiting : (x : Phase) → is_running x ≡ true → is_waiting x ≡ false
running_not_waiting Waiting e = absurd (false≢true e)
running_not_waiting (Running w) e = refl
running_not_waiting (Done wrote) e = refl

pub running_not_done : (x : Phase) → is_running x ≡ true → is_done x ≡ false
running_not_done Waiting e = absurd (false≢true e)
running_not_done (Running w) e = refl
running_not_done (Done wrote) e = absurd (false≢true e)

pub waiting_not_done : (x : Phase) → is_waiting x ≡ true → is_done x ≡ false
waiting_not_done Waiting e = refl
waiting_not_done (Running w) e = absurd (false≢true e)
waiting_not_done (Done wrote) e = absurd (false≢true e)

pub waiting_not_running : (x : Phase) → is_waiting x ≡ true → is_running x ≡ false
waiting_not_running Waiting e = refl
waiting_not_running (Running w) e = absurd (false≢true e)
waiting_not_running (Done wrote) e = absurd (false≢true e)

pub waiting_not_wrote : (x : Phase) → is_waiting x ≡ true → has_wrote x ≡ false
waiting_not_wrote Waiting e = refl
waiting_not_wrote (Running w) e = absurd (false≢true e)
waiting_not_wrote (Done wrote) e = absurd (false≢true e)

pub running_not_wrote : (x : Phase) → is_running x ≡ true → has_wrote x ≡ false
running_not_wrote Waiting e = absurd (false≢true e)
running_not_wrote (Running w) e = refl
running_not_wrote (Done wrote) e = absurd (false≢true e)

pub wrote_not_waiting : (x : Phase) → has_wrote x ≡ true → is_waiting x ≡ false
wrote_not_waiting Waiting e = absurd (false≢true e)
wrote_not_waiting (Running w) e = refl
wrote_not_waiting (Done wrote) e = refl

pub wrote_not_running : (x : Phase) → has_wrote x ≡ true → is_running x ≡ false
wrote_not_running Waiting e = refl
wrote_not_running (Running w) e = absurd (false≢true e)
wrote_not_running (Done wrote) e = refl

pub under_running : (w : ℕ) (x : Phase) → is_under w x ≡ true → is_running x ≡ true
under_running w Waiting e = absurd (false≢true e)
under_running w (Running v) e = refl
under_running w (Done wrote) e = absurd (false≢true e)

waiting_from : (x : Phase) → is_running x ≡ false → is_done x ≡ false → is_waiting x ≡ true
waiting_from Waiting e h = refl
waiting_from (Running w) e h = absurd (false≢true (sym e))
waiting_from (Done wrote) e h = absurd (false≢true (sym h))

pub phase_set_other : (ms : List Phase) (t a : ℕ) (x : Phase) → (a ≡ t → ⊥) → phase_of (set ms t x) a ≡ phase_of ms a
phase_set_other ms t a x other = get_or-set_other ms t a x Waiting other

pub phase_set_same : (ms : List Phase) (t : ℕ) (x : Phase) → t < length ms → phase_of (set ms t x) t ≡ x
phase_set_same ms t x l = get_or-set_same ms t x Waiting l

-- a task that is no longer waiting has a number in the list
pub phase_in : (ms : List Phase) (a : ℕ) → is_waiting (phase_of ms a) ≡ false → a < length ms
phase_in ms a e =
    elim (cases_lt a (length ms)) [ inl l ↦ l | inr g ↦ absurd (both_ways (is_waiting (phase_of ms a)) e (ap is_waiting (get_or_past ms a Waiting g))) ]

-- the blocker of a task that is not blocked is released by done tasks alone
pub blocked_done : (ns : List Needs) (ms : List Phase) (o : Option ℕ) (v : ℕ) → is_blocked ns ms o ≡ false → v < length ns → is_same_token (need ns v).releases o ≡ true → is_done (phase_of ms v) ≡ true
blocked_done ns ms None v e l h = absurd (false≢true h)
blocked_done ns ms (Some b) v e l h =
    let none : blocker_count ns ms b ≤ 0 = ltb-false 0 (blocker_count ns ms b) e in
    let zeros : is_counted ns ms b v ≡ false = count_zero (is_counted ns ms b) (length ns) v (omega (arith, none)) l in
    not-false (is_done (phase_of ms v)) (rest_false (is_token b (need ns v).releases) (not (is_done (phase_of ms v))) zeros h)

-- and the other way round
pub blocked_none : (ns : List Needs) (ms : List Phase) (o : Option ℕ) → ((v : ℕ) → v < length ns → is_same_token (need ns v).releases o ≡ true → is_done (phase_of ms v) ≡ true) → is_blocked ns ms o ≡ false
blocked_none ns ms None h = refl
blocked_none ns ms (Some b) h =
    let none : blocker_count ns ms b ≡ 0 = count_none (is_counted ns ms b) (length ns) (λ v l. each v (is_token b (need ns v).releases) refl (h v l)) in
    le-ltb 0 (blocker_count ns ms b) (omega (arith, none))
  where
    each : (v : ℕ) (x : Bool) → is_token b (need ns v).releases ≡ x → (is_same_token (need ns v).releases (Some b) ≡ true → is_done (phase_of ms v) ≡ true) → (x && not (is_done (phase_of ms v))) ≡ false
    each v true e k = not_from_true (is_done (phase_of ms v)) (k e)
    each v false e k = refl

-- what a runnable task is
pub runnable_parts : (ns : List Needs) (ms : List Phase) (t : ℕ) → is_runnable ns ms t ≡ true → (is_waiting (phase_of ms t) ≡ true) × (is_blocked ns ms (need ns t).waits ≡ false) × (list_any (is_locked ns ms) (need ns t).locks ≡ false)
runnable_parts ns ms t e =
    let first = and_parts (is_waiting (phase_of ms t)) (not (is_blocked ns ms (need ns t).waits) && not (list_any (is_locked ns ms) (need ns t).locks)) e in
    let rest = and_parts (not (is_blocked ns ms (need ns t).waits)) (not (list_any (is_locked ns ms) (need ns t).locks)) first.1 in
    (first.0, not-true (is_blocked ns ms (need ns t).waits) rest.0, not-true (list_any (is_locked ns ms) (need ns t).locks) rest.1)

pub runnable_from : (ns : List Needs) (ms : List Phase) (t : ℕ) → is_waiting (phase_of ms t) ≡ true → is_blocked ns ms (need ns t).waits ≡ false → list_any (is_locked ns ms) (need ns t).locks ≡ false → is_runnable ns ms t ≡ true
runnable_from ns ms t a b c =
    and_from (is_waiting (phase_of ms t)) (not (is_blocked ns ms (need ns t).waits) && not (list_any (is_locked ns ms) (need ns t).locks)) a
    (and_from (not (is_blocked ns ms (need ns t).waits)) (not (list_any (is_locked ns ms) (need ns t).locks)) (not_from_false (is_blocked ns ms (need ns t).waits) b) (not_from_false (list_any (is_locked ns ms) (need ns t).locks) c))

-- tasks that are scheduled: where one is no longer waiting, each task that releases a blocker that it waits for, itself
-- or by way of others, is done
pub record IsScheduled (ns : List Needs) (ms : List Phase) : Type 0 where
  pub size : length ms ≡ length ns
  pub before : (k u b t : ℕ) → is_waiting (phase_of ms u) ≡ false → reaches ns k b u ≡ true → t < length ns → is_token b (need ns t).releases ≡ true → is_done (phase_of ms t) ≡ true

joins : (b : ℕ) (o r : Option ℕ) → is_token b o ≡ true → is_token b r ≡ true → is_same_token r o ≡ true
joins b None r e h = absurd (false≢true e)
joins b (Some c) r e h = subst (λ (x : ℕ). is_token x r ≡ true) (sym (eqb-true c b e)) h

reach_done : (ns : List Needs) (ms : List Phase) → IsScheduled ns ms → (k b t v : ℕ) → t < length ns → is_blocked ns ms (need ns t).waits ≡ false → reaches ns k b t ≡ true → v < length ns → is_token b (need ns v).releases ≡ true → is_done (phase_of ms v) ≡ true
reach_done ns ms s zero b t v l free reach lv rel = blocked_done ns ms (need ns t).waits v free lv (joins b (need ns t).waits (need ns v).releases reach rel)
reach_done ns ms s (suc k) b t v l free reach lv rel =
    elim (or_cases (is_token b (need ns t).waits) (any_below (λ x. blocks ns x t && reaches ns k b x) t) reach) [
      | inl here ↦ blocked_done ns ms (need ns t).waits v free lv (joins b (need ns t).waits (need ns v).releases here rel)
      | inr way ↦ (let x = any_below_some (λ x. blocks ns x t && reaches ns k b x) t way in
          let parts = and_parts (blocks ns x.0 t) (reaches ns k b x.0) x.2 in
          let done : is_done (phase_of ms x.0) ≡ true = blocked_done ns ms (need ns t).waits x.0 free (omega (arith, x.1, l)) parts.0 in
          s.before k x.0 b v (done_not_waiting (phase_of ms x.0) done) parts.1 lv rel)
    ]

done_stays : (ms : List Phase) (t : ℕ) (x : Phase) (v : ℕ) → is_done (phase_of ms t) ≡ false → is_done (phase_of ms v) ≡ true → is_done (phase_of (set ms t x) v) ≡ true
done_stays ms t x v undone done =
    elim (cases_eq v t) [
      | inl same ↦ absurd (both_ways (is_done (phase_of ms t)) undone (subst (λ (j : ℕ). is_done (phase_of ms j) ≡ true) same done))
      | inr other ↦ ap is_done (phase_set_other ms t v x other) ∙ done
    ]

pub scheduled_take : (ns : List Needs) (ms : List Phase) (w t : ℕ) → IsScheduled ns ms → t < length ns → is_waiting (phase_of ms t) ≡ true → is_blocked ns ms (need ns t).waits ≡ false → IsScheduled ns (set ms t (Running w))
scheduled_take ns ms w t s l waits free =
    record {
      size = length-set ms t (Running w) ∙ s.size;
      before = λ k u b v moved reach lv rel. done_stays ms t (Running w) v (waiting_not_done (phase_of ms t) waits) (elim (cases_eq u t) [
        | inl same ↦ reach_done ns ms s k b t v l free (subst (λ (j : ℕ). reaches ns k b j ≡ true) same reach) lv rel
        | inr other ↦ s.before k u b v (ap is_waiting (sym (phase_set_other ms t u (Running w) other)) ∙ moved) reach lv rel
      ]);
    }

pub scheduled_finish : (ns : List Needs) (ms : List Phase) (t : ℕ) (wrote : Bool) → IsScheduled ns ms → is_running (phase_of ms t) ≡ true → IsScheduled ns (set ms t (Done wrote))
scheduled_finish ns ms t wrote s runs =
    record {
      size = length-set ms t (Done wrote) ∙ s.size;
      before = λ k u b v moved reach lv rel. done_stays ms t (Done wrote) v (running_not_done (phase_of ms t) runs) (s.before k u b v (elim (cases_eq u t) [
        | inl same ↦ subst (λ (j : ℕ). is_waiting (phase_of ms j) ≡ false) (sym same) (running_not_waiting (phase_of ms t) runs)
        | inr other ↦ ap is_waiting (sym (phase_set_other ms t u (Done wrote) other)) ∙ moved
      ]) reach lv rel);
    }

-- what is known of ordered tasks, one by one
pub ordered_at : (ns : List Needs) (u : ℕ) → first_not_ordered ns ≡ None → u < length ns → (waits_ahead ns u ≡ false) × (clashes ns u ≡ false)
ordered_at ns u e l = or_parts (waits_ahead ns u) (clashes ns u) (first_none (is_not_ordered ns) 0 (length ns) u e (omega arith) (omega arith))

pub waits_for_lower : (ns : List Needs) (t u : ℕ) → waits_ahead ns u ≡ false → t < length ns → blocks ns t u ≡ true → t < u
waits_for_lower ns t u e l h =
    ltb-true t u (not-false (nat_lt t u) (rest_false (blocks ns t u) (not (nat_lt t u)) (none_below (λ x. blocks ns x u && not (nat_lt x u)) (length ns) t e l) h))

pub sharing_after : (ns : List Needs) (t u : ℕ) → clashes ns u ≡ false → t < u → shares (need ns t) (need ns u) ≡ true → is_after ns t u ≡ true
sharing_after ns t u e l h =
    not-false (is_after ns t u) (rest_false (shares (need ns t) (need ns u)) (not (is_after ns t u)) (none_below (λ x. shares (need ns x) (need ns u) && not (is_after ns x u)) u t e l) h)

pub after_parts : (ns : List Needs) (u : ℕ) (o : Option ℕ) → is_after_token ns u o ≡ true → (b : ℕ) × (is_token b o ≡ true) × (reaches ns u b u ≡ true)
after_parts ns u None h = absurd (false≢true h)
after_parts ns u (Some b) h = (b, eq-eqb b b refl, h)

after_done : (ns : List Needs) (ms : List Phase) (t u : ℕ) → IsScheduled ns ms → is_after ns t u ≡ true → is_waiting (phase_of ms u) ≡ false → t < length ns → is_done (phase_of ms t) ≡ true
after_done ns ms t u s h moved l = let p = after_parts ns u (need ns t).releases h in s.before u u p.0 t moved p.2 l p.1

-- a running task shares nothing with a later one that was taken
pub apart_later : (ns : List Needs) (ms : List Phase) (a c : ℕ) → first_not_ordered ns ≡ None → IsScheduled ns ms → is_running (phase_of ms a) ≡ true → is_waiting (phase_of ms c) ≡ false → a < c → shares (need ns a) (need ns c) ≡ false
apart_later ns ms a c order s runs moved l =
    let inside : c < length ms = phase_in ms c moved in
    let within : c < length ns = omega (arith, inside, s.size) in
    false_from_ne_true (shares (need ns a) (need ns c)) (λ h. both_ways (is_done (phase_of ms a)) (running_not_done (phase_of ms a) runs)
    (after_done ns ms a c s (sharing_after ns a c (ordered_at ns c order within).1 l h) moved (omega (arith, l, within))))

-- two running tasks share nothing
pub apart_both : (ns : List Needs) (ms : List Phase) (a c : ℕ) → first_not_ordered ns ≡ None → IsScheduled ns ms → is_running (phase_of ms a) ≡ true → is_running (phase_of ms c) ≡ true → (a ≡ c → ⊥) → shares (need ns a) (need ns c) ≡ false
apart_both ns ms a c order s ra rc other =
    elim (cases_order a c) [
      | inl same ↦ absurd (other same)
      | inr apart ↦ elim apart [
        | inl low ↦ apart_later ns ms a c order s ra (running_not_waiting (phase_of ms c) rc) low
        | inr high ↦ or_comm (writes_for (need ns a) (need ns c)) (writes_for (need ns c) (need ns a)) ∙ apart_later ns ms c a order s rc (running_not_waiting (phase_of ms a) ra) high
      ]
    ]

-- where no task runs no lock is locked
locks_free : (ns : List Needs) (ms : List Phase) (l : ℕ) → length ms ≡ length ns → is_one_running ms ≡ false → is_locked ns ms l ≡ false
locks_free ns ms l size rest =
    any_below_none (has_lock ns ms l) (length ns) (λ v lv. and_left (is_running (phase_of ms v)) _ (any_none_at is_running ms v Waiting rest (omega (arith, lv, size))))

progress_step : (ns : List Needs) (ms : List Phase) → first_not_ordered ns ≡ None → length ms ≡ length ns → is_one_running ms ≡ false → is_all_done ms ≡ false → (o : Option ℕ) → first_below (λ t. not (is_done (phase_of ms t))) (length ns) ≡ o → is_some (lowest_runnable ns ms) ≡ true
progress_step ns ms order size rest undone None e =
    absurd (both_ways (is_all_done ms) undone (all_from is_done ms Waiting (λ i l. not-false (is_done (phase_of ms i)) (first_none (λ t. not (is_done (phase_of ms t))) 0 (length ns) i e (omega arith) (omega (arith, l, size))))))
progress_step ns ms order size rest undone (Some t) e =
    let found = first_some (λ t. not (is_done (phase_of ms t))) 0 (length ns) t e in
    let within : t < length ns = omega (arith, found.1) in
    let inside : t < length ms = omega (arith, within, size) in
    let waits : is_waiting (phase_of ms t) ≡ true = waiting_from (phase_of ms t) (any_none_at is_running ms t Waiting rest inside) (not-true (is_done (phase_of ms t)) found.2) in
    let ahead = (ordered_at ns t order within).0 in
    let free : is_blocked ns ms (need ns t).waits ≡ false = blocked_none ns ms (need ns t).waits (λ v l h. not-false (is_done (phase_of ms v)) (found.3 v (omega arith) (waits_for_lower ns v t ahead l h))) in
    let unlocked : list_any (is_locked ns ms) (need ns t).locks ≡ false = list_any_none (is_locked ns ms) (need ns t).locks (λ k d l. locks_free ns ms (get_or (need ns t).locks k d) size rest) in
    first_exists (is_runnable ns ms) (length ns) t within (runnable_from ns ms t waits free unlocked)

-- where no task runs and one is not done, one is runnable
pub some_task_is_runnable : SomeTaskIsRunnable
some_task_is_runnable ns ms order size rest undone = progress_step ns ms order size rest undone (first_below (λ t. not (is_done (phase_of ms t))) (length ns)) refl
