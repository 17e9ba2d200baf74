-- The parts of a board stay right as tasks are taken and finished.
use Rattle.std.proofs.Common.{◌≡◌, ℕ, zero, suc, ◌+◌, ◌-◌, ◌==◌, ◌<◌, ◌≤◌, ◌^◌, Bool, true, false, not, ◌&&◌, ◌||◌, cond, List, length, get_or, set, nat_lt, Option, None, Some, refl, sym, ap, ◌∙◌, subst, inl, inr, arith}
use Rattle.std.specs.List.{list_any, list_all}
use Rattle.std.proofs.lemmas.Bool.{false≢true, both_ways, false_from_ne_true, eqb-true, eq-eqb, ne_eqb, and_parts, and_from, and_left, and_right, or_left, not-true, not-false, not_from_true, not_from_false, cond-true, cond-false, lt-ltb, le-ltb, ltb-false, cases_eq, cases_lt, cases_Bool}
use Rattle.std.proofs.lemmas.List.{get_or-set_same, get_or-set_other, get_or_past, length-set, length-replicate}
use Rattle.lk_token.specs.TokenStates as token
use Rattle.lk_token.specs.TokenStates.{TokenState, count_of, with_count}
use Rattle.lk_task_runs.specs.declared.tasks.Needs.{Needs}
use Rattle.lk_task_runs.specs.declared.tasks.Phase.{Phase}
use Rattle.lk_task_runs.specs.declared.tasks.Phase.TheVariants.{Waiting, Running, Done}
use Rattle.lk_task_runs.specs.Below.{has, any_below, count_below, first_below}
use Rattle.lk_task_runs.specs.Phases.{need, no_needs, phase_of, is_token, is_waiting, is_running, is_done, has_failed, is_counted, blocker_count, is_blocked, has_lock, is_locked, is_runnable, lowest_runnable, is_stopped, is_all_done}
use Rattle.lk_task_runs.specs.Turns.{all_waiting}
use Rattle.lk_task_runs.proofs.NumbersBelow.{none_at, any_below_at, any_below_none, or_comm, count_zero, count_none, all_from, all_at}
use Rattle.lk_task_runs.proofs.ScheduledTasks.{phase_set_other, phase_set_same, runnable_parts, waiting_not_done, waiting_not_running, running_not_waiting, running_not_done}
use Rattle.lk_task_board.specs.Trees.{mark}
use Rattle.lk_task_board.specs.Tokens.{AreKnown, AreFirst, is_counted_up, are_free, after_release}
use Rattle.lk_task_board.specs.Waiting.{AreLinkedFrom, woken, ready_after}
use Rattle.lk_task_board.specs.Boards.{IsBoard, is_ready, is_undone}
use Rattle.lk_task_board.proofs.Counting.{same_test, count_same, count_less, count_all, any_same, any_joined, list_any_set, list_any_none_of, get_or-replicate_any, any_listed, first_same}

-- a test of phases that the new phase of a task passes as the old one did
pub phase_test : (f : Phase → Bool) (ms : List Phase) (t : ℕ) (x : Phase) → t < length ms → f x ≡ f (phase_of ms t) → (k : ℕ) → f (phase_of (set ms t x) k) ≡ f (phase_of ms k)
phase_test f ms t x l same k =
    elim (cases_eq k t) [
      | inl e ↦ subst (λ (j : ℕ). f (phase_of (set ms t x) j) ≡ f (phase_of ms j)) (sym e) (ap f (phase_set_same ms t x l) ∙ same)
      | inr o ↦ ap f (phase_set_other ms t k x o)
    ]

has_lock_in : (ns : List Needs) (ms : List Phase) (l t : ℕ) → has_lock ns ms l t ≡ true → t < length ns
has_lock_in ns ms l t e =
    elim (cases_lt t (length ns)) [
      | inl below ↦ below
      | inr past ↦ absurd (both_ways (has l (need ns t).locks) (ap (λ (n : Needs). has l n.locks) (get_or_past ns t no_needs past)) (and_parts (is_running (phase_of ms t)) (has l (need ns t).locks) e).1)
    ]

blocked_same : (ns : List Needs) (ms later : List Phase) (o : Option ℕ) → ((b : ℕ) → is_token b o ≡ true → blocker_count ns later b ≡ blocker_count ns ms b) → is_blocked ns later o ≡ is_blocked ns ms o
blocked_same ns ms later None h = refl
blocked_same ns ms later (Some b) h = ap (nat_lt 0) (h b (eq-eqb b b refl))

ready_same : (ns : List Needs) (ms later : List Phase) (k : ℕ) → is_waiting (phase_of later k) ≡ is_waiting (phase_of ms k) → is_blocked ns later (need ns k).waits ≡ is_blocked ns ms (need ns k).waits → is_ready ns ms k ≡ is_ready ns later k
ready_same ns ms later k w b =
    ap (λ (x : Bool). nat_lt k (length ns) && (x && not (is_blocked ns ms (need ns k).waits))) (sym w) ∙ ap (λ (x : Bool). nat_lt k (length ns) && (is_waiting (phase_of later k) && not x)) (sym b)

-- a turn that leaves what is done leaves the counts
counts_same : (ns : List Needs) (ms : List Phase) (t : ℕ) (x : Phase) → t < length ms → is_done x ≡ is_done (phase_of ms t) → (b : ℕ) → blocker_count ns (set ms t x) b ≡ blocker_count ns ms b
counts_same ns ms t x l same b =
    count_same (is_counted ns (set ms t x) b) (is_counted ns ms b) (length ns) (λ k kl. ap (λ (d : Bool). is_token b (need ns k).releases && not d) (phase_test is_done ms t x l same k))

known_same : (ns : List Needs) (tokens after : TokenState) → length after.counts ≡ length tokens.counts → length after.locked ≡ length tokens.locked → AreKnown ns (length tokens.counts) (length tokens.locked) → AreKnown ns (length after.counts) (length after.locked)
known_same ns tokens after c l h =
    subst (λ (n : ℕ). AreKnown ns (length after.counts) n) (sym l) (subst (λ (n : ℕ). AreKnown ns n (length tokens.locked)) (sym c) h)

undone_same : (ms : List Phase) (t : ℕ) (x : Phase) (n : ℕ) → t < length ms → is_done x ≡ is_done (phase_of ms t) → count_below (is_undone (set ms t x)) n ≡ count_below (is_undone ms) n
undone_same ms t x n l same = count_same (is_undone (set ms t x)) (is_undone ms) n (λ k kl. ap not (phase_test is_done ms t x l same k))

-- Taking a task.

locked_start : (ns : List Needs) (ms : List Phase) (w t : ℕ) → t < length ns → t < length ms → is_running (phase_of ms t) ≡ false → (l : ℕ) → is_locked ns (set ms t (Running w)) l ≡ (is_locked ns ms l || has l (need ns t).locks)
locked_start ns ms w t lt lm idle l =
    any_joined (has_lock ns ms l) (has_lock ns (set ms t (Running w)) l) (length ns) t lt (and_left (is_running (phase_of ms t)) (has l (need ns t).locks) idle)
    (λ k kl o. ap (λ (x : Phase). is_running x && has l (need ns k).locks) (phase_set_other ms t k (Running w) o))
    ∙ ap (λ (x : Phase). is_locked ns ms l || (is_running x && has l (need ns t).locks)) (phase_set_same ms t (Running w) lm)

-- a task that has a lock in the new phases had it, unless it is the one that was taken
still_has : (ns : List Needs) (ms : List Phase) (t : ℕ) (x : Phase) (l a : ℕ) → (a ≡ t → ⊥) → has_lock ns (set ms t x) l a ≡ true → has_lock ns ms l a ≡ true
still_has ns ms t x l a o e = ap (λ (y : Phase). is_running y && has l (need ns a).locks) (sym (phase_set_other ms t a x o)) ∙ e

not_both : (ns : List Needs) (ms : List Phase) (t l a : ℕ) → list_any (is_locked ns ms) (need ns t).locks ≡ false → has l (need ns t).locks ≡ true → has_lock ns ms l a ≡ true → ⊥
not_both ns ms t l a free mine other =
    both_ways (is_locked ns ms l) (none_at (is_locked ns ms) (need ns t).locks l free mine) (any_below_at (has_lock ns ms l) (length ns) a (has_lock_in ns ms l a other) other)

held_start : (ns : List Needs) (ms : List Phase) (w t : ℕ) → list_any (is_locked ns ms) (need ns t).locks ≡ false → ((l a b : ℕ) → has_lock ns ms l a ≡ true → has_lock ns ms l b ≡ true → a ≡ b) → (l a b : ℕ) → has_lock ns (set ms t (Running w)) l a ≡ true → has_lock ns (set ms t (Running w)) l b ≡ true → a ≡ b
held_start ns ms w t free once l a b ha hb =
    let mine : (j : ℕ) → j ≡ t → has_lock ns (set ms t (Running w)) l j ≡ true → has l (need ns t).locks ≡ true = λ (j : ℕ) (e : j ≡ t) (h : has_lock ns (set ms t (Running w)) l j ≡ true). subst (λ (i : ℕ). has l (need ns i).locks ≡ true) e (and_parts (is_running (phase_of (set ms t (Running w)) j)) (has l (need ns j).locks) h).1 in
    elim (cases_eq a t) [
      | inl ea ↦ elim (cases_eq b t) [
        | inl eb ↦ ea ∙ sym eb
        | inr ob ↦ absurd (not_both ns ms t l b free (mine a ea ha) (still_has ns ms t (Running w) l b ob hb))
      ]
      | inr oa ↦ elim (cases_eq b t) [
        | inl eb ↦ absurd (not_both ns ms t l a free (mine b eb hb) (still_has ns ms t (Running w) l a oa ha))
        | inr ob ↦ once l a b (still_has ns ms t (Running w) l a oa ha) (still_has ns ms t (Running w) l b ob hb)
      ]
    ]

ready_start : (ns : List Needs) (ms : List Phase) (ready : List Bool) (w t : ℕ) → t < length ms → t < length ready → is_done (phase_of ms t) ≡ false → ((k : ℕ) → mark ready k ≡ is_ready ns ms k) → (k : ℕ) → mark (set ready t false) k ≡ is_ready ns (set ms t (Running w)) k
ready_start ns ms ready w t lm lr undone is k =
    elim (cases_eq k t) [
      | inl e ↦ subst (λ (j : ℕ). mark (set ready t false) j ≡ is_ready ns (set ms t (Running w)) j) (sym e)
          (get_or-set_same ready t false false lr ∙ sym (and_right (nat_lt t (length ns)) (is_waiting (phase_of (set ms t (Running w)) t) && not (is_blocked ns (set ms t (Running w)) (need ns t).waits))
          (and_left (is_waiting (phase_of (set ms t (Running w)) t)) (not (is_blocked ns (set ms t (Running w)) (need ns t).waits)) (ap is_waiting (phase_set_same ms t (Running w) lm)))))
      | inr o ↦ get_or-set_other ready t k false false o ∙ is k
          ∙ ready_same ns ms (set ms t (Running w)) k (ap is_waiting (phase_set_other ms t k (Running w) o)) (blocked_same ns ms (set ms t (Running w)) (need ns k).waits (λ b h. counts_same ns ms t (Running w) lm (sym undone) b))
    ]

pub start_board : (ns : List Needs) (ms : List Phase) (tokens after : TokenState) (ready : List Bool) (first next : List ℕ) (left : ℕ) (stopped : Bool) (w t : ℕ) → IsBoard ns ms tokens ready first next left stopped → t < length ns → is_runnable ns ms t ≡ true
    → after.counts ≡ tokens.counts → length after.locked ≡ length tokens.locked → ((l : ℕ) → token.is_locked after l ≡ (token.is_locked tokens l || has l (need ns t).locks))
    → IsBoard ns (set ms t (Running w)) after (set ready t false) first next left stopped
start_board ns ms tokens after ready first next left stopped w t h lt runs counts size locks =
    let lm : t < length ms = omega (arith, lt, h.size) in
    let parts = runnable_parts ns ms t runs in
    let undone : is_done (phase_of ms t) ≡ false = waiting_not_done (phase_of ms t) parts.0 in
    let idle : is_running (phase_of ms t) ≡ false = waiting_not_running (phase_of ms t) parts.0 in
    let same : length after.counts ≡ length tokens.counts = ap (λ (cs : List ℕ). length cs) counts in
    record {
      size = length-set ms t (Running w) ∙ h.size;
      few = h.few;
      known = known_same ns tokens after same size h.known;
      counted = λ b l. ap (λ (cs : List ℕ). get_or cs b 0) counts ∙ h.counted b (omega (arith, l, same)) ∙ sym (counts_same ns ms t (Running w) lm (sym undone) b);
      locked = λ l ll. locks l ∙ ap (λ (x : Bool). x || has l (need ns t).locks) (h.locked l (omega (arith, ll, size))) ∙ sym (locked_start ns ms w t lt lm idle l);
      held_once = held_start ns ms w t parts.2 h.held_once;
      room = omega (arith, h.room, length-set ready t false);
      ready_is = ready_start ns ms ready w t lm (omega (arith, lt, h.room)) undone h.ready_is;
      linked = subst (λ (n : ℕ). AreLinkedFrom ns n 0 first next) (sym same) h.linked;
      left_is = h.left_is ∙ sym (undone_same ms t (Running w) (length ns) lm (sym undone));
      stopped_is = h.stopped_is ∙ sym (list_any_set has_failed ms t (Running w) Waiting lm (waiting_not_failed (phase_of ms t) parts.0));
    }
  where
    waiting_not_failed : (x : Phase) → is_waiting x ≡ true → has_failed x ≡ false
    waiting_not_failed Waiting e = refl
    waiting_not_failed (Running v) e = refl
    waiting_not_failed (Done wrote) e = absurd (false≢true e)

-- Finishing a task.

counts_less : (ns : List Needs) (ms : List Phase) (t b : ℕ) (wrote : Bool) → t < length ns → t < length ms → is_done (phase_of ms t) ≡ false → is_token b (need ns t).releases ≡ true → blocker_count ns ms b ≡ suc (blocker_count ns (set ms t (Done wrote)) b)
counts_less ns ms t b wrote lt lm undone mine =
    count_less (is_counted ns ms b) (is_counted ns (set ms t (Done wrote)) b) (length ns) t lt
    (and_from (is_token b (need ns t).releases) (not (is_done (phase_of ms t))) mine (not_from_false (is_done (phase_of ms t)) undone))
    (and_right (is_token b (need ns t).releases) (not (is_done (phase_of (set ms t (Done wrote)) t))) (not_from_true (is_done (phase_of (set ms t (Done wrote)) t)) (ap is_done (phase_set_same ms t (Done wrote) lm))))
    (λ k kl o. ap (λ (x : Phase). is_token b (need ns k).releases && not (is_done x)) (sym (phase_set_other ms t k (Done wrote) o)))

counts_kept : (ns : List Needs) (ms : List Phase) (t b : ℕ) (wrote : Bool) → is_token b (need ns t).releases ≡ false → blocker_count ns (set ms t (Done wrote)) b ≡ blocker_count ns ms b
counts_kept ns ms t b wrote other =
    count_same (is_counted ns (set ms t (Done wrote)) b) (is_counted ns ms b) (length ns) (λ k kl. elim (cases_eq k t) [
      | inl e ↦ (let none : is_token b (need ns k).releases ≡ false = subst (λ (j : ℕ). is_token b (need ns j).releases ≡ false) (sym e) other in
          and_left (is_token b (need ns k).releases) (not (is_done (phase_of (set ms t (Done wrote)) k))) none ∙ sym (and_left (is_token b (need ns k).releases) (not (is_done (phase_of ms k))) none))
      | inr o ↦ ap (λ (x : Phase). is_token b (need ns k).releases && not (is_done x)) (phase_set_other ms t k (Done wrote) o)
    ])

count_after : (s : TokenState) (o : Option ℕ) (b : ℕ) → b < length s.counts → count_of (after_release s o) b ≡ cond (is_token b o) (count_of s b - 1) (count_of s b)
count_after s None b l = refl
count_after s (Some c) b l =
    elim (cases_eq b c) [
      | inl e ↦ ap (λ (j : ℕ). get_or (set s.counts j (get_or s.counts j 0 - 1)) b 0) (sym e) ∙ get_or-set_same s.counts b (get_or s.counts b 0 - 1) 0 l
          ∙ sym (cond-true (c == b) (count_of s b - 1) (count_of s b) (eq-eqb c b (sym e)))
      | inr o ↦ get_or-set_other s.counts c b (count_of s c - 1) 0 o ∙ sym (cond-false (c == b) (count_of s b - 1) (count_of s b) (ne_eqb c b (λ (e : c ≡ b). o (sym e))))
    ]

pub after_locked : (s : TokenState) (o : Option ℕ) → (after_release s o).locked ≡ s.locked
after_locked s None = refl
after_locked s (Some b) = refl

pub after_size : (s : TokenState) (o : Option ℕ) → length (after_release s o).counts ≡ length s.counts
after_size s None = refl
after_size s (Some b) = length-set s.counts b (count_of s b - 1)

less_one : (x y : ℕ) → x ≡ suc y → x - 1 ≡ y
less_one x y e = omega (arith, e)

-- the counts after a task is done
counted_end : (ns : List Needs) (ms : List Phase) (s : TokenState) (t b : ℕ) (wrote : Bool) → t < length ns → t < length ms → is_done (phase_of ms t) ≡ false → b < length s.counts → count_of s b ≡ blocker_count ns ms b → count_of (after_release s (need ns t).releases) b ≡ blocker_count ns (set ms t (Done wrote)) b
counted_end ns ms s t b wrote lt lm undone l is =
    count_after s (need ns t).releases b l ∙ elim (cases_Bool (is_token b (need ns t).releases)) [
      | inl hit ↦ cond-true (is_token b (need ns t).releases) (count_of s b - 1) (count_of s b) hit ∙ less_one (count_of s b) (blocker_count ns (set ms t (Done wrote)) b) (is ∙ counts_less ns ms t b wrote lt lm undone hit)
      | inr miss ↦ cond-false (is_token b (need ns t).releases) (count_of s b - 1) (count_of s b) miss ∙ is ∙ sym (counts_kept ns ms t b wrote miss)
    ]

locked_end : (ns : List Needs) (ms : List Phase) (t : ℕ) (wrote : Bool) → t < length ms → is_running (phase_of ms t) ≡ true → ((l a b : ℕ) → has_lock ns ms l a ≡ true → has_lock ns ms l b ≡ true → a ≡ b) → (l : ℕ) → (is_locked ns ms l && not (has l (need ns t).locks)) ≡ is_locked ns (set ms t (Done wrote)) l
locked_end ns ms t wrote lm runs once l =
    let idle : is_running (phase_of (set ms t (Done wrote)) t) ≡ false = ap is_running (phase_set_same ms t (Done wrote) lm) in
    elim (cases_Bool (has l (need ns t).locks)) [
      | inl mine ↦ and_right (is_locked ns ms l) (not (has l (need ns t).locks)) (not_from_true (has l (need ns t).locks) mine)
          ∙ sym (any_below_none (has_lock ns (set ms t (Done wrote)) l) (length ns) (λ k kl. elim (cases_eq k t) [
            | inl e ↦ subst (λ (j : ℕ). has_lock ns (set ms t (Done wrote)) l j ≡ false) (sym e) (and_left (is_running (phase_of (set ms t (Done wrote)) t)) (has l (need ns t).locks) idle)
            | inr o ↦ false_from_ne_true (has_lock ns (set ms t (Done wrote)) l k) (λ h. o (once l k t (still_has ns ms t (Done wrote) l k o h) (and_from (is_running (phase_of ms t)) (has l (need ns t).locks) runs mine)))
          ]))
      | inr none ↦ ap (λ (x : Bool). is_locked ns ms l && not x) none ∙ and_true (is_locked ns ms l)
          ∙ any_same (has_lock ns ms l) (has_lock ns (set ms t (Done wrote)) l) (length ns) (λ k kl. elim (cases_eq k t) [
            | inl e ↦ subst (λ (j : ℕ). has_lock ns ms l j ≡ has_lock ns (set ms t (Done wrote)) l j) (sym e)
                (and_right (is_running (phase_of ms t)) (has l (need ns t).locks) none ∙ sym (and_right (is_running (phase_of (set ms t (Done wrote)) t)) (has l (need ns t).locks) none))
            | inr o ↦ ap (λ (x : Phase). is_running x && has l (need ns k).locks) (sym (phase_set_other ms t k (Done wrote) o))
          ])
    ]
  where
    and_true : (x : Bool) → (x && true) ≡ x
    and_true true = refl
    and_true false = refl

held_end : (ns : List Needs) (ms : List Phase) (t : ℕ) (wrote : Bool) → t < length ms → ((l a b : ℕ) → has_lock ns ms l a ≡ true → has_lock ns ms l b ≡ true → a ≡ b) → (l a b : ℕ) → has_lock ns (set ms t (Done wrote)) l a ≡ true → has_lock ns (set ms t (Done wrote)) l b ≡ true → a ≡ b
held_end ns ms t wrote lm once l a b ha hb =
    let apart : (j : ℕ) → has_lock ns (set ms t (Done wrote)) l j ≡ true → j ≡ t → ⊥ = λ (j : ℕ) (h : has_lock ns (set ms t (Done wrote)) l j ≡ true) (e : j ≡ t).
    both_ways (is_running (phase_of (set ms t (Done wrote)) t)) (ap is_running (phase_set_same ms t (Done wrote) lm)) (subst (λ (i : ℕ). is_running (phase_of (set ms t (Done wrote)) i) ≡ true) e (and_parts (is_running (phase_of (set ms t (Done wrote)) j)) (has l (need ns j).locks) h).0) in
    once l a b (still_has ns ms t (Done wrote) l a (apart a ha) ha) (still_has ns ms t (Done wrote) l b (apart b hb) hb)

need_in : (ns : List Needs) (b k : ℕ) → is_token b (need ns k).waits ≡ true → k < length ns
need_in ns b k e =
    elim (cases_lt k (length ns)) [
      | inl l ↦ l
      | inr g ↦ absurd (both_ways (is_token b (need ns k).waits) (ap (λ (n : Needs). is_token b n.waits) (get_or_past ns k no_needs g)) e)
    ]

blocked_is : (ns : List Needs) (ms : List Phase) (b : ℕ) (o : Option ℕ) → is_token b o ≡ true → is_blocked ns ms o ≡ nat_lt 0 (blocker_count ns ms b)
blocked_is ns ms b None e = absurd (false≢true e)
blocked_is ns ms b (Some c) e = ap (λ (x : ℕ). nat_lt 0 (blocker_count ns ms x)) (eqb-true c b e)

-- the tasks that are ready after one is done that releases this blocker
ready_released : (ns : List Needs) (ms later : List Phase) (s : TokenState) (c : ℕ) (k : ℕ) → is_waiting (phase_of later k) ≡ is_waiting (phase_of ms k) → count_of s c ≡ blocker_count ns later c → blocker_count ns ms c ≡ suc (blocker_count ns later c)
    → ((b : ℕ) → (b ≡ c → ⊥) → blocker_count ns later b ≡ blocker_count ns ms b) → (v : Bool) → nat_lt 0 (count_of s c) ≡ v → cond v (is_ready ns ms k) (woken ns later c (is_ready ns ms k) k) ≡ is_ready ns later k
ready_released ns ms later s c k w now before others true e =
    ready_same ns ms later k w (elim (cases_Bool (is_token c (need ns k).waits)) [
      | inl mine ↦ blocked_is ns later c (need ns k).waits mine ∙ ap (nat_lt 0) (sym now) ∙ e ∙ sym (blocked_is ns ms c (need ns k).waits mine ∙ lt-ltb 0 (blocker_count ns ms c) (omega (arith, before)))
      | inr other ↦ blocked_same ns ms later (need ns k).waits (λ b h. others b (λ (q : b ≡ c). both_ways (is_token c (need ns k).waits) other (subst (λ (x : ℕ). is_token x (need ns k).waits ≡ true) q h)))
    ])
ready_released ns ms later s c k w now before others false e =
    elim (cases_Bool (is_token c (need ns k).waits)) [
      | inl mine ↦ (let free : is_blocked ns later (need ns k).waits ≡ false = blocked_is ns later c (need ns k).waits mine ∙ ap (nat_lt 0) (sym now) ∙ e in
          cond-true (is_token c (need ns k).waits) (is_waiting (phase_of later k)) (is_ready ns ms k) mine ∙ whole (nat_lt k (length ns)) (is_waiting (phase_of later k)) (is_blocked ns later (need ns k).waits) (lt-ltb k (length ns) (need_in ns c k mine)) free)
      | inr other ↦ cond-false (is_token c (need ns k).waits) (is_waiting (phase_of later k)) (is_ready ns ms k) other
          ∙ ready_same ns ms later k w (blocked_same ns ms later (need ns k).waits (λ b h. others b (λ (q : b ≡ c). both_ways (is_token c (need ns k).waits) other (subst (λ (x : ℕ). is_token x (need ns k).waits ≡ true) q h))))
    ]
  where
    whole : (x y z : Bool) → x ≡ true → z ≡ false → y ≡ (x && (y && not z))
    whole true true false e h = refl
    whole true false z e h = refl
    whole true true true e h = absurd (false≢true (sym h))
    whole false y z e h = absurd (false≢true e)

ready_end : (ns : List Needs) (ms : List Phase) (s : TokenState) (t : ℕ) (wrote : Bool) → t < length ns → t < length ms → is_running (phase_of ms t) ≡ true → ((b : ℕ) → b < length s.counts → count_of s b ≡ blocker_count ns ms b) → ((b : ℕ) → is_token b (need ns t).releases ≡ true → b < length s.counts)
    → (o : Option ℕ) → (need ns t).releases ≡ o → (k : ℕ) → ready_after ns (set ms t (Done wrote)) (after_release s o) o (is_ready ns ms k) k ≡ is_ready ns (set ms t (Done wrote)) k
ready_end ns ms s t wrote lt lm runs counted known None e k =
    ready_same ns ms (set ms t (Done wrote)) k (phase_test is_waiting ms t (Done wrote) lm (sym (running_not_waiting (phase_of ms t) runs)) k)
    (blocked_same ns ms (set ms t (Done wrote)) (need ns k).waits (λ b h. counts_kept ns ms t b wrote (ap (is_token b) e)))
ready_end ns ms s t wrote lt lm runs counted known (Some c) e k =
    let mine : is_token c (need ns t).releases ≡ true = ap (is_token c) e ∙ eq-eqb c c refl in
    let undone : is_done (phase_of ms t) ≡ false = running_not_done (phase_of ms t) runs in
    let lc : c < length s.counts = known c mine in
    let now : count_of (after_release s (Some c)) c ≡ blocker_count ns (set ms t (Done wrote)) c = subst (λ (o : Option ℕ). count_of (after_release s o) c ≡ blocker_count ns (set ms t (Done wrote)) c) e (counted_end ns ms s t c wrote lt lm undone lc (counted c lc)) in
    ready_released ns ms (set ms t (Done wrote)) (after_release s (Some c)) c k (phase_test is_waiting ms t (Done wrote) lm (sym (running_not_waiting (phase_of ms t) runs)) k) now
    (counts_less ns ms t c wrote lt lm undone mine)
    (λ b o. counts_kept ns ms t b wrote (ap (is_token b) e ∙ ne_eqb c b (λ (q : c ≡ b). o (sym q))))
    (nat_lt 0 (count_of (after_release s (Some c)) c)) refl

pub end_board : (ns : List Needs) (ms : List Phase) (tokens unlocked : TokenState) (ready later : List Bool) (first next : List ℕ) (left : ℕ) (stopped : Bool) (t : ℕ) (wrote : Bool) → IsBoard ns ms tokens ready first next left stopped → t < length ns → is_running (phase_of ms t) ≡ true
    → unlocked.counts ≡ tokens.counts → length unlocked.locked ≡ length tokens.locked → ((l : ℕ) → token.is_locked unlocked l ≡ (token.is_locked tokens l && not (has l (need ns t).locks)))
    → length later ≡ length ready → ((k : ℕ) → mark later k ≡ ready_after ns (set ms t (Done wrote)) (after_release unlocked (need ns t).releases) (need ns t).releases (mark ready k) k)
    → IsBoard ns (set ms t (Done wrote)) (after_release unlocked (need ns t).releases) later first next (left - 1) (stopped || not wrote)
end_board ns ms tokens unlocked ready later first next left stopped t wrote h lt runs counts size locks room marks =
    let lm : t < length ms = omega (arith, lt, h.size) in
    let undone : is_done (phase_of ms t) ≡ false = running_not_done (phase_of ms t) runs in
    let o : Option ℕ = (need ns t).releases in
    let same : length (after_release unlocked o).counts ≡ length tokens.counts = after_size unlocked o ∙ ap (λ (cs : List ℕ). length cs) counts in
    let locked_size : length (after_release unlocked o).locked ≡ length tokens.locked = ap (λ (ls : List Bool). length ls) (after_locked unlocked o) ∙ size in
    let were : (b : ℕ) → b < length unlocked.counts → count_of unlocked b ≡ blocker_count ns ms b = λ (b : ℕ) (l : b < length unlocked.counts). ap (λ (cs : List ℕ). get_or cs b 0) counts ∙ h.counted b (subst (λ (cs : List ℕ). b < length cs) counts l) in
    record {
      size = length-set ms t (Done wrote) ∙ h.size;
      few = h.few;
      known = known_same ns tokens (after_release unlocked o) same locked_size h.known;
      counted = λ b l. counted_end ns ms unlocked t b wrote lt lm undone (omega (arith, l, after_size unlocked o)) (were b (omega (arith, l, after_size unlocked o)));
      locked = λ l ll. ap (λ (ls : List Bool). get_or ls l false) (after_locked unlocked o) ∙ locks l ∙ ap (λ (x : Bool). x && not (has l (need ns t).locks)) (h.locked l (omega (arith, ll, locked_size))) ∙ locked_end ns ms t wrote lm runs h.held_once l;
      held_once = held_end ns ms t wrote lm h.held_once;
      room = omega (arith, h.room, room);
      ready_is = λ k. marks k ∙ ap (λ (x : Bool). ready_after ns (set ms t (Done wrote)) (after_release unlocked o) o x k) (h.ready_is k)
          ∙ ready_end ns ms unlocked t wrote lt lm runs were (λ b e. subst (λ (cs : List ℕ). b < length cs) (sym counts) (h.known.releases t b e)) o refl k;
      linked = subst (λ (n : ℕ). AreLinkedFrom ns n 0 first next) (sym same) h.linked;
      left_is = less_one left (count_below (is_undone (set ms t (Done wrote))) (length ns)) (h.left_is ∙ count_less (is_undone ms) (is_undone (set ms t (Done wrote))) (length ns) t lt (not_from_false (is_done (phase_of ms t)) undone)
          (not_from_true (is_done (phase_of (set ms t (Done wrote)) t)) (ap is_done (phase_set_same ms t (Done wrote) lm))) (λ k kl q. ap (λ (x : Phase). not (is_done x)) (sym (phase_set_other ms t k (Done wrote) q))));
      stopped_is = or_comm stopped (not wrote) ∙ ap (λ (x : Bool). not wrote || x) h.stopped_is ∙ sym (list_any_set has_failed ms t (Done wrote) Waiting lm (running_not_failed (phase_of ms t) runs));
    }
  where
    running_not_failed : (x : Phase) → is_running x ≡ true → has_failed x ≡ false
    running_not_failed Waiting e = refl
    running_not_failed (Running v) e = refl
    running_not_failed (Done wrote) e = absurd (false≢true e)

-- Before any task is taken.

still : (n k : ℕ) → phase_of (all_waiting n) k ≡ Waiting
still n k = get_or-replicate_any n k Waiting

pub first_board : (ns : List Needs) (blockers : ℕ) (tokens : TokenState) (ready : List Bool) (first next : List ℕ) → length ns < 2 ^ 32 → AreFirst ns blockers tokens → length ns ≤ length ready → ((k : ℕ) → mark ready k ≡ (nat_lt k (length ns) && not (is_counted_up tokens (need ns k).waits))) → AreLinkedFrom ns blockers 0 first next
    → IsBoard ns (all_waiting (length ns)) tokens ready first next (length ns) false
first_board ns blockers tokens ready first next few h room marks linked =
    let n = length ns in
    let counts : (b : ℕ) → b < length tokens.counts → count_of tokens b ≡ blocker_count ns (all_waiting (length ns)) b = λ (b : ℕ) (l : b < length tokens.counts). h.counted b l
    ∙ count_same (λ (t : ℕ). is_token b (need ns t).releases) (is_counted ns (all_waiting (length ns)) b) (length ns) (λ k kl. sym (ap (λ (x : Phase). is_token b (need ns k).releases && not (is_done x)) (still (length ns) k) ∙ and_true (is_token b (need ns k).releases))) in
    record {
      size = length-replicate (length ns) Waiting;
      few = few;
      known = h.known;
      counted = counts;
      locked = λ l ll. h.unlocked l ∙ sym (any_below_none (has_lock ns (all_waiting (length ns)) l) (length ns) (λ k kl. none k l));
      held_once = λ l t u a b. absurd (both_ways (has_lock ns (all_waiting (length ns)) l t) (none t l) a);
      room = room;
      ready_is = λ t. marks t ∙ ap (λ (x : Bool). nat_lt t (length ns) && x) (ap not (counted_up (need ns t).waits (λ b e. counts b (h.known.waits t b e))) ∙ ap (λ (x : Phase). is_waiting x && not (is_blocked ns (all_waiting (length ns)) (need ns t).waits)) (sym (still (length ns) t)));
      linked = subst (λ (m : ℕ). AreLinkedFrom ns m 0 first next) (sym h.size) linked;
      left_is = sym (count_all (is_undone (all_waiting (length ns))) (length ns) (λ k kl. ap (λ (x : Phase). not (is_done x)) (still (length ns) k)));
      stopped_is = sym (list_any_none_of has_failed (length ns) Waiting refl);
    }
  where
    and_true : (x : Bool) → (x && true) ≡ x
    and_true true = refl
    and_true false = refl

    none : (t l : ℕ) → has_lock ns (all_waiting (length ns)) l t ≡ false
    none t l = and_left (is_running (phase_of (all_waiting (length ns)) t)) (has l (need ns t).locks) (ap is_running (still (length ns) t))

    counted_up : (o : Option ℕ) → ((b : ℕ) → is_token b o ≡ true → count_of tokens b ≡ blocker_count ns (all_waiting (length ns)) b) → is_counted_up tokens o ≡ is_blocked ns (all_waiting (length ns)) o
    counted_up None c = refl
    counted_up (Some b) c = ap (nat_lt 0) (c b (eq-eqb b b refl))

-- What a board answers.

pub all_done_is : (ns : List Needs) (ms : List Phase) (left : ℕ) → length ms ≡ length ns → left ≡ count_below (is_undone ms) (length ns) → (left == 0) ≡ is_all_done ms
all_done_is ns ms left size is =
    same_test (left == 0) (is_all_done ms)
    (λ e. let none : count_below (is_undone ms) (length ns) ≡ 0 = sym is ∙ eqb-true left 0 e in
    all_from is_done ms Waiting (λ i l. not-false (is_done (phase_of ms i)) (count_zero (is_undone ms) (length ns) i none (omega (arith, l, size)))))
    (λ e. eq-eqb left 0 (is ∙ none_left ms (length ns) (λ k kl. not_from_true (is_done (phase_of ms k)) (all_done_at ms k (omega (arith, kl, size)) e))))
  where
    none_left : (ms : List Phase) (n : ℕ) → ((k : ℕ) → k < n → is_undone ms k ≡ false) → count_below (is_undone ms) n ≡ 0
    none_left ms n h = count_none (is_undone ms) n h

    all_done_at : (ms : List Phase) (k : ℕ) → k < length ms → is_all_done ms ≡ true → is_done (phase_of ms k) ≡ true
    all_done_at ms k l e = all_at is_done ms k Waiting e l

pub lowest_is : (ns : List Needs) (ms : List Phase) (tokens : TokenState) (ready : List Bool) (first next : List ℕ) (left : ℕ) (stopped : Bool) → IsBoard ns ms tokens ready first next left stopped → first_below (λ k. mark ready k && are_free tokens (need ns k).locks) (length ns) ≡ lowest_runnable ns ms
lowest_is ns ms tokens ready first next left stopped h =
    first_same (λ k. mark ready k && are_free tokens (need ns k).locks) (is_runnable ns ms) 0 (length ns) (λ k low high. each k (omega (arith, high)))
  where
    and_assoc : (a b c d : Bool) → a ≡ true → ((a && (b && c)) && d) ≡ (b && (c && d))
    and_assoc true true c d e = refl
    and_assoc true false c d e = refl
    and_assoc false b c d e = absurd (false≢true e)

    each : (k : ℕ) → k < length ns → (mark ready k && are_free tokens (need ns k).locks) ≡ is_runnable ns ms k
    each k l =
        ap (λ (x : Bool). x && are_free tokens (need ns k).locks) (h.ready_is k)
        ∙ ap (λ (x : Bool). is_ready ns ms k && not x) (any_listed (token.is_locked tokens) (is_locked ns ms) (need ns k).locks (λ n e. h.locked n (h.known.locks_there k n e)))
        ∙ and_assoc (nat_lt k (length ns)) (is_waiting (phase_of ms k)) (not (is_blocked ns ms (need ns k).waits)) (not (list_any (is_locked ns ms) (need ns k).locks)) (lt-ltb k (length ns) l)

-- a running task counts for the blocker that it releases
pub release_counted : (ns : List Needs) (ms : List Phase) (tokens unlocked : TokenState) (ready : List Bool) (first next : List ℕ) (left : ℕ) (stopped : Bool) (t : ℕ) → IsBoard ns ms tokens ready first next left stopped → t < length ns → is_running (phase_of ms t) ≡ true → unlocked.counts ≡ tokens.counts → (b : ℕ) → is_token b (need ns t).releases ≡ true → 0 < count_of unlocked b
release_counted ns ms tokens unlocked ready first next left stopped t h lt runs counts b e =
    let is : count_of unlocked b ≡ blocker_count ns ms b = ap (λ (cs : List ℕ). get_or cs b 0) counts ∙ h.counted b (h.known.releases t b e) in
    omega (arith, is, counts_less ns ms t b true lt (omega (arith, lt, h.size)) (running_not_done (phase_of ms t) runs) e)

-- a running task is left
pub one_left : (ns : List Needs) (ms : List Phase) (tokens : TokenState) (ready : List Bool) (first next : List ℕ) (left : ℕ) (stopped : Bool) (t : ℕ) → IsBoard ns ms tokens ready first next left stopped → t < length ns → is_running (phase_of ms t) ≡ true → 1 ≤ left
one_left ns ms tokens ready first next left stopped t h lt runs =
    let lm : t < length ms = omega (arith, lt, h.size) in
    let less = count_less (is_undone ms) (is_undone (set ms t (Done true))) (length ns) t lt (not_from_false (is_done (phase_of ms t)) (running_not_done (phase_of ms t) runs))
    (not_from_true (is_done (phase_of (set ms t (Done true)) t)) (ap is_done (phase_set_same ms t (Done true) lm))) (λ k kl q. ap (λ (x : Phase). not (is_done x)) (sym (phase_set_other ms t k (Done true) q))) in
    omega (arith, less, h.left_is)
