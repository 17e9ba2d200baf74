-- A sweep over the tasks below a task finds exactly the blockers by which it waits.
use Rattle.std.proofs.Common.{◌≡◌, ℕ, zero, suc, ◌+◌, ◌-◌, ◌==◌, ◌<◌, ◌≤◌, ◌⊎◌, Bool, true, false, ◌&&◌, ◌||◌, cond, List, length, get_or, Option, None, Some, refl, sym, ap, ◌∙◌, subst, inl, inr, arith}
use Rattle.std.specs.List.{list_all}
use Rattle.std.proofs.lemmas.Bool.{false≢true, or_cases, or_left, or_right, and_parts, and_from, eqb-true, eq-eqb, ne_eqb, cases_eq, cases_lt}
use Rattle.lk_task_runs.specs.declared.tasks.Needs.{Needs}
use Rattle.lk_task_runs.specs.Below.{has, any_below}
use Rattle.lk_task_runs.specs.Phases.{need, is_token, is_same_token, blocks}
use Rattle.lk_task_runs.specs.Orders.{reaches, is_after_token, is_after, waits_ahead}
use Rattle.lk_task_runs.proofs.NumbersBelow.{any_below_some}
use Rattle.lk_task_runs.proofs.ScheduledTasks.{waits_for_lower}
use Rattle.lk_task_board.proofs.Counting.{same_test}
use Rattle.lk_task_order.specs.Sweeps.{passes_token, swept, AreSwept}
use Rattle.lk_task_order.proofs.BlockersReached.{joins, reach_within, reach_join}
use Rattle.lk_task_order.proofs.Listing.{all_listed, all_same}

pub swept_more : (ns : List Needs) (u j i b : ℕ) → j ≤ i → swept ns u j b ≡ true → swept ns u i b ≡ true
swept_more ns u j zero b l e = let same : j ≡ 0 = omega (arith, l) in subst (λ (k : ℕ). swept ns u k b ≡ true) same e
swept_more ns u j (suc i) b l e =
    elim (cases_eq j (suc i)) [
      | inl same ↦ subst (λ (k : ℕ). swept ns u k b ≡ true) same e
      | inr other ↦ or_left (swept ns u i b) (passes_token (swept ns u i) (need ns (u - suc i)).releases && is_token b (need ns (u - suc i)).waits) (swept_more ns u j i b (omega (arith, l, other)) e)
    ]

pub passes_parts : (p : ℕ → Bool) (o : Option ℕ) → passes_token p o ≡ true → (c : ℕ) × (is_token c o ≡ true) × (p c ≡ true)
passes_parts p None e = absurd (false≢true e)
passes_parts p (Some c) e = (c, eq-eqb c c refl, e)

pub passes_from : (p : ℕ → Bool) (o : Option ℕ) (c : ℕ) → is_token c o ≡ true → p c ≡ true → passes_token p o ≡ true
passes_from p None c e h = absurd (false≢true e)
passes_from p (Some d) c e h = subst (λ (x : ℕ). p x ≡ true) (sym (eqb-true d c e)) h

-- tests that agree on a token
pub passes_same : (p q : ℕ → Bool) (o : Option ℕ) → ((b : ℕ) → is_token b o ≡ true → p b ≡ q b) → passes_token p o ≡ passes_token q o
passes_same p q None h = refl
passes_same p q (Some b) h = h b (eq-eqb b b refl)

-- a blocker that was swept is waited for
pub swept_reaches : (ns : List Needs) (u j b : ℕ) → ((x : ℕ) → x ≤ u → waits_ahead ns x ≡ false) → u < length ns → j ≤ u → swept ns u j b ≡ true → reaches ns u b u ≡ true
swept_reaches ns u zero b order there l e = reach_within ns 0 b u e
swept_reaches ns u (suc j) b order there l e =
    elim (or_cases (swept ns u j b) (passes_token (swept ns u j) (need ns (u - suc j)).releases && is_token b (need ns (u - suc j)).waits) e) [
      | inl before ↦ swept_reaches ns u j b order there (omega (arith, l)) before
      | inr here ↦ (let parts = and_parts (passes_token (swept ns u j) (need ns (u - suc j)).releases) (is_token b (need ns (u - suc j)).waits) here in
          let c = passes_parts (swept ns u j) (need ns (u - suc j)).releases parts.0 in
          reach_join ns u c.0 b (u - suc j) u 0 order (omega (arith, there)) c.1 (swept_reaches ns u j c.0 order there (omega (arith, l)) c.2) parts.1)
    ]

-- a task is the one that is swept for, or releases a blocker that was swept above it
abbrev IsOnWay : List Needs → ℕ → ℕ → Type 0
IsOnWay ns u x = (x ≡ u) ⊎ ((x < u) × (passes_token (swept ns u (u - (x + 1))) (need ns x).releases ≡ true))

-- what it waits for is swept then
way_waits : (ns : List Needs) (u x d : ℕ) → IsOnWay ns u x → is_token d (need ns x).waits ≡ true → swept ns u (u - x) d ≡ true
way_waits ns u x d (inl same) e =
    let none : 0 ≡ u - x = omega (arith, same) in
    subst (λ (k : ℕ). swept ns u k d ≡ true) none (subst (λ (k : ℕ). is_token d (need ns k).waits ≡ true) same e)
way_waits ns u x d (inr way) e =
    let next : suc (u - (x + 1)) ≡ u - x = omega (arith, way.0) in
    let here : x ≡ u - suc (u - (x + 1)) = omega (arith, way.0) in
    let both : (passes_token (swept ns u (u - (x + 1))) (need ns x).releases && is_token d (need ns x).waits) ≡ true = and_from (passes_token (swept ns u (u - (x + 1))) (need ns x).releases) (is_token d (need ns x).waits) way.1 e in
    subst (λ (k : ℕ). swept ns u k d ≡ true) next
    (or_right (swept ns u (u - (x + 1)) d) (passes_token (swept ns u (u - (x + 1))) (need ns (u - suc (u - (x + 1)))).releases && is_token d (need ns (u - suc (u - (x + 1)))).waits)
    (subst (λ (k : ℕ). (passes_token (swept ns u (u - (x + 1))) (need ns k).releases && is_token d (need ns k).waits) ≡ true) here both))

same_parts : (r o : Option ℕ) → is_same_token r o ≡ true → (d : ℕ) × (is_token d o ≡ true) × (is_token d r ≡ true)
same_parts r None e = absurd (false≢true e)
same_parts r (Some d) e = (d, eq-eqb d d refl, e)

-- a blocker that is waited for, and that a task from `low` on releases, is swept
pub reaches_swept : (ns : List Needs) (u low t b k x : ℕ) → ((y : ℕ) → y ≤ u → waits_ahead ns y ≡ false) → low ≤ t → t < length ns → is_token b (need ns t).releases ≡ true → x ≤ u → IsOnWay ns u x → reaches ns k b x ≡ true → swept ns u (u - low) b ≡ true
reaches_swept ns u low t b zero x order l there rel within way e =
    let lower : t < x = waits_for_lower ns t x (order x within) there (joins b (need ns x).waits (need ns t).releases e rel) in
    swept_more ns u (u - x) (u - low) b (omega (arith, l, lower)) (way_waits ns u x b way e)
reaches_swept ns u low t b (suc k) x order l there rel within way e =
    elim (or_cases (is_token b (need ns x).waits) (any_below (λ v. blocks ns v x && reaches ns k b v) x) e) [
      | inl here ↦ (let lower : t < x = waits_for_lower ns t x (order x within) there (joins b (need ns x).waits (need ns t).releases here rel) in
          swept_more ns u (u - x) (u - low) b (omega (arith, l, lower)) (way_waits ns u x b way here))
      | inr by ↦ (let v = any_below_some (λ w. blocks ns w x && reaches ns k b w) x by in
          let parts = and_parts (blocks ns v.0 x) (reaches ns k b v.0) v.2 in
          let d = same_parts (need ns v.0).releases (need ns x).waits parts.0 in
          let above : swept ns u (u - (v.0 + 1)) d.0 ≡ true = swept_more ns u (u - x) (u - (v.0 + 1)) d.0 (omega (arith, v.1)) (way_waits ns u x d.0 way d.1) in
          reaches_swept ns u low t b k v.0 order l there rel (omega (arith, v.1, within)) (inr (omega (arith, v.1, within), passes_from (swept ns u (u - (v.0 + 1))) (need ns v.0).releases d.0 d.2 above)) parts.1)
    ]

-- a lower task from `low` on, or one that releases the very blocker that the task waits for, is before it exactly where
-- the blocker that it releases was swept
after_step : (ns : List Needs) (u low t : ℕ) (o : Option ℕ) → (need ns t).releases ≡ o → ((x : ℕ) → x ≤ u → waits_ahead ns x ≡ false) → u < length ns → t < u → (t < low → blocks ns t u ≡ true) → is_after_token ns u o ≡ passes_token (swept ns u (u - low)) o
after_step ns u low t None e order there l direct = refl
after_step ns u low t (Some b) e order there l direct =
    let rel : is_token b (need ns t).releases ≡ true = ap (is_token b) e ∙ eq-eqb b b refl in
    same_test (reaches ns u b u) (swept ns u (u - low) b)
    (λ r. elim (cases_lt t low) [
      | inl below ↦ (let d = same_parts (need ns t).releases (need ns u).waits (direct below) in
          let one : b ≡ d.0 = eqb-true b d.0 (ap (is_token d.0) (sym e) ∙ d.2) in
          swept_more ns u 0 (u - low) b (omega arith) (subst (λ (x : ℕ). is_token x (need ns u).waits ≡ true) (sym one) d.1))
      | inr high ↦ reaches_swept ns u low t b u u order high (omega (arith, l, there)) rel (omega arith) (inl refl) r
    ])
    (λ s. swept_reaches ns u (u - low) b order there (omega arith) s)

pub after_swept : (ns : List Needs) (u low t : ℕ) → ((x : ℕ) → x ≤ u → waits_ahead ns x ≡ false) → u < length ns → t < u → (t < low → blocks ns t u ≡ true) → is_after ns t u ≡ passes_token (swept ns u (u - low)) (need ns t).releases
after_swept ns u low t order there l direct = after_step ns u low t (need ns t).releases refl order there l direct

no_token : (o : Option ℕ) → is_same_token None o ≡ true → ⊥
no_token None e = false≢true e
no_token (Some b) e = false≢true e

direct_step : (ns : List Needs) (t u : ℕ) (o : Option ℕ) → (need ns t).releases ≡ o → blocks ns t u ≡ true → is_after_token ns u o ≡ true
direct_step ns t u None h e = absurd (no_token (need ns u).waits (ap (λ (o : Option ℕ). is_same_token o (need ns u).waits) (sym h) ∙ e))
direct_step ns t u (Some b) h e =
    let d = same_parts (need ns t).releases (need ns u).waits e in
    let one : b ≡ d.0 = eqb-true b d.0 (ap (is_token d.0) (sym h) ∙ d.2) in
    reach_within ns 0 b u (subst (λ (x : ℕ). is_token x (need ns u).waits ≡ true) (sym one) d.1)

pub direct_after : (ns : List Needs) (t u : ℕ) → blocks ns t u ≡ true → is_after ns t u ≡ true
direct_after ns t u e = direct_step ns t u (need ns t).releases refl e

-- The marks of a sweep.

pub mark_start : (ns : List Needs) (u : ℕ) (old reached : List ℕ) → ((b : ℕ) → get_or old b 0 ≤ u) → ((b : ℕ) → get_or reached b 0 ≡ cond (is_token b (need ns u).waits) (u + 1) (get_or old b 0)) → AreSwept ns u 0 (u + 1) reached
mark_start ns u old reached least is =
    record {
      most = λ b. subst (λ (x : ℕ). x ≤ u + 1) (sym (is b)) (most_of (is_token b (need ns u).waits) (u + 1) (get_or old b 0) (omega (arith, least b)));
      marks = λ b l. ap (λ (x : ℕ). x == u + 1) (is b) ∙ mark_of (is_token b (need ns u).waits) (get_or old b 0) (least b);
    }
  where
    mark_of : (q : Bool) (x : ℕ) → x ≤ u → (cond q (u + 1) x == u + 1) ≡ q
    mark_of true x l = eq-eqb (u + 1) (u + 1) refl
    mark_of false x l = ne_eqb x (u + 1) (λ (e : x ≡ u + 1). absurd (omega (arith, e, l)))

    most_of : (q : Bool) (n x : ℕ) → x ≤ n → cond q n x ≤ n
    most_of true n x l = omega arith
    most_of false n x l = l

-- the tasks below a task that is not on the way are not looked at for it
pub mark_passed : (ns : List Needs) (u j n v : ℕ) (reached : List ℕ) → v ≡ u - suc j → passes_token (swept ns u j) (need ns v).releases ≡ false → AreSwept ns u j n reached → AreSwept ns u (suc j) n reached
mark_passed ns u j n v reached here e h =
    record {
      most = h.most;
      marks = λ b l. h.marks b l ∙ plain (swept ns u j b) (passes_token (swept ns u j) (need ns (u - suc j)).releases) (is_token b (need ns (u - suc j)).waits) (subst (λ (k : ℕ). passes_token (swept ns u j) (need ns k).releases ≡ false) here e);
    }
  where
    plain : (a p q : Bool) → p ≡ false → a ≡ (a || (p && q))
    plain true p q e = refl
    plain false true q e = absurd (false≢true (sym e))
    plain false false q e = refl

pub mark_more : (ns : List Needs) (u j n v : ℕ) (reached now : List ℕ) → v ≡ u - suc j → length now ≡ length reached → passes_token (swept ns u j) (need ns v).releases ≡ true → ((b : ℕ) → get_or now b 0 ≡ cond (is_token b (need ns v).waits) n (get_or reached b 0)) → AreSwept ns u j n reached → AreSwept ns u (suc j) n now
mark_more ns u j n v reached now here size e is h =
    record {
      most = λ b. subst (λ (x : ℕ). x ≤ n) (sym (is b)) (most_of (is_token b (need ns v).waits) n (get_or reached b 0) (h.most b));
      marks = λ b l. ap (λ (x : ℕ). x == n) (is b)
          ∙ marked (is_token b (need ns v).waits) (get_or reached b 0) (swept ns u j b) (h.marks b (omega (arith, l, size)))
          ∙ ap (λ (p : Bool). swept ns u j b || (p && is_token b (need ns v).waits)) (sym e)
          ∙ ap (λ (k : ℕ). swept ns u j b || (passes_token (swept ns u j) (need ns k).releases && is_token b (need ns k).waits)) here;
    }
  where
    most_of : (q : Bool) (n x : ℕ) → x ≤ n → cond q n x ≤ n
    most_of true n x l = omega arith
    most_of false n x l = l

    marked : (q : Bool) (x : ℕ) (s : Bool) → (x == n) ≡ s → (cond q n x == n) ≡ (s || (true && q))
    marked true x true m = eq-eqb n n refl
    marked true x false m = eq-eqb n n refl
    marked false x true m = m
    marked false x false m = m

-- all are before a task, by their blockers
pub all_swept : (ns : List Needs) (u low : ℕ) (reached before : List ℕ) → ((x : ℕ) → x ≤ u → waits_ahead ns x ≡ false) → u < length ns → ((t : ℕ) → has t before ≡ true → t < u) → ((t : ℕ) → has t before ≡ true → t < low → blocks ns t u ≡ true) → ((t b : ℕ) → is_token b (need ns t).releases ≡ true → b < length reached) → AreSwept ns u (u - low) (u + 1) reached
    → list_all (λ t. passes_token (λ b. get_or reached b 0 == u + 1) (need ns t).releases) before ≡ list_all (λ t. is_after ns t u) before
all_swept ns u low reached before order there below direct known h =
    all_same (λ (t : ℕ). passes_token (λ b. get_or reached b 0 == u + 1) (need ns t).releases) (λ (t : ℕ). is_after ns t u) before
    (λ t e. passes_same (λ (b : ℕ). get_or reached b 0 == u + 1) (swept ns u (u - low)) (need ns t).releases (λ b r. h.marks b (known t b r)) ∙ sym (after_swept ns u low t order there (below t e) (direct t e)))

-- all are before a task where each releases the very blocker that it waits for
pub all_direct : (ns : List Needs) (u low : ℕ) (before : List ℕ) → low ≡ u → ((t : ℕ) → has t before ≡ true → t < u) → ((t : ℕ) → has t before ≡ true → t < low → blocks ns t u ≡ true) → true ≡ list_all (λ t. is_after ns t u) before
all_direct ns u low before same below direct = sym (all_listed (λ (t : ℕ). is_after ns t u) before (λ t e. direct_after ns t u (direct t e (omega (arith, same, below t e)))))
