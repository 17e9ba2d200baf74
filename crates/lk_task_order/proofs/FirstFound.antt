-- The first task that is not ordered, and which tasks wait ahead.
use Rattle.std.proofs.Common.{◌≡◌, ℕ, ◌+◌, ◌-◌, ◌<◌, ◌≤◌, true, false, not, ◌&&◌, List, length, nat_lt, None, Some, sym, ap, ◌∙◌, subst, inl, inr, arith}
use Rattle.std.proofs.lemmas.Bool.{and_from, and_left, and_right, or_left, or_right, or_from, or_parts, not_from_true, not_from_false, lt-ltb, le-ltb, cases_eq, cases_lt}
use Rattle.lk_task_runs.specs.declared.tasks.Needs.{Needs}
use Rattle.lk_task_runs.specs.Phases.{need, is_token, is_same_token, blocks}
use Rattle.lk_task_runs.specs.Orders.{waits_ahead, clashes, is_not_ordered, first_not_ordered}
use Rattle.lk_task_runs.proofs.NumbersBelow.{any_below_at, any_below_none, first_is, first_absent}
use Rattle.lk_task_order.specs.Seen.{IsLastReleaser}

pub first_here : (ns : List Needs) (u : ℕ) → u < length ns → is_not_ordered ns u ≡ true → ((x : ℕ) → x < u → is_not_ordered ns x ≡ false) → Some u ≡ first_not_ordered ns
first_here ns u l e before = sym (first_is (is_not_ordered ns) 0 (length ns) u (omega arith) (omega (arith, l)) e (λ j low below. before j below))

pub waits_here : (ns : List Needs) (u : ℕ) → u < length ns → waits_ahead ns u ≡ true → ((x : ℕ) → x < u → is_not_ordered ns x ≡ false) → Some u ≡ first_not_ordered ns
waits_here ns u l e before = first_here ns u l (or_left (waits_ahead ns u) (clashes ns u) e) before

pub clashes_here : (ns : List Needs) (u : ℕ) → u < length ns → clashes ns u ≡ true → ((x : ℕ) → x < u → is_not_ordered ns x ≡ false) → Some u ≡ first_not_ordered ns
clashes_here ns u l e before = first_here ns u l (or_right (waits_ahead ns u) (clashes ns u) e) before

pub all_ordered : (ns : List Needs) (u : ℕ) → length ns ≤ u → ((x : ℕ) → x < u → is_not_ordered ns x ≡ false) → None ≡ first_not_ordered ns
all_ordered ns u l before = sym (first_absent (is_not_ordered ns) 0 (length ns) (λ k low high. before k (omega (arith, high, l))))

pub ordered_more : (ns : List Needs) (u : ℕ) → waits_ahead ns u ≡ false → clashes ns u ≡ false → ((x : ℕ) → x < u → is_not_ordered ns x ≡ false) → (x : ℕ) → x < u + 1 → is_not_ordered ns x ≡ false
ordered_more ns u w c before x l =
    elim (cases_eq x u) [
      | inl same ↦ subst (λ (j : ℕ). is_not_ordered ns j ≡ false) (sym same) (or_from (waits_ahead ns u) (clashes ns u) w c)
      | inr other ↦ before x (omega (arith, l, other))
    ]

-- the tasks up to one do not wait ahead
pub none_ahead : (ns : List Needs) (u : ℕ) → waits_ahead ns u ≡ false → ((x : ℕ) → x < u → is_not_ordered ns x ≡ false) → (x : ℕ) → x ≤ u → waits_ahead ns x ≡ false
none_ahead ns u w before x l =
    elim (cases_eq x u) [
      | inl same ↦ subst (λ (j : ℕ). waits_ahead ns j ≡ false) (sym same) w
      | inr other ↦ (or_parts (waits_ahead ns x) (clashes ns x) (before x (omega (arith, l, other)))).0
    ]

pub none_clashes : (ns : List Needs) (u : ℕ) → ((x : ℕ) → x < u → is_not_ordered ns x ≡ false) → (x : ℕ) → x < u → clashes ns x ≡ false
none_clashes ns u before x l = (or_parts (waits_ahead ns x) (clashes ns x) (before x l)).1

pub ahead_none : (ns : List Needs) (u : ℕ) → (need ns u).waits ≡ None → false ≡ waits_ahead ns u
ahead_none ns u e =
    sym (any_below_none (λ t. blocks ns t u && not (nat_lt t u)) (length ns) (λ t l. and_left (blocks ns t u) (not (nat_lt t u)) (ap (is_same_token (need ns t).releases) e)))

pub ahead_some : (ns : List Needs) (u b r : ℕ) → (need ns u).waits ≡ Some b → IsLastReleaser ns b (length ns) r → nat_lt u r ≡ waits_ahead ns u
ahead_some ns u b r e h =
    elim (cases_lt u r) [
      | inl l ↦ (let last : is_token b (need ns (r - 1)).releases ≡ true = h.releases (omega (arith, l)) in
          lt-ltb u r l ∙ sym (any_below_at (λ t. blocks ns t u && not (nat_lt t u)) (length ns) (r - 1) (omega (arith, l, h.within))
          (and_from (blocks ns (r - 1) u) (not (nat_lt (r - 1) u)) (ap (is_same_token (need ns (r - 1)).releases) e ∙ last) (not_from_false (nat_lt (r - 1) u) (le-ltb (r - 1) u (omega (arith, l)))))))
      | inr g ↦ le-ltb u r g ∙ sym (any_below_none (λ t. blocks ns t u && not (nat_lt t u)) (length ns) (λ t l. elim (cases_lt t r) [
        | inl low ↦ and_right (blocks ns t u) (not (nat_lt t u)) (not_from_true (nat_lt t u) (lt-ltb t u (omega (arith, low, g))))
        | inr high ↦ and_left (blocks ns t u) (not (nat_lt t u)) (ap (is_same_token (need ns t).releases) e ∙ h.later t high l)
      ]))
    ]
