-- The last writers of slots and the readers since, one task after another, and why a task need only be after these.
use Rattle.std.proofs.Common.{◌≡◌, ℕ, zero, suc, ◌+◌, ◌-◌, ◌==◌, ◌<◌, ◌≤◌, Bool, true, false, not, ◌&&◌, ◌||◌, cond, List, [], length, get_or, replicate, refl, sym, ◌∙◌, subst, inl, inr, arith}
use Rattle.std.specs.List.{list_any, list_all}
use Rattle.std.proofs.lemmas.Bool.{false≢true, both_ways, or_cases, or_left, or_right, and_parts, and_from, and_left, and_right, not_from_true, not_from_false, eqb-true, eq-eqb, cases_eq, cases_lt, cases_Bool}
use Rattle.std.proofs.lemmas.List.{length-replicate}
use Rattle.lk_task_runs.specs.declared.tasks.Needs.{Needs}
use Rattle.lk_task_runs.specs.Below.{has}
use Rattle.lk_task_runs.specs.Phases.{need}
use Rattle.lk_task_runs.specs.Orders.{is_after, touches, writes_for, shares, waits_ahead, clashes}
use Rattle.lk_task_runs.proofs.NumbersBelow.{any_below_at, any_below_none}
use Rattle.lk_task_runs.proofs.ScheduledTasks.{sharing_after}
use Rattle.lk_task_order.specs.Seen.{IsLastWriter, AreReaders, AreSeen, IsNoted, is_gathered}
use Rattle.lk_task_order.proofs.BlockersReached.{after_trans}
use Rattle.lk_task_order.proofs.Listing.{any_some, any_at, all_not, all_at_listed}

get_or-replicate_any : {X : Type 0} (n i : ℕ) (x : X) → get_or (replicate n x) i x ≡ x
get_or-replicate_any zero i x = refl
get_or-replicate_any (suc n) zero x = refl
get_or-replicate_any (suc n) (suc i) x = get_or-replicate_any n i x

-- before any task was looked at
pub seen_start : (ns : List Needs) (slots : ℕ) → AreSeen ns slots 0 (replicate slots 0) (replicate slots [])
seen_start ns slots =
    record {
      writers_size = length-replicate slots 0;
      readers_size = length-replicate slots [];
      writer_is = λ m l. subst (λ (w : ℕ). IsLastWriter ns m 0 w) (sym (get_or-replicate_any slots m 0)) (record { within = omega arith; writes = λ h. absurd (omega (arith, h)); later = λ t low high. absurd (omega (arith, high)) });
      readers_are = λ m l. subst (λ (rs : List ℕ). AreReaders ns m 0 (get_or (replicate slots 0) m 0) rs) (sym (get_or-replicate_any slots m [])) (record { sound = λ t h. absurd (false≢true h); all = λ t low high r. absurd (omega (arith, high)) });
    }

writer_more : (ns : List Needs) (m u w : ℕ) (writes : Bool) → has m (need ns u).writes ≡ writes → IsLastWriter ns m u w → IsLastWriter ns m (u + 1) (cond writes (u + 1) w)
writer_more ns m u w true e h =
    let back : (u + 1) - 1 ≡ u = omega arith in
    record { within = omega arith; writes = λ _. subst (λ (j : ℕ). has m (need ns j).writes ≡ true) (sym back) e; later = λ t low high. absurd (omega (arith, low, high)) }
writer_more ns m u w false e h =
    record {
      within = omega (arith, h.within);
      writes = h.writes;
      later = λ t low high. elim (cases_eq t u) [ inl same ↦ subst (λ (j : ℕ). has m (need ns j).writes ≡ false) (sym same) e | inr other ↦ h.later t low (omega (arith, high, other)) ];
    }

readers_more : (ns : List Needs) (m u w : ℕ) (rs now : List ℕ) (writes : Bool) → has m (need ns u).writes ≡ writes → AreReaders ns m u w rs → ((t : ℕ) → has t now ≡ (not writes && (has t rs || (u == t && has m (need ns u).reads)))) → AreReaders ns m (u + 1) (cond writes (u + 1) w) now
readers_more ns m u w rs now true e h is =
    record { sound = λ t x. absurd (false≢true (sym (is t) ∙ x)); all = λ t low high r. absurd (omega (arith, low, high)) }
readers_more ns m u w rs now false e h is =
    record {
      sound = λ t x. elim (or_cases (has t rs) (u == t && has m (need ns u).reads) (sym (is t) ∙ x)) [
        | inl old ↦ (let s = h.sound t old in (omega (arith, s.0), s.1))
        | inr new ↦ (let parts = and_parts (u == t) (has m (need ns u).reads) new in
            let same : u ≡ t = eqb-true u t parts.0 in
            (omega (arith, same), subst (λ (j : ℕ). has m (need ns j).reads ≡ true) same parts.1))
      ];
      all = λ t low high r. is t ∙ elim (cases_eq u t) [
        | inl same ↦ or_right (has t rs) (u == t && has m (need ns u).reads) (and_from (u == t) (has m (need ns u).reads) (eq-eqb u t same) (subst (λ (j : ℕ). has m (need ns j).reads ≡ true) (sym same) r))
        | inr other ↦ or_left (has t rs) (u == t && has m (need ns u).reads) (h.all t low (omega (arith, high, other)) r)
      ];
    }

-- one task more was looked at
pub seen_more : (ns : List Needs) (slots u : ℕ) (ws ws_now : List ℕ) (rs rs_now : List (List ℕ)) → AreSeen ns slots u ws rs → IsNoted (need ns u) u ws rs ws_now rs_now → AreSeen ns slots (u + 1) ws_now rs_now
seen_more ns slots u ws ws_now rs rs_now h n =
    record {
      writers_size = n.writers_size ∙ h.writers_size;
      readers_size = n.readers_size ∙ h.readers_size;
      writer_is = λ m l. subst (λ (w : ℕ). IsLastWriter ns m (u + 1) w) (sym (n.writer_is m)) (writer_more ns m u (get_or ws m 0) (has m (need ns u).writes) refl (h.writer_is m l));
      readers_are = λ m l. subst (λ (w : ℕ). AreReaders ns m (u + 1) w (get_or rs_now m [])) (sym (n.writer_is m)) (readers_more ns m u (get_or ws m 0) (get_or rs m []) (get_or rs_now m []) (has m (need ns u).writes) refl (h.readers_are m l) (n.readers_are m));
    }

touches_reads : (a : Needs) (m : ℕ) → has m a.reads ≡ true → touches a m ≡ true
touches_reads a m e = or_left (has m a.reads) (has m a.writes) e

touches_writes : (a : Needs) (m : ℕ) → has m a.writes ≡ true → touches a m ≡ true
touches_writes a m e = or_right (has m a.reads) (has m a.writes) e

-- a last writer that is gathered for a slot that the task touches
writer_shares : (ns : List Needs) (u t m w : ℕ) → IsLastWriter ns m u w → (w == t + 1) ≡ true → touches (need ns u) m ≡ true → (t < u) × (shares (need ns t) (need ns u) ≡ true)
writer_shares ns u t m w h e touched =
    let is : w ≡ t + 1 = eqb-true w (t + 1) e in
    let back : w - 1 ≡ t = omega (arith, is) in
    let wrote : has m (need ns t).writes ≡ true = subst (λ (j : ℕ). has m (need ns j).writes ≡ true) back (h.writes (omega (arith, is))) in
    (omega (arith, is, h.within), or_left (writes_for (need ns t) (need ns u)) (writes_for (need ns u) (need ns t)) (any_at (touches (need ns u)) (need ns t).writes m wrote touched))

pub gathered_shares : (ns : List Needs) (slots u : ℕ) (ws : List ℕ) (rs : List (List ℕ)) → AreSeen ns slots u ws rs → ((m : ℕ) → has m (need ns u).reads ≡ true → m < slots) → ((m : ℕ) → has m (need ns u).writes ≡ true → m < slots) → (t : ℕ) → is_gathered (need ns u) ws rs t ≡ true → (t < u) × (shares (need ns t) (need ns u) ≡ true)
gathered_shares ns slots u ws rs seen reads writes t e =
    elim (or_cases (list_any (λ m. get_or ws m 0 == t + 1) (need ns u).reads || list_any (λ m. get_or ws m 0 == t + 1) (need ns u).writes) (list_any (λ m. has t (get_or rs m [])) (need ns u).writes) e) [
      | inl writer ↦ elim (or_cases (list_any (λ m. get_or ws m 0 == t + 1) (need ns u).reads) (list_any (λ m. get_or ws m 0 == t + 1) (need ns u).writes) writer) [
        | inl read ↦ (let s = any_some (λ (m : ℕ). get_or ws m 0 == t + 1) (need ns u).reads read in
            writer_shares ns u t s.0 (get_or ws s.0 0) (seen.writer_is s.0 (reads s.0 s.1)) s.2 (touches_reads (need ns u) s.0 s.1))
        | inr wrote ↦ (let s = any_some (λ (m : ℕ). get_or ws m 0 == t + 1) (need ns u).writes wrote in
            writer_shares ns u t s.0 (get_or ws s.0 0) (seen.writer_is s.0 (writes s.0 s.1)) s.2 (touches_writes (need ns u) s.0 s.1))
      ]
      | inr reader ↦ (let s = any_some (λ (m : ℕ). has t (get_or rs m [])) (need ns u).writes reader in
          let r = (seen.readers_are s.0 (writes s.0 s.1)).sound t s.2 in
          (r.0, or_right (writes_for (need ns t) (need ns u)) (writes_for (need ns u) (need ns t)) (any_at (touches (need ns t)) (need ns u).writes s.0 s.1 (touches_reads (need ns t) s.0 r.1))))
    ]

module _ (ns : List Needs) (slots u : ℕ) (ws : List ℕ) (rs : List (List ℕ)) (seen : AreSeen ns slots u ws rs)
    (reads : (m : ℕ) → has m (need ns u).reads ≡ true → m < slots) (writes : (m : ℕ) → has m (need ns u).writes ≡ true → m < slots) (there : u < length ns)
    (order : (x : ℕ) → x ≤ u → waits_ahead ns x ≡ false) (lower : (x : ℕ) → x < u → clashes ns x ≡ false)
    (after : (t : ℕ) → is_gathered (need ns u) ws rs t ≡ true → is_after ns t u ≡ true) where
  gathered_writer : (t m : ℕ) → touches (need ns u) m ≡ true → (get_or ws m 0 == t + 1) ≡ true → is_gathered (need ns u) ws rs t ≡ true
  gathered_writer t m touched e =
      or_left (list_any (λ k. get_or ws k 0 == t + 1) (need ns u).reads || list_any (λ k. get_or ws k 0 == t + 1) (need ns u).writes) (list_any (λ k. has t (get_or rs k [])) (need ns u).writes)
      (elim (or_cases (has m (need ns u).reads) (has m (need ns u).writes) touched) [
        | inl r ↦ or_left (list_any (λ k. get_or ws k 0 == t + 1) (need ns u).reads) (list_any (λ k. get_or ws k 0 == t + 1) (need ns u).writes) (any_at (λ (k : ℕ). get_or ws k 0 == t + 1) (need ns u).reads m r e)
        | inr w ↦ or_right (list_any (λ k. get_or ws k 0 == t + 1) (need ns u).reads) (list_any (λ k. get_or ws k 0 == t + 1) (need ns u).writes) (any_at (λ (k : ℕ). get_or ws k 0 == t + 1) (need ns u).writes m w e)
      ])

  in_slots : (m : ℕ) → touches (need ns u) m ≡ true → m < slots
  in_slots m touched = elim (or_cases (has m (need ns u).reads) (has m (need ns u).writes) touched) [ inl r ↦ reads m r | inr w ↦ writes m w ]

  -- an earlier task that touches the slot of a last writer is before the task
  by_writer : (t m : ℕ) → touches (need ns u) m ≡ true → touches (need ns t) m ≡ true → t < get_or ws m 0 → is_after ns t u ≡ true
  by_writer t m touched mine l =
      let last = seen.writer_is m (in_slots m touched) in
      let w : ℕ = get_or ws m 0 - 1 in
      let one : get_or ws m 0 ≡ w + 1 = omega (arith, l) in
      let later : is_after ns w u ≡ true = after w (gathered_writer w m touched (eq-eqb (get_or ws m 0) (w + 1) one)) in
      elim (cases_eq t w) [
        | inl same ↦ subst (λ (j : ℕ). is_after ns j u ≡ true) (sym same) later
        | inr other ↦ (let below : t < w = omega (arith, l, one, other) in
            let inside : w < u = omega (arith, one, last.within) in
            let wrote : has m (need ns w).writes ≡ true = last.writes (omega (arith, l)) in
            let share : shares (need ns t) (need ns w) ≡ true = or_right (writes_for (need ns t) (need ns w)) (writes_for (need ns w) (need ns t)) (any_at (touches (need ns t)) (need ns w).writes m wrote mine) in
            after_trans ns t w u order (omega (arith, inside, there)) (sharing_after ns t w (lower w inside) below share) later)
      ]

  -- a task that shares a written slot with the task is before it
  before_it : (t : ℕ) → t < u → shares (need ns t) (need ns u) ≡ true → is_after ns t u ≡ true
  before_it t l share =
      elim (or_cases (writes_for (need ns t) (need ns u)) (writes_for (need ns u) (need ns t)) share) [
        | inl wrote ↦ (let s = any_some (touches (need ns u)) (need ns t).writes wrote in
            by_writer t s.0 s.2 (touches_writes (need ns t) s.0 s.1) (elim (cases_lt t (get_or ws s.0 0)) [
              | inl low ↦ low
              | inr high ↦ absurd (both_ways (has s.0 (need ns t).writes) ((seen.writer_is s.0 (in_slots s.0 s.2)).later t high l) s.1)
            ]))
        | inr writer ↦ (let s = any_some (touches (need ns t)) (need ns u).writes writer in
            let touched : touches (need ns u) s.0 ≡ true = touches_writes (need ns u) s.0 s.1 in
            elim (cases_lt t (get_or ws s.0 0)) [
              | inl low ↦ by_writer t s.0 touched s.2 low
              | inr high ↦ elim (or_cases (has s.0 (need ns t).reads) (has s.0 (need ns t).writes) s.2) [
                | inl r ↦ after t (or_right (list_any (λ k. get_or ws k 0 == t + 1) (need ns u).reads || list_any (λ k. get_or ws k 0 == t + 1) (need ns u).writes) (list_any (λ k. has t (get_or rs k [])) (need ns u).writes)
                    (any_at (λ (k : ℕ). has t (get_or rs k [])) (need ns u).writes s.0 s.1 ((seen.readers_are s.0 (writes s.0 s.1)).all t high l r)))
                | inr w ↦ absurd (both_ways (has s.0 (need ns t).writes) ((seen.writer_is s.0 (writes s.0 s.1)).later t high l) w)
              ]
            ])
      ]

  pub none_clash : clashes ns u ≡ false
  none_clash =
      any_below_none (λ t. shares (need ns t) (need ns u) && not (is_after ns t u)) u (λ t l. elim (cases_Bool (shares (need ns t) (need ns u))) [
        | inl share ↦ and_right (shares (need ns t) (need ns u)) (not (is_after ns t u)) (not_from_true (is_after ns t u) (before_it t l share))
        | inr apart ↦ and_left (shares (need ns t) (need ns u)) (not (is_after ns t u)) apart
      ])

-- where the task is after all that was gathered it does not clash
pub clash_none : (ns : List Needs) (slots u : ℕ) (ws : List ℕ) (rs : List (List ℕ)) (before : List ℕ) → AreSeen ns slots u ws rs → ((m : ℕ) → has m (need ns u).reads ≡ true → m < slots) → ((m : ℕ) → has m (need ns u).writes ≡ true → m < slots) → u < length ns
    → ((x : ℕ) → x ≤ u → waits_ahead ns x ≡ false) → ((x : ℕ) → x < u → clashes ns x ≡ false) → ((t : ℕ) → has t before ≡ is_gathered (need ns u) ws rs t) → list_all (λ t. is_after ns t u) before ≡ true → clashes ns u ≡ false
clash_none ns slots u ws rs before seen reads writes there order lower is all =
    none_clash ns slots u ws rs seen reads writes there order lower (λ t g. all_at_listed (λ (k : ℕ). is_after ns k u) before t all (is t ∙ g))

-- where it is not it clashes
pub clash_some : (ns : List Needs) (slots u : ℕ) (ws : List ℕ) (rs : List (List ℕ)) (before : List ℕ) → AreSeen ns slots u ws rs → ((m : ℕ) → has m (need ns u).reads ≡ true → m < slots) → ((m : ℕ) → has m (need ns u).writes ≡ true → m < slots)
    → ((t : ℕ) → has t before ≡ is_gathered (need ns u) ws rs t) → list_all (λ t. is_after ns t u) before ≡ false → clashes ns u ≡ true
clash_some ns slots u ws rs before seen reads writes is not_all =
    let w = all_not (λ (k : ℕ). is_after ns k u) before not_all in
    let s = gathered_shares ns slots u ws rs seen reads writes w.0 (sym (is w.0) ∙ w.1) in
    any_below_at (λ t. shares (need ns t) (need ns u) && not (is_after ns t u)) u w.0 s.0 (and_from (shares (need ns w.0) (need ns u)) (not (is_after ns w.0 u)) s.1 (not_from_false (is_after ns w.0 u) w.2))

-- whether the task clashes is whether it is not after all that was gathered
pub clash_is : (ns : List Needs) (slots u : ℕ) (ws : List ℕ) (rs : List (List ℕ)) (before : List ℕ) → AreSeen ns slots u ws rs → ((m : ℕ) → has m (need ns u).reads ≡ true → m < slots) → ((m : ℕ) → has m (need ns u).writes ≡ true → m < slots) → u < length ns
    → ((x : ℕ) → x ≤ u → waits_ahead ns x ≡ false) → ((x : ℕ) → x < u → clashes ns x ≡ false) → ((t : ℕ) → has t before ≡ is_gathered (need ns u) ws rs t) → (all : Bool) → all ≡ list_all (λ t. is_after ns t u) before → not all ≡ clashes ns u
clash_is ns slots u ws rs before seen reads writes there order lower is true e = sym (clash_none ns slots u ws rs before seen reads writes there order lower is (sym e))
clash_is ns slots u ws rs before seen reads writes there order lower is false e = sym (clash_some ns slots u ws rs before seen reads writes is (sym e))
