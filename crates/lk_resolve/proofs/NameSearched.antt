-- The search by names goes on by one member that is asked: what holds before each turn holds after it.
use Rattle.std.proofs.Common.{◌≡◌, refl, sym, ap, ◌∙◌, subst, arith, ℕ, zero, suc, ◌<◌, nat_eq, Bool, true, false, not, ◌||◌, ◌&&◌, List, [], ◌∷◌, length, map, get_or, Option, Some, None, slice_set, inl, inr}
use Rattle.std.specs.Bool.{OnFalse}
use Rattle.std.proofs.lemmas.Bool.{eqb-true}
use Rattle.std.proofs.lemmas.List.{append-nil}
use Rattle.std.proofs.Math.ListN.{length-map}
use Rattle.lk_comdat.specs.Claims.{signatures_of}
use Rattle.lk_model.specs.declared.summaries.Global.{Global}
use Rattle.lk_resolve.specs.declared.definers.Definers.{Definers}
use Rattle.lk_resolve.specs.declared.members.Member.{Member}
use Rattle.lk_resolve.specs.declared.turns.Turns.{Turns}
use Rattle.lk_resolve.specs.Definers.{DefinersAre, defines_in, is_definer}
use Rattle.lk_resolve.specs.NameSearches.{AreDefiners, AskedAt, NextAdded, TurnsGiven, WantedAreDue, is_asked_for, queue_at, unwanted_in, waiting_in, wants_at}
use Rattle.lk_resolve.specs.Searches.{member_as, members_as, searched}
use Rattle.lk_resolve.specs.States.{State, with_input}
use Rattle.lk_resolve.specs.Turns.{is_due, is_passed}
use Rattle.lk_resolve.specs.LeftSections.{left_in}
use Rattle.lk_resolve.specs.Wanted.{places_wanted, wants}
use Rattle.lk_resolve.proofs.NewlyWanted.{becomes_wanted}
use Rattle.lk_resolve.proofs.WantedNames.{none_placed}
use Rattle.lk_resolve.proofs.TurnsTaken.{ended, others, passed, taken, taken-fewer}

-- since the search for the next member began nothing was added, and the turns have come here
pub record Turned (start now : State) (from turns : Turns) (before members : List (Option Member)) : Type 0 where
  pub state : now ≡ start
  pub members_are : members ≡ before
  pub goes_on : searched start (queue_at before turns.place) ≡ searched start (queue_at before from.place)
  pub due : WantedAreDue start before turns

pub begun : (s : State) (t : Turns) (ms : List (Option Member)) → WantedAreDue s ms t → Turned s s t t ms ms
begun s t ms due = record { state = refl; members_are = refl; goes_on = refl; due = due }

-- a place that has no turn has no member that is wanted
quiet_at : (s : State) (ms : List (Option Member)) (t : Turns) → WantedAreDue s ms t → (i : ℕ) → is_due t i ≡ false → wants_at s (get_or ms i None) ≡ false
quiet_at s ms t due i e = by (wants_at s (get_or ms i None)) refl
  where
    by : (b : Bool) → wants_at s (get_or ms i None) ≡ b → b ≡ false
    by true h = sym (due i h) ∙ e
    by false h = refl

-- the turn of a place was taken
pub record TurnTaken (old new : Turns) (k : ℕ) : Type 0 where
  pub passed : (i : ℕ) → is_passed old.place k i ≡ true → is_due old i ≡ false
  pub left : (i : ℕ) → is_due new i ≡ (not (nat_eq i k) && is_due old i)
  pub place : new.place ≡ k

turned_to : (start : State) (from t0 t1 : Turns) (before : List (Option Member)) (k : ℕ) → TurnTaken t0 t1 k → WantedAreDue start before t0
    → searched start (queue_at before t0.place) ≡ searched start (queue_at before from.place) → searched start (queue_at before k) ≡ searched start (queue_at before from.place)
turned_to start from t0 t1 before k turn due goes_on =
    sym (passed start before t0.place k (λ i h. quiet_at start before t0 due i (turn.passed i h))) ∙ goes_on

still_due : (t0 t1 : Turns) (k i : ℕ) → TurnTaken t0 t1 k → (nat_eq i k ≡ false) → is_due t0 i ≡ true → is_due t1 i ≡ true
still_due t0 t1 k i turn apart due =
    turn.left i ∙ (λ j. not (apart j) && due j)

-- the member at the place was not wanted
pub passed_on : (start now new : State) (from t0 t1 t2 : Turns) (before ms left : List (Option Member)) (d : Definers) (k : ℕ) → TurnTaken t0 t1 k
    → AskedAt d k (get_or ms k None) false now new t1 t2 ms left → Turned start now from t0 before ms → Turned start new from t2 before left
passed_on start now new from t0 t1 t2 before ms left d k turn asked h =
    let unwanted : wants_at start (get_or before k None) ≡ false = (λ i. wants_at (sym h.state i) (get_or (sym h.members_are i) k None)) ∙ asked.0 in
    record {
      state = asked.1 ∙ h.state;
      members_are = asked.3 ∙ h.members_are;
      goes_on = ap (λ (t : Turns). searched start (queue_at before t.place)) asked.2 ∙ ap (λ p. searched start (queue_at before p)) turn.place ∙ turned_to start from t0 t1 before k turn h.due h.goes_on;
      due = λ i wanted. ap (λ (t : Turns). is_due t i) asked.2 ∙ by i wanted unwanted (nat_eq i k) refl;
    }
  where
    by : (i : ℕ) → wants_at start (get_or before i None) ≡ true → wants_at start (get_or before k None) ≡ false → (b : Bool) → nat_eq i k ≡ b → is_due t1 i ≡ true
    by i wanted unwanted true same =
        absurd (let no : wants_at start (get_or before i None) ≡ false = ap (λ n. wants_at start (get_or before n None)) (eqb-true i k same) ∙ unwanted in cc)
    by i wanted unwanted false apart = still_due t0 t1 k i turn apart (h.due i wanted)

-- it was wanted and is added
module _ (start : State) (t0 t1 t2 : Turns) (before : List (Option Member)) (d : Definers) (k : ℕ) (m : Member) (turn : TurnTaken t0 t1 k)
    (due : WantedAreDue start before t0) (reported : AreDefiners d before) (at : get_or before k None ≡ Some m) (given : TurnsGiven (with_input start (member_as m)) d (unwanted_in start m.summary.now.globals) t1 t2) where
  kept : (i : ℕ) → is_due t1 i ≡ true → is_due t2 i ≡ true
  kept i e = given i ∙ ap (λ b. is_asked_for (with_input start (member_as m)) d (unwanted_in start m.summary.now.globals) i || b) e ∙ or_true (is_asked_for (with_input start (member_as m)) d (unwanted_in start m.summary.now.globals) i)
    where
      or_true : (b : Bool) → (b || true) ≡ true
      or_true true = refl
      or_true false = refl

  at_other : (i : ℕ) (o : Option Member) → get_or before i None ≡ o → nat_eq i k ≡ false → wants_at (with_input start (member_as m)) o ≡ true → is_due t2 i ≡ true
  at_other i None is apart wanted = absurd (cc)
  at_other i (Some x) is apart wanted = by (wants start (member_as x)) refl
    where
      by : (b : Bool) → wants start (member_as x) ≡ b → is_due t2 i ≡ true
      by true was = kept i (still_due t0 t1 k i turn apart (due i (ap (wants_at start) is ∙ was)))
      by false was =
          given i
          ∙ ap (λ b. b || is_due t1 i) (becomes_wanted start (member_as m) (member_as x) (λ name. is_definer d name i) was wanted (λ name e. reported name i (ap (λ y. defines_in y name) is ∙ e)))

  due_after : WantedAreDue (with_input start (member_as m)) (slice_set before k None) t2
  due_after i wanted =
      elim (others before k i) [
        | inl same ↦ at_other i (get_or before i None) refl same.0 (ap (wants_at (with_input start (member_as m))) (sym same.1) ∙ wanted)
        | inr none ↦ absurd (let no : wants_at (with_input start (member_as m)) (get_or (slice_set before k None) i None) ≡ false = ap (wants_at (with_input start (member_as m))) none in cc)
      ]

  reported_after : AreDefiners d (slice_set before k None)
  reported_after name i defined =
      elim (others before k i) [
        | inl same ↦ reported name i (ap (λ o. defines_in o name) (sym same.1) ∙ defined)
        | inr none ↦ absurd (let no : defines_in (get_or (slice_set before k None) i None) name ≡ false = ap (λ o. defines_in o name) none in cc)
      ]

  added_so : (from : Turns) → wants start (member_as m) ≡ true → t2.place ≡ t1.place → searched start (queue_at before t0.place) ≡ searched start (queue_at before from.place)
      → NextAdded d true start (with_input start (member_as m)) from t2 before (slice_set before k None)
  added_so from wanted stays goes_on = (
    ap (λ p. searched (with_input start (member_as m)) (queue_at (slice_set before k None) p)) (stays ∙ turn.place)
        ∙ sym (taken start before k m at wanted)
        ∙ turned_to start from t0 t1 before k turn due goes_on,
    due_after,
    reported_after,
    taken-fewer before k m at,
  )

pub added : (start now new : State) (from t0 t1 t2 : Turns) (before ms left : List (Option Member)) (d : Definers) (k : ℕ) → TurnTaken t0 t1 k → AreDefiners d before
    → AskedAt d k (get_or ms k None) true now new t1 t2 ms left → Turned start now from t0 before ms → NextAdded d true start new from t2 before left
added start now new from t0 t1 t2 before ms left d k turn reported asked h =
    let from_start : AskedAt d k (get_or before k None) true start new t1 t2 before left = subst (λ (s : State). AskedAt d k (get_or before k None) true s new t1 t2 before left) h.state (subst (λ (l : List (Option Member)). AskedAt d k (get_or l k None) true now new t1 t2 l left) h.members_are asked) in
    by (get_or before k None) refl from_start
  where
    by : (o : Option Member) → get_or before k None ≡ o → AskedAt d k o true start new t1 t2 before left → NextAdded d true start new from t2 before left
    by None at a = absurd a
    by (Some m) at a =
        subst (λ (l : List (Option Member)). NextAdded d true start new from t2 before l) (sym a.4)
        (subst (λ (s : State). NextAdded d true start s from t2 before (slice_set before k None)) (sym a.1)
        (added_so start t0 t1 t2 before d k m turn h.due reported at (subst (λ (s : State). TurnsGiven s d (unwanted_in start m.summary.now.globals) t1 t2) a.1 a.2) from a.0 a.3 h.goes_on))

-- no place has a turn
pub none_left : (start now : State) (from t0 : Turns) (before ms : List (Option Member)) → ((i : ℕ) → is_due t0 i ≡ false) → Turned start now from t0 before ms → searched start (queue_at before from.place) ≡ now
none_left start now from t0 before ms quiet h =
    sym h.goes_on ∙ ended start before t0.place (λ i. quiet_at start before t0 h.due i (quiet i)) ∙ sym h.state

-- ---- the whole search

all_wait : (ws : List Member) → waiting_in (map (λ (m : Member). Some m) ws) ≡ members_as ws
all_wait [] = refl
all_wait (m ∷ ws) = ap (λ l. member_as m ∷ l) (all_wait ws)

pub at_start : (s : State) (ws : List Member) (ms : List (Option Member)) (t : Turns) → ms ≡ map (λ (m : Member). Some m) ws → t.place ≡ 0 → searched s (queue_at ms t.place) ≡ searched s (members_as ws)
at_start s ws ms t are place =
    (λ i. searched s (queue_at (are i) (place i))) ∙ ap (searched s) (append-nil (waiting_in (map (λ (m : Member). Some m) ws)) ∙ all_wait ws)

-- past the last place no member waits
within : (s : State) (ms : List (Option Member)) (i : ℕ) → wants_at s (get_or ms i None) ≡ true → i < length ms
within s [] i e = absurd (cc)
within s (m ∷ ms) zero e = omega arith
within s (m ∷ ms) (suc i) e =
    let rest : i < length ms = within s ms i e in
    omega arith

pub all_due : (s : State) (ms : List (Option Member)) (t : Turns) (n : ℕ) → n ≡ length ms → ((i : ℕ) → i < n → is_due t i ≡ true) → WantedAreDue s ms t
all_due s ms t n are all i wanted =
    let low : i < length ms = within s ms i wanted in
    all i (omega arith)

pub all_reported : (d : Definers) (ms : List (Option Member)) → DefinersAre d ms → AreDefiners d ms
all_reported d ms are name i e = are name i ∙ e

-- what is ready before the first turn: these are the members, each has a turn, and what they define is known
pub record Ready (s : State) (ws : List Member) (ms : List (Option Member)) (t : Turns) (d : Definers) : Type 0 where
  pub due : WantedAreDue s ms t
  pub reported : AreDefiners d ms
  pub all : searched s (queue_at ms t.place) ≡ searched s (members_as ws)

pub ready : (s : State) (ws : List Member) (items seen ms : List (Option Member)) (t : Turns) (d : Definers) → items ≡ map (λ (m : Member). Some m) ws → seen ≡ items → ms ≡ items
    → DefinersAre d seen → ((i : ℕ) → i < length ws → is_due t i ≡ true) → t.place ≡ 0 → Ready s ws ms t d
ready s ws items seen ms t d are as_seen as_given reported due place =
    let size : length ws ≡ length ms = sym (ap length (as_given ∙ are) ∙ length-map ws (λ (m : Member). Some m)) in
    record {
      due = all_due s ms t (length ws) size due;
      reported = all_reported d ms (λ name i. reported name i ∙ ap (λ l. defines_in (get_or l i None) name) (as_seen ∙ sym as_given));
      all = at_start s ws ms t (as_given ∙ are) place;
    }

-- some members were added, and the search goes on from here
pub record Searching (d : Definers) (start now : State) (from turns : Turns) (before members : List (Option Member)) : Type 0 where
  pub goes_on : searched now (queue_at members turns.place) ≡ searched start (queue_at before from.place)
  pub due : WantedAreDue now members turns
  pub reported : AreDefiners d members

pub searches_from : (d : Definers) (s : State) (t : Turns) (ms : List (Option Member)) → WantedAreDue s ms t → AreDefiners d ms → Searching d s s t t ms ms
searches_from d s t ms due reported = record { goes_on = refl; due = due; reported = reported }

pub searches_on : (d : Definers) (start now new : State) (from t0 t1 : Turns) (before ms left : List (Option Member)) (b : Bool) → b ≡ true
    → NextAdded d b now new t0 t1 ms left → Searching d start now from t0 before ms → Searching d start new from t1 before left
searches_on d start now new from t0 t1 before ms left true e next h = record { goes_on = next.0 ∙ h.goes_on; due = next.1; reported = next.2 }
searches_on d start now new from t0 t1 before ms left false e next h = absurd (cc)

-- ---- by what asking answers

pub added_next : (start now new : State) (from t0 t1 t2 : Turns) (before ms left : List (Option Member)) (d : Definers) (k : ℕ) (b : Bool) → b ≡ true → TurnTaken t0 t1 k → AreDefiners d before
    → AskedAt d k (get_or ms k None) b now new t1 t2 ms left → Turned start now from t0 before ms → NextAdded d true start new from t2 before left
added_next start now new from t0 t1 t2 before ms left d k true e turn reported asked h = added start now new from t0 t1 t2 before ms left d k turn reported asked h
added_next start now new from t0 t1 t2 before ms left d k false e turn reported asked h = absurd (cc)

pub passed_next : (start now new : State) (from t0 t1 t2 : Turns) (before ms left : List (Option Member)) (d : Definers) (k : ℕ) (b : Bool) → b ≡ false → TurnTaken t0 t1 k
    → AskedAt d k (get_or ms k None) b now new t1 t2 ms left → Turned start now from t0 before ms → Turned start new from t2 before left
passed_next start now new from t0 t1 t2 before ms left d k true e turn asked h = absurd (cc)
passed_next start now new from t0 t1 t2 before ms left d k false e turn asked h = passed_on start now new from t0 t1 t2 before ms left d k turn asked h

-- a member that places no wanted name is not wanted
not_placed : (s : State) (m : Member) (gs : List Global) → gs ≡ m.summary.now.globals → places_wanted s.entry s.rows gs ≡ false → wants s (member_as m) ≡ false
unfolding wants
not_placed s m gs same e =
    none_placed s.entry s.rows (left_in (signatures_of s.claims) m.summary.now) m.summary.now.globals (ap (places_wanted s.entry s.rows) (sym same) ∙ e)

pub not_wanted : (s : State) (m : Member) (gs : List Global) (b : Bool) → gs ≡ m.summary.now.globals → b ≡ places_wanted s.entry s.rows gs → OnFalse b (wants s (member_as m) ≡ false)
not_wanted s m gs true same e = tt
not_wanted s m gs false same e = not_placed s m gs same (sym e)
