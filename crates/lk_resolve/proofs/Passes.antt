-- A pass round the members that wait: what holds after so many of them.
use Rattle.std.proofs.Common.{◌≡◌, refl, sym, ap, ◌∙◌, arith, ℕ, ◌+◌, ◌<◌, ◌≤◌, true, false, ◌||◌, List, [], ◌∷◌, ◌++◌, length, take, drop, get_or, length-append}
use Rattle.std.specs.List.{list_any}
use Rattle.std.proofs.lemmas.List.{append-nil, append_assoc, drop_all, map-append, take_all, take_more}
use Rattle.std.proofs.lemmas.List.Folds.{list_any-append}
use Rattle.lk_resolve.specs.declared.members.Member.{Member}
use Rattle.lk_resolve.specs.Searches.{member_as, members_as, searched}
use Rattle.lk_resolve.specs.States.{State, with_input}
use Rattle.lk_resolve.specs.Wanted.{wants}
use Rattle.lk_resolve.proofs.ClaimSteps.{next_item}
use Rattle.lk_resolve.proofs.ListSets.{or_false}
use Rattle.lk_resolve.proofs.SearchesGoOn.{searched-ends, searched-none, searched-skips, searched-takes}

-- from a state the pass has come to another, past so many members, of which these are left
pub record Passed (start now : State) (waiting : List Member) (i : ℕ) (left : List Member) : Type 0 where
  pub goes_on : searched now (members_as (drop i waiting) ++ members_as left) ≡ searched start (members_as waiting)
  pub fewer : length left ≤ i
  pub same : length left ≡ i → now ≡ start
  pub none : length left ≡ i → list_any (wants start) (members_as (take i waiting)) ≡ false

-- it begins with none
pub begun : (start : State) (waiting left : List Member) → left ≡ [] → Passed start start waiting 0 left
begun start waiting left e =
    let none_left : length left ≡ 0 = ap length e in
    record {
      goes_on = ap (λ ms. searched start (members_as waiting ++ members_as ms)) e ∙ ap (searched start) (append-nil (members_as waiting));
      fewer = omega arith;
      same = λ h. refl;
      none = λ h. refl;
    }

-- a member that is wanted is added
pub takes : (start now new : State) (waiting : List Member) (i : ℕ) (m : Member) (left : List Member) → i < length waiting → m ≡ get_or waiting i m
    → true ≡ wants now (member_as m) → new ≡ with_input now (member_as m) → Passed start now waiting i left → Passed start new waiting (i + 1) left
takes start now new waiting i m left within is wanted goes h =
    let few : length left ≤ i = h.fewer in
    let rest : List Member = drop (i + 1) waiting in
    let next : drop i waiting ≡ m ∷ rest = next_item waiting i m within is in
    record {
      goes_on =
          ap (λ s. searched s (members_as rest ++ members_as left)) goes
          ∙ sym (searched-takes now (member_as m) (members_as rest ++ members_as left) (sym wanted))
          ∙ ap (λ ms. searched now (members_as ms ++ members_as left)) (sym next)
          ∙ h.goes_on;
      fewer = omega arith;
      same = λ e. absurd (omega arith);
      none = λ e. absurd (omega arith);
    }

-- one that is not goes on waiting
pub skips : (start now new : State) (waiting : List Member) (i : ℕ) (m : Member) (left more : List Member) → i < length waiting → m ≡ get_or waiting i m
    → false ≡ wants now (member_as m) → new ≡ now → more ≡ left ++ m ∷ [] → Passed start now waiting i left → Passed start new waiting (i + 1) more
skips start now new waiting i m left more within is unwanted goes pushed h =
    let few : length left ≤ i = h.fewer in
    let rest : List Member = drop (i + 1) waiting in
    let next : drop i waiting ≡ m ∷ rest = next_item waiting i m within is in
    let longer : length more ≡ length left + 1 = ap length pushed ∙ length-append left (m ∷ []) in
    let back : length more ≡ i + 1 → length left ≡ i = λ e. omega arith in
    record {
      goes_on =
          ap (λ s. searched s (members_as rest ++ members_as more)) goes
          ∙ ap (λ ms. searched now (members_as rest ++ members_as ms)) pushed
          ∙ ap (λ ms. searched now (members_as rest ++ ms)) (map-append member_as left (m ∷ []))
          ∙ ap (searched now) (sym (append_assoc (members_as rest) (members_as left) (member_as m ∷ [])))
          ∙ sym (searched-skips now (member_as m) (members_as rest ++ members_as left) (sym unwanted))
          ∙ ap (λ ms. searched now (members_as ms ++ members_as left)) (sym next)
          ∙ h.goes_on;
      fewer = omega arith;
      same = λ e. goes ∙ h.same (back e);
      none = λ e.
          ap (λ ms. list_any (wants start) (members_as ms)) (take_more waiting i m within ∙ ap (λ x. take i waiting ++ x ∷ []) (sym is))
          ∙ ap (list_any (wants start)) (map-append member_as (take i waiting) (m ∷ []))
          ∙ list_any-append (wants start) (members_as (take i waiting)) (member_as m ∷ [])
          ∙ ap (λ b. b || (wants start (member_as m) || false)) (h.none (back e))
          ∙ or_false (wants start (member_as m))
          ∙ ap (λ s. wants s (member_as m)) (sym (h.same (back e)))
          ∙ sym unwanted;
    }

-- where all are left none was wanted
pub ends : (start now : State) (waiting : List Member) (i : ℕ) (left : List Member) → length waiting ≤ i → i ≤ length waiting → Passed start now waiting i left → length left ≡ length waiting → searched start (members_as waiting) ≡ now
ends start now waiting i left past within h all =
    let at : length left ≡ i = omega arith in
    searched-ends start (members_as waiting) (ap (λ ms. list_any (wants start) (members_as ms)) (sym (take_all i waiting past)) ∙ h.none at) ∙ sym (h.same at)

-- what waits at the end is what is left
pub passed_all : (start now : State) (waiting : List Member) (i : ℕ) (left : List Member) → length waiting ≤ i → Passed start now waiting i left → searched now (members_as left) ≡ searched start (members_as waiting)
passed_all start now waiting i left past h =
    ap (λ ms. searched now (members_as ms ++ members_as left)) (sym (drop_past waiting i past)) ∙ h.goes_on
  where
    drop_past : (ms : List Member) (n : ℕ) → length ms ≤ n → drop n ms ≡ []
    drop_past ms n fits = drop_all n ms fits

-- where none waits the search has ended
pub searched_empty : (s : State) (ms : List Member) → length ms ≡ 0 → searched s (members_as ms) ≡ s
searched_empty s [] e = searched-none s
searched_empty s (m ∷ ms) e = absurd (omega arith)
