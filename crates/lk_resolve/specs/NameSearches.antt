-- This project's own: the search round the members of a lib group by names: a member that was asked and not
-- wanted is asked again once it defines a name that was not wanted before and is then.
use Rattle.std.specs.Prelude.{◌≡◌, ℕ, ◌<◌, length, Bool, true, false, ◌&&◌, ◌||◌, not, List, [], ◌∷◌, ◌++◌, map, filter, take, drop, get_or, slice_set, ◌==◌, Option, Some, None}
use Rattle.std.specs.Borrow.{Bor}
use Rattle.std.specs.List.{list_any}
use Rattle.lk_model.specs.declared.summaries.Global.{Global}
use Rattle.lk_model.specs.Numbered.{Numbered}
use Rattle.lk_resolve.specs.declared.definers.Definers.{Definers}
use Rattle.lk_resolve.specs.declared.members.Member.{Member}
use Rattle.lk_resolve.specs.declared.turns.Turns.{Turns}
use Rattle.lk_resolve.specs.Definers.{defines_in, is_definer}
use Rattle.lk_resolve.specs.Searches.{member_as, searched}
use Rattle.lk_resolve.specs.States.{State, with_input}
use Rattle.lk_resolve.specs.Turns.{is_due}
use Rattle.lk_resolve.specs.Wanted.{wants, wants_name}

-- the members that wait at their places, where none is in the place of one that was added
abbrev pub waiting_in : List (Option Member) → List Numbered
waiting_in [] = []
waiting_in (None ∷ ms) = waiting_in ms
waiting_in (Some m ∷ ms) = member_as m ∷ waiting_in ms

-- the queue of those that wait, from a place on: those from it on, then those before it
abbrev pub queue_at : List (Option Member) → ℕ → List Numbered
queue_at members place = waiting_in (drop place members) ++ waiting_in (take place members)

-- whether a member is wanted, where there is one
abbrev pub wants_at : State → Option Member → Bool
wants_at s None = false
wants_at s (Some m) = wants s (member_as m)

-- whether a name is wanted
abbrev pub wants_in : State → List ℕ → Bool
wants_in s name = wants_name s.entry s.rows name

-- names without the references, those of symbols, and those of them that are not wanted
abbrev pub names_as : List (Bor (List ℕ)) → List (List ℕ)
names_as names = map (λ (n : Bor (List ℕ)). n.now) names

abbrev pub names_in : List Global → List (List ℕ)
names_in globals = map (λ (g : Global). g.name) globals

abbrev pub unwanted_in : State → List Global → List (List ℕ)
unwanted_in s globals = filter (λ name. not (wants_in s name)) (names_in globals)

-- whether the member at a place defines one of these names that is wanted
abbrev pub is_asked_for : State → Definers → List (List ℕ) → ℕ → Bool
is_asked_for s definers names i = list_any (λ name. wants_in s name && is_definer definers name i) names

-- these places were given their turns, and those of the members that define one of these names that is wanted
abbrev pub PlacesGiven : Turns → Turns → List ℕ → Type 0
PlacesGiven old new places = (i : ℕ) → is_due new i ≡ (list_any (λ place. i == place) places || is_due old i)

abbrev pub TurnsGiven : State → Definers → List (List ℕ) → Turns → Turns → Type 0
TurnsGiven s definers names old new = (i : ℕ) → is_due new i ≡ (is_asked_for s definers names i || is_due old i)

-- what it makes of a state, the turns and the members that the member at a place is asked: where it is wanted
-- it is added, and those have their turns that define a name which is wanted by that
abbrev pub AskedAt : Definers → ℕ → Option Member → Bool → State → State → Turns → Turns → List (Option Member) → List (Option Member) → Type 0
AskedAt definers place m false s now old new ms left = (wants_at s m ≡ false) × (now ≡ s) × (new ≡ old) × (left ≡ ms)
AskedAt definers place None true s now old new ms left = ⊥
AskedAt definers place (Some m) true s now old new ms left =
    (wants s (member_as m) ≡ true) × (now ≡ with_input s (member_as m)) × TurnsGiven now definers (unwanted_in s m.summary.now.globals) old new × (new.place ≡ old.place) × (left ≡ slice_set ms place None)

-- each member that is wanted is to be asked
abbrev pub WantedAreDue : State → List (Option Member) → Turns → Type 0
WantedAreDue s members turns = (i : ℕ) → wants_at s (get_or members i None) ≡ true → is_due turns i ≡ true

-- each member is known to define the names that it defines
abbrev pub AreDefiners : Definers → List (Option Member) → Type 0
AreDefiners definers members = (name : List ℕ) (i : ℕ) → defines_in (get_or members i None) name ≡ true → is_definer definers name i ≡ true

-- what the search for the next member that is added comes to: the search goes on from it, with one member less;
-- or there is none, and it has ended
abbrev pub NextAdded : Definers → Bool → State → State → Turns → Turns → List (Option Member) → List (Option Member) → Type 0
NextAdded definers false s now old new ms left = searched s (queue_at ms old.place) ≡ now
NextAdded definers true s now old new ms left =
    (searched now (queue_at left new.place) ≡ searched s (queue_at ms old.place)) × WantedAreDue now left new × AreDefiners definers left × (length (waiting_in left) < length (waiting_in ms))
