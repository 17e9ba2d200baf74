-- What a step over what is kept means for the list of the added inputs.
use Rattle.std.proofs.Common.{◌≡◌, ap, ◌∙◌, ℕ, Bool, true, false, cond, List, [], ◌∷◌, ◌++◌, Option, Some, None}
use Rattle.lk_model.specs.Adding.{is_wanted_member, with_one}
use Rattle.lk_model.specs.Numbered.{Numbered}
use Rattle.lk_model.specs.Queues.{listed_of}
use Rattle.lk_resolve.specs.Searches.{searched}
use Rattle.lk_resolve.specs.States.{State, state_of, with_input}
use Rattle.lk_resolve.proofs.SearchesGoOn.{search_is}
use Rattle.lk_resolve.proofs.StatesGoOn.{goes_on}

some_same : (s t : State) → Some s ≡ Some t → s ≡ t
some_same s t e = cc

-- a resolver that is not spent is what it holds
pub unspent : (spent : Bool) (s : State) (o : Option State) → cond spent None (Some s) ≡ o → spent ≡ false → Some s ≡ o
unspent true s o e f = absurd (cc)
unspent false s o e f = e

pub paths_taken : (s new : State) (entry : List ℕ) (before paths : List (List ℕ)) (added : List Numbered) → new ≡ record s { paths = paths } → Some s ≡ Some (state_of entry before added) → Some new ≡ Some (state_of entry paths added)
unfolding state_of
paths_taken s new entry before paths added is e =
    ap (λ t. Some t) (is ∙ ap (λ (t : State). record t { paths = paths }) (some_same s (state_of entry before added) e))

pub input_goes_on : (s new : State) (x : Numbered) (entry : List ℕ) (paths : List (List ℕ)) (added : List Numbered) → new ≡ with_input s x → Some s ≡ Some (state_of entry paths added) → Some new ≡ Some (state_of entry paths (added ++ x ∷ []))
input_goes_on s new x entry paths added is e =
    ap (λ t. Some t) (is ∙ ap (λ (t : State). with_input t x) (some_same s (state_of entry paths added) e) ∙ goes_on entry paths added x)

pub group_goes_on : (s new : State) (ms : List Numbered) (entry : List ℕ) (paths : List (List ℕ)) (added : List Numbered) → new ≡ searched s ms → Some s ≡ Some (state_of entry paths added) → Some new ≡ Some (state_of entry paths (added ++ listed_of (is_wanted_member entry) with_one added ms))
group_goes_on s new ms entry paths added is e =
    ap (λ t. Some t) (is ∙ ap (λ (t : State). searched t ms) (some_same s (state_of entry paths added) e) ∙ search_is entry paths added ms)
