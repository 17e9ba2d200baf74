-- What is computed as the added inputs meets what they mean.
use Rattle.std.specs.Prelude.{◌≡◌, refl, ℕ, zero, suc, List, [], ◌∷◌, ◌++◌, flat_map, fold}
use Rattle.std.proofs.lemmas.List.{append-nil, append_assoc, map-append}
use mathlib.Core.Path.{sym, ap, ◌∙◌}
use Rattle.lk_model.specs.Adding.{AddsItem, AddsItems, IsAdded, added_inputs, added_of, is_wanted_member, item_added, items_of, numbers_in, with_item, with_one}
use Rattle.lk_model.specs.Numbered.{Numbered}
use Rattle.lk_model.specs.Views.{Input}
use Rattle.lk_model.proofs.Queues.{listed_of-holds, listed_of-only}

-- what each item adds
parts_of : List ℕ → List Numbered → List (ℕ × List Numbered) → List (List Numbered)
parts_of entry added [] = []
parts_of entry added (item ∷ items) = item_added entry added item ∷ parts_of entry (with_item entry added item) items

item_added-holds : (entry : List ℕ) (added : List Numbered) (item : ℕ × List Numbered) → AddsItem entry added item (item_added entry added item)
item_added-holds entry added (zero, members) = refl
item_added-holds entry added (suc n, members) = listed_of-holds (is_wanted_member entry) with_one added members

parts_of-holds : (entry : List ℕ) (added : List Numbered) (items : List (ℕ × List Numbered)) → AddsItems entry added items (parts_of entry added items)
unfolding parts_of
parts_of-holds entry added [] = tt
parts_of-holds entry added (item ∷ items) = (item_added-holds entry added item, parts_of-holds entry (with_item entry added item) items)

-- the added inputs are the parts in a row
parts_of-row : (entry : List ℕ) (added : List Numbered) (items : List (ℕ × List Numbered)) → numbers_in (fold (with_item entry) added items) ≡ numbers_in added ++ flat_map numbers_in (parts_of entry added items)
unfolding parts_of
parts_of-row entry added [] = sym (append-nil (numbers_in added))
parts_of-row entry added (item ∷ items) =
    let new : List Numbered = item_added entry added item in
    let rest : List ℕ = flat_map numbers_in (parts_of entry (with_item entry added item) items) in
    let later : numbers_in (fold (with_item entry) (with_item entry added item) items) ≡ numbers_in (added ++ new) ++ rest = parts_of-row entry (with_item entry added item) items in
    let split : numbers_in (added ++ new) ≡ numbers_in added ++ numbers_in new = map-append (λ (x : Numbered). x.number) added new in
    later ∙ ap (λ (ns : List ℕ). ns ++ rest) split ∙ append_assoc (numbers_in added) (numbers_in new) rest

-- the list that is computed meets its meaning
pub added_of-holds : (entry : List ℕ) (inputs : List Input) → IsAdded entry inputs (added_of entry inputs)
unfolding added_of added_inputs
added_of-holds entry inputs = (parts_of entry [] (items_of inputs), parts_of-holds entry [] (items_of inputs), parts_of-row entry [] (items_of inputs))

item_added-only : (entry : List ℕ) (added : List Numbered) (item : ℕ × List Numbered) (new : List Numbered) → AddsItem entry added item new → new ≡ item_added entry added item
item_added-only entry added (zero, members) new h = h
item_added-only entry added (suc n, members) new h = listed_of-only (is_wanted_member entry) with_one added members new h

parts_of-only : (entry : List ℕ) (added : List Numbered) (items : List (ℕ × List Numbered)) (parts : List (List Numbered)) → AddsItems entry added items parts → parts ≡ parts_of entry added items
unfolding parts_of
parts_of-only entry added [] [] h = refl
parts_of-only entry added [] (new ∷ parts) h = absurd h
parts_of-only entry added (item ∷ items) [] h = absurd h
parts_of-only entry added (item ∷ items) (new ∷ parts) h =
    let same : new ≡ item_added entry added item = item_added-only entry added item new h.0 in
    let later : parts ≡ parts_of entry (added ++ new) items = parts_of-only entry (added ++ new) items parts h.1 in
    ap (λ (ps : List (List Numbered)). new ∷ ps) later ∙ ap (λ (x : List Numbered). x ∷ parts_of entry (added ++ x) items) same

-- and it is the only one that does
pub added_of-only : (entry : List ℕ) (inputs : List Input) (added : List ℕ) → IsAdded entry inputs added → added ≡ added_of entry inputs
unfolding added_of added_inputs
added_of-only entry inputs added (parts, adds, row) =
    row ∙ ap (flat_map numbers_in) (parts_of-only entry [] (items_of inputs) parts adds) ∙ sym (parts_of-row entry [] (items_of inputs))
