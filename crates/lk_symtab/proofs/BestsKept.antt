-- The best of a name's symbols is kept: with one more symbol it is that of the longer list, and what is
-- picked from it is the winner of the name.
use Rattle.std.proofs.Common.{◌≡◌, refl, sym, ap, ◌∙◌, ℕ, Bool, true, false, ◌||◌, cond, max, ◌==◌, List, [], ◌∷◌, ◌++◌, filter, fold, Option, None, Some}
use Rattle.std.specs.List.{find, list_any}
use Rattle.std.specs.Option.{option_map, option_or}
use Rattle.std.proofs.lemmas.List.{append-nil}
use Rattle.std.proofs.lemmas.List.Elements.{filter-append}
use Rattle.std.proofs.lemmas.List.Folds.{find-append, list_any-append}
use Rattle.std.proofs.lemmas.List.Sums.{fold-append}
use Rattle.lk_elf.specs.Numbers.{stv_default}
use Rattle.lk_model.specs.declared.summaries.Contribution.{Contribution}
use Rattle.lk_model.specs.declared.summaries.Contributions.{Contributions}
use Rattle.lk_model.specs.declared.summaries.Winner.TheVariants as winner
use Rattle.lk_model.specs.Symbols.{is_of_object, is_strong_definition, is_weak_definition, is_object_common, is_object_reference, is_shared_definition}
use Rattle.lk_model.specs.Winners.{first_offered, made_where, merged, stricter, visibility_of, winner_of}
use Rattle.lk_symtab.specs.declared.bests.Best.{Best}
use Rattle.lk_symtab.specs.Bests.{best_of, best_with, block_and, block_with, common_of, first_place, import_at, is_global_reference, merged_block, none, picked, place_of, place_with, strong_at, visibility_with, weak_at, with_last}

-- the first place with one more symbol
place-or : (found : Option Contribution) (b : Bool) (c : Contribution) → option_map place_of (option_or found (cond b (Some c) None)) ≡ place_with (option_map place_of found) b c
place-or (Some d) b c = refl
place-or None true c = refl
place-or None false c = refl

first_place-push : (test : Contribution → Bool) (list : List Contribution) (c : Contribution) → first_place test (list ++ c ∷ []) ≡ place_with (first_place test list) (test c) c
first_place-push test list c =
    ap (option_map place_of) (find-append test list (c ∷ [])) ∙ place-or (find test list) (test c) c

-- a merged block with one more common
merged_block-push : (commons : List Contribution) (c : Contribution) → merged_block (commons ++ c ∷ []) ≡ Some (block_and (merged_block commons) c.global.size c.global.value)
merged_block-push [] c = refl
merged_block-push (d ∷ ds) c =
    let size = fold-append (λ n (e : Contribution). max n e.global.size) d.global.size ds (c ∷ []) in
    let align = fold-append (λ n (e : Contribution). max n e.global.value) d.global.value ds (c ∷ []) in
    λ i. Some (record { size = size i; align = align i })

-- a filtered list with one more item
filter-push : (test : Contribution → Bool) (list : List Contribution) (c : Contribution) → filter test (list ++ c ∷ []) ≡ cond (test c) (filter test list ++ c ∷ []) (filter test list)
filter-push test list c = filter-append test list (c ∷ []) ∙ by (test c)
  where
    by : (b : Bool) → filter test list ++ cond b (c ∷ []) [] ≡ cond b (filter test list ++ c ∷ []) (filter test list)
    by true = refl
    by false = simp append-nil

block-push : (b : Bool) (commons : List Contribution) (c : Contribution) → merged_block (cond b (commons ++ c ∷ []) commons) ≡ block_with (merged_block commons) b c
block-push true commons c = merged_block-push commons c
block-push false commons c = refl

visibility-push : (b : Bool) (symbols : List Contribution) (c : Contribution) → fold (λ v (d : Contribution). stricter v d.global.visibility) stv_default (cond b (symbols ++ c ∷ []) symbols) ≡ visibility_with (fold (λ v (d : Contribution). stricter v d.global.visibility) stv_default symbols) b c
visibility-push true symbols c = fold-append (λ v (d : Contribution). stricter v d.global.visibility) stv_default symbols (c ∷ [])
visibility-push false symbols c = refl

-- whether a symbol passes a test, with one more symbol
or_false : (b : Bool) → (b || false) ≡ b
or_false true = refl
or_false false = refl

flag-push : (test : Contribution → Bool) (list : List Contribution) (c : Contribution) → list_any test (list ++ c ∷ []) ≡ (list_any test list || test c)
flag-push test list c = list_any-append test list (c ∷ []) ∙ ap (λ b. list_any test list || b) (or_false (test c))

-- the best with one more symbol
pub best_pushed : (cs : Contributions) (c : Contribution) → best_of (with_last cs c) ≡ best_with (best_of cs) c
unfolding best_of best_with
best_pushed cs c =
    let strong = first_place-push is_strong_definition cs.list c in
    let weak = first_place-push is_weak_definition cs.list c in
    let import = first_place-push is_shared_definition cs.list c in
    let common = ap merged_block (filter-push is_object_common cs.list c) ∙ block-push (is_object_common c) (filter is_object_common cs.list) c in
    let visibility = ap (fold (λ v (d : Contribution). stricter v d.global.visibility) stv_default) (filter-push is_of_object cs.list c) ∙ visibility-push (is_of_object c) (filter is_of_object cs.list) c in
    let referred = flag-push is_object_reference cs.list c in
    let needed = flag-push is_global_reference cs.list c in
    λ i. record { strong = strong i; common = common i; weak = weak i; import = import i; visibility = visibility i; is_referred = referred i; is_needed = needed i }

-- the best of one symbol
pub best_of_first : (name : List ℕ) (list : List Contribution) (c : Contribution) (nothing best : Best) → nothing ≡ none → best ≡ best_with nothing c → list ≡ c ∷ [] → best ≡ best_of (record { name = name; list = list })
unfolding best_of
best_of_first name list c nothing best start step one =
    step ∙ ap (λ b. best_with b c) start ∙ sym (best_pushed (record { name = name; list = [] }) c) ∙ ap (λ (l : List Contribution). best_of (record { name = name; list = l })) (sym one)

-- what is picked from the best is the winner
strong_is : (o : Option Contribution) → option_map (λ (c : Contribution). winner.Strong c.input c.global.symbol) o ≡ option_map strong_at (option_map place_of o)
strong_is None = refl
strong_is (Some c) = refl

weak_is : (o : Option Contribution) → option_map (λ (c : Contribution). winner.Weak c.input c.global.symbol) o ≡ option_map weak_at (option_map place_of o)
weak_is None = refl
weak_is (Some c) = refl

import_is : (o : Option Contribution) → option_map (λ (c : Contribution). winner.Import c.input c.global.symbol) o ≡ option_map import_at (option_map place_of o)
import_is None = refl
import_is (Some c) = refl

common_is : (commons : List Contribution) → merged commons ≡ option_map common_of (merged_block commons)
common_is [] = refl
common_is (c ∷ cs) = refl

pub picked_is : (cs : Contributions) (is_made : Bool) → picked (best_of cs) is_made ≡ winner_of cs is_made (visibility_of cs)
unfolding best_of picked winner_of
picked_is cs is_made =
    let strong = sym (strong_is (find is_strong_definition cs.list)) in
    let common = sym (common_is (filter is_object_common cs.list)) in
    let weak = sym (weak_is (find is_weak_definition cs.list)) in
    let import = sym (import_is (find is_shared_definition cs.list)) in
    λ i. first_offered (strong i ∷ common i ∷ weak i ∷ made_where is_made ∷ cond (visibility_of cs == stv_default) (import i) None ∷ [])
