-- What is taken out of slots, one after another.
use Rattle.std.proofs.Common.{◌≡◌, ℕ, zero, suc, ◌+◌, ◌==◌, ◌<◌, ◌≤◌, Bool, true, false, ◌||◌, List, [], ◌∷◌, ◌++◌, length, drop, get_or, set, nat_eq, Option, None, Some, refl, sym, ap, ◌∙◌, subst, arith}
use Rattle.std.specs.List.{IsDistinct, AllByRecursion, cons_option, list_any}
use Rattle.std.specs.Option.{option_to_list}
use Rattle.std.proofs.lemmas.Bool.{both_ways, false_from_ne_true, eqb-true, eq-eqb, ne_eqb, eqb-false, or_left}
use Rattle.std.proofs.lemmas.List.{drop_more, append_assoc, get_or-set_other}
use Rattle.lk_task_runs.specs.Below.{has}
use Rattle.lk_task_runs.specs.Runs.{slot, values, blank}
use Rattle.lk_task_runs.proofs.SlotsPut.{values-same}

not_later : (n : ℕ) (ns : List ℕ) → AllByRecursion (λ m. nat_eq n m ≡ false) ns → has n ns ≡ false
not_later n [] h = refl
not_later n (m ∷ ns) h =
    let other : (m == n) ≡ false = ne_eqb m n (λ e. eqb-false n m h.0 (sym e)) in
    ap (λ (b : Bool). b || has n ns) other ∙ not_later n ns h.1

distinct_drop : (i : ℕ) (ns : List ℕ) → IsDistinct nat_eq ns → IsDistinct nat_eq (drop i ns)
unfolding IsDistinct
distinct_drop zero ns h = h
distinct_drop (suc i) [] h = h
distinct_drop (suc i) (n ∷ ns) h = distinct_drop i ns h.1

distinct_head : (n : ℕ) (ns : List ℕ) → IsDistinct nat_eq (n ∷ ns) → has n ns ≡ false
unfolding IsDistinct
distinct_head n ns h = not_later n ns h.0

cut : (slots : List ℕ) (i n : ℕ) → i < length slots → n ≡ get_or slots i n → drop i slots ≡ n ∷ drop (i + 1) slots
cut slots i n l e = drop_more slots i n l ∙ ap (λ (m : ℕ). m ∷ drop (i + 1) slots) (sym e)

once_head : (slots : List ℕ) (i n : ℕ) → IsDistinct nat_eq slots → i < length slots → n ≡ get_or slots i n → has n (drop (i + 1) slots) ≡ false
once_head slots i n once l e =
    distinct_head n (drop (i + 1) slots) (subst (λ (ns : List ℕ). IsDistinct nat_eq ns) (cut slots i n l e) (distinct_drop i slots once))

append_option : {S : Type 0} (o : Option S) (xs : List S) → option_to_list o ++ xs ≡ cons_option o xs
append_option None xs = refl
append_option (Some x) xs = refl

-- one more slot is blank
pub blank_more : {S : Type 0} (store : List (Option S)) (slots : List ℕ) (i n : ℕ) → i < length slots → n ≡ get_or slots i n → blank (drop (i + 1) slots) (set store n None) ≡ blank (drop i slots) store
blank_more {S} store slots i n l e = sym (ap (λ (ns : List ℕ). blank ns store) (cut slots i n l e))

-- one more value is taken
pub taken_more : {S : Type 0} (store : List (Option S)) (slots : List ℕ) (i n : ℕ) (into : List S) → IsDistinct nat_eq slots → i < length slots → n ≡ get_or slots i n → (into ++ option_to_list (slot store n)) ++ values (set store n None) (drop (i + 1) slots) ≡ into ++ values store (drop i slots)
taken_more {S} store slots i n into once l e =
    let apart : has n (drop (i + 1) slots) ≡ false = once_head slots i n once l e in
    let same : values (set store n None) (drop (i + 1) slots) ≡ values store (drop (i + 1) slots) =
    values-same (drop (i + 1) slots) (set store n None) store (λ m h. get_or-set_other store n m None None (λ (q : m ≡ n). both_ways (has n (drop (i + 1) slots)) apart (subst (λ (k : ℕ). has k (drop (i + 1) slots) ≡ true) q h))) in
    append_assoc into (option_to_list (slot store n)) (values (set store n None) (drop (i + 1) slots))
    ∙ ap (λ (vs : List S). into ++ vs) (append_option (slot store n) (values (set store n None) (drop (i + 1) slots)) ∙ ap (λ (vs : List S). cons_option (slot store n) vs) same ∙ sym (ap (λ (ns : List ℕ). values store ns) (cut slots i n l e)))

-- one more value is shared
pub shared_more : {S : Type 0} (store : List (Option S)) (slots : List ℕ) (i n : ℕ) (into all : List S) → i < length slots → n ≡ get_or slots i n → into ++ values store (drop i slots) ≡ all → (into ++ option_to_list (slot store n)) ++ values store (drop (i + 1) slots) ≡ all
shared_more {S} store slots i n into all l e h =
    append_assoc into (option_to_list (slot store n)) (values store (drop (i + 1) slots))
    ∙ ap (λ (vs : List S). into ++ vs) (append_option (slot store n) (values store (drop (i + 1) slots)) ∙ sym (ap (λ (ns : List ℕ). values store ns) (cut slots i n l e)))
    ∙ h
