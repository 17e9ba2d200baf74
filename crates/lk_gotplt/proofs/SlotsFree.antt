-- The queue of the free slots goes on with the slots.
use Rattle.std.specs.Prelude.{◌≡◌, ℕ, zero, suc, ◌+◌, ◌<◌, ◌≤◌, cond, nat_eq, not, Bool, true, false, List, [], ◌∷◌, ◌++◌, length, Option, Some, None, is_none, is_some, get_or, refl}
use Rattle.std.specs.List.{count_by, position_or_len, slice_set}
use Rattle.std.specs.declared.cmp.Reverse.{Reverse}
use Rattle.std.proofs.Common.{◌≢◌, arith, ◌∙◌, sym, ap, inl, inr, true≢false}
use Rattle.std.proofs.lemmas.Bool.{cases_lt, cases_eq}
use Rattle.std.proofs.lemmas.Bool.Decides.{nat_tests}
use Rattle.std.proofs.lemmas.List.Sums.{sum_by-set, sum_by_push, position_or_len_is, count_by-le-length, get_or-le-sum_by}
use Rattle.std.proofs.lemmas.List.{length-set}
use Rattle.lk_model.specs.declared.layouts.GotKey.{GotKey}
use Rattle.lk_gotplt.specs.FreeSlots.{AreFree, count_of, free_at, one_at, one_if_free}

abbrev Slot : Type 0
Slot = Option GotKey

-- whether a slot is free, by its number
free_at_in : (slots : List Slot) (n : ℕ) (d : Slot) → n < length slots → free_at slots n ≡ one_if_free (get_or slots n d)
free_at_in [] n d h = absurd (omega arith)
free_at_in (s ∷ ss) zero d h = refl
free_at_in (s ∷ ss) (suc n) d h = free_at_in ss n d (omega arith)

free_at_past : (slots : List Slot) (n : ℕ) → length slots ≤ n → free_at slots n ≡ 0
free_at_past [] n h = refl
free_at_past (s ∷ ss) zero h = absurd (omega arith)
free_at_past (s ∷ ss) (suc n) h = free_at_past ss n (omega arith)

free_at_most : (slots : List Slot) (n : ℕ) → free_at slots n ≤ 1
free_at_most [] n = omega arith
free_at_most (Some k ∷ ss) zero = omega arith
free_at_most (None ∷ ss) zero = omega arith
free_at_most (s ∷ ss) (suc n) = free_at_most ss n

-- after a write
free_at_set : (slots : List Slot) (m : ℕ) (s : Slot) → m < length slots → free_at (slice_set slots m s) m ≡ one_if_free s
free_at_set [] m s h = absurd (omega arith)
free_at_set (x ∷ xs) zero s h = refl
free_at_set (x ∷ xs) (suc m) s h = free_at_set xs m s (omega arith)

free_at_other : (slots : List Slot) (m n : ℕ) (s : Slot) → n ≢ m → free_at (slice_set slots m s) n ≡ free_at slots n
free_at_other [] m n s h = refl
free_at_other (x ∷ xs) zero zero s h = absurd (h refl)
free_at_other (x ∷ xs) zero (suc n) s h = refl
free_at_other (x ∷ xs) (suc m) zero s h = refl
free_at_other (x ∷ xs) (suc m) (suc n) s h = free_at_other xs m n s (λ e. h (ap suc e))

-- with one more slot
free_at_last : (slots : List Slot) (s : Slot) → free_at (slots ++ s ∷ []) (length slots) ≡ one_if_free s
free_at_last [] s = refl
free_at_last (x ∷ xs) s = free_at_last xs s

free_at_before : (slots : List Slot) (s : Slot) (n : ℕ) → n ≢ length slots → free_at (slots ++ s ∷ []) n ≡ free_at slots n
free_at_before [] s zero h = absurd (h refl)
free_at_before [] s (suc n) h = refl
free_at_before (x ∷ xs) s zero h = refl
free_at_before (x ∷ xs) s (suc n) h = free_at_before xs s n (λ e. h (ap suc e))

-- the number that comes out first is that of a slot, which is free
free_there : (free rest : List (Reverse ℕ)) (slots : List Slot) (slot : ℕ) → AreFree free slots → ((n : ℕ) → count_of n free ≡ one_at slot n + count_of n rest) → 1 ≤ free_at slots slot
free_there free rest slots slot are taken =
    let here : nat_eq slot slot ≡ true = grind (arith, nat_tests) in
    let one : one_at slot slot ≡ 1 = rw here refl in
    omega (arith, taken slot, are.each slot)

pub lowest_within : (free rest : List (Reverse ℕ)) (slots : List Slot) (slot : ℕ) → AreFree free slots → ((n : ℕ) → count_of n free ≡ one_at slot n + count_of n rest) → slot < length slots
lowest_within free rest slots slot are taken =
    let some = free_there free rest slots slot are taken in
    elim (cases_lt slot (length slots)) [
      | inl h ↦ h
      | inr h ↦ absurd (let past = free_at_past slots slot h in omega arith)
    ]

-- a slot that counts is free, and one that does not is not
free_of_one : (s : Slot) → 1 ≤ one_if_free s → is_none s ≡ true
free_of_one None h = refl
free_of_one (Some k) h = absurd (omega arith)

taken_of_none : (s : Slot) → one_if_free s ≡ 0 → is_none s ≡ false
taken_of_none None h = absurd (omega arith)
taken_of_none (Some k) h = refl

-- no lower slot is free
pub lowest_is :
    (free rest : List (Reverse ℕ)) (slots : List Slot) (slot : ℕ)
    → AreFree free slots
    → ((n : ℕ) → n < slot → count_of n free ≡ 0)
    → ((n : ℕ) → count_of n free ≡ one_at slot n + count_of n rest)
    → position_or_len (λ (s : Slot). is_none s) slots ≡ slot
lowest_is free rest slots slot are lowest taken =
    let within = lowest_within free rest slots slot are taken in
    let some = free_there free rest slots slot are taken in
    position_or_len_is
    (λ (s : Slot). is_none s)
    slots
    slot
    None
    (omega arith)
    (λ k low. taken_of_none (get_or slots k None) (sym (free_at_in slots k None (omega arith)) ∙ sym (are.each k) ∙ lowest k low))
    (λ h. free_of_one (get_or slots slot None) (let e = free_at_in slots slot None h in omega arith))

-- how many slots are free, after one was written
abbrev all_free : List Slot → ℕ
all_free slots = count_by (λ (s : Slot). is_none s) slots

counted_set : (slots : List Slot) (m : ℕ) (s : Slot) → m < length slots → all_free (slice_set slots m s) + free_at slots m ≡ all_free slots + one_if_free s
counted_set slots m s h =
    let there = free_at_in slots m None h in
    let counted = sum_by-set (λ (x : Slot). cond (is_none x) 1 0) slots m s None h in
    omega arith

-- the queue after the lowest slot was given to a key
pub lowest_given :
    (free rest : List (Reverse ℕ)) (slots : List Slot) (slot : ℕ) (key : GotKey)
    → AreFree free slots
    → ((n : ℕ) → count_of n free ≡ one_at slot n + count_of n rest)
    → length free ≡ length rest + 1
    → AreFree rest (slice_set slots slot (Some key))
lowest_given free rest slots slot key are taken fewer =
    let within = lowest_within free rest slots slot are taken in
    let some = free_there free rest slots slot are taken in
    let most = free_at_most slots slot in
    record {
      each = λ n.
          elim (cases_eq n slot) [
            | inl e ↦
                let here : nat_eq n slot ≡ true = grind (arith, nat_tests) in
                let one : one_at slot n ≡ 1 = rw here refl in
                let now : free_at (slice_set slots slot (Some key)) n ≡ 0 = rw e (free_at_set slots slot (Some key) within) in
                let before : free_at slots n ≡ free_at slots slot = ap (free_at slots) e in
                let t = taken n in
                let a = are.each n in
                omega arith
            | inr far ↦
                let there : nat_eq n slot ≡ false = grind (arith, nat_tests) in
                let none : one_at slot n ≡ 0 = rw there refl in
                let now = free_at_other slots slot n (Some key) far in
                let t = taken n in
                let a = are.each n in
                omega arith
          ];
      total = (let counted = counted_set slots slot (Some key) within in let t = are.total in omega arith);
    }

-- the queue after a slot became free
pub slot_freed :
    (free more : List (Reverse ℕ)) (slots : List Slot) (slot : ℕ)
    → AreFree free slots
    → slot < length slots
    → free_at slots slot ≡ 0
    → ((n : ℕ) → count_of n more ≡ one_at slot n + count_of n free)
    → length more ≡ length free + 1
    → AreFree more (slice_set slots slot None)
slot_freed free more slots slot are within taken put longer =
    record {
      each = λ n.
          elim (cases_eq n slot) [
            | inl e ↦
                let here : nat_eq n slot ≡ true = grind (arith, nat_tests) in
                let one : one_at slot n ≡ 1 = rw here refl in
                let now : free_at (slice_set slots slot None) n ≡ 1 = rw e (free_at_set slots slot None within) in
                let before : free_at slots n ≡ free_at slots slot = ap (free_at slots) e in
                let t = put n in
                let a = are.each n in
                omega arith
            | inr far ↦
                let there : nat_eq n slot ≡ false = grind (arith, nat_tests) in
                let none : one_at slot n ≡ 0 = rw there refl in
                let now = free_at_other slots slot n None far in
                let t = put n in
                let a = are.each n in
                omega arith
          ];
      total = (let counted = counted_set slots slot None within in let t = are.total in omega arith);
    }

-- the queue after a slot that is not free went behind all
pub taken_behind : (free : List (Reverse ℕ)) (slots : List Slot) (last : Slot) → is_none last ≡ false → AreFree free slots → AreFree free (slots ++ last ∷ [])
taken_behind free slots last taken are =
    let zero_here : one_if_free last ≡ 0 = rw taken refl in
    record {
      each = λ n.
          elim (cases_eq n (length slots)) [
            | inl e ↦
                let now : free_at (slots ++ last ∷ []) n ≡ one_if_free last = rw e (free_at_last slots last) in
                let before = free_at_past slots n (omega arith) in
                let a = are.each n in
                omega arith
            | inr far ↦
                let now = free_at_before slots last n far in
                let a = are.each n in
                omega arith
          ];
      total = (let counted = sum_by_push (λ (x : Slot). cond (is_none x) 1 0) slots last in let t = are.total in omega arith);
    }

-- and after a free one did
pub free_behind :
    (free more : List (Reverse ℕ)) (slots : List Slot) (last : Slot)
    → is_none last ≡ true
    → AreFree free slots
    → ((n : ℕ) → count_of n more ≡ one_at (length slots) n + count_of n free)
    → length more ≡ length free + 1
    → AreFree more (slots ++ last ∷ [])
free_behind free more slots last is_free are put longer =
    let one_here : one_if_free last ≡ 1 = rw is_free refl in
    record {
      each = λ n.
          elim (cases_eq n (length slots)) [
            | inl e ↦
                let here : nat_eq n (length slots) ≡ true = grind (arith, nat_tests) in
                let one : one_at (length slots) n ≡ 1 = rw here refl in
                let now : free_at (slots ++ last ∷ []) n ≡ one_if_free last = rw e (free_at_last slots last) in
                let before = free_at_past slots n (omega arith) in
                let t = put n in
                let a = are.each n in
                omega arith
            | inr far ↦
                let there : nat_eq n (length slots) ≡ false = grind (arith, nat_tests) in
                let none : one_at (length slots) n ≡ 0 = rw there refl in
                let now = free_at_before slots last n far in
                let t = put n in
                let a = are.each n in
                omega arith
          ];
      total = (let counted = sum_by_push (λ (x : Slot). cond (is_none x) 1 0) slots last in let t = are.total in omega arith);
    }

-- where a key has a slot that is not free
pub taken_at : (slots : List Slot) (slot : ℕ) (d : Slot) → slot < length slots → is_none (get_or slots slot d) ≡ false → free_at slots slot ≡ 0
taken_at slots slot d within taken = free_at_in slots slot d within ∙ rw taken refl

-- there are no more free slots than slots; one less where one is taken
pub free_within : (free : List (Reverse ℕ)) (slots : List Slot) → AreFree free slots → length free ≤ length slots
free_within free slots are = let t = are.total in let most = count_by-le-length (λ (s : Slot). is_none s) slots in omega arith

pub free_below : (free : List (Reverse ℕ)) (slots : List Slot) (slot : ℕ) (d : Slot) → slot < length slots → is_none (get_or slots slot d) ≡ false → AreFree free slots → length free < length slots
free_below free slots slot d within taken are =
    let t = are.total in
    let there = taken_at slots slot d within taken in
    let counted = counted_set slots slot None within in
    let most = count_by-le-length (λ (s : Slot). is_none s) (slice_set slots slot None) in
    let same = length-set slots slot None in
    omega arith

-- where no slot is free
pub none_free : (free : List (Reverse ℕ)) (slots : List Slot) → AreFree free slots → length free ≡ 0 → position_or_len (λ (s : Slot). is_none s) slots ≡ length slots
none_free free slots are empty =
    let none : all_free slots ≡ 0 = sym are.total ∙ empty in
    position_or_len_is
    (λ (s : Slot). is_none s)
    slots
    (length slots)
    None
    (omega arith)
    (λ k low. taken_of_none (get_or slots k None) (let most = get_or-le-sum_by (λ (x : Slot). cond (is_none x) 1 0) slots k None low in omega arith))
    (λ h. absurd (omega arith))

-- a slot that has a key is not free
pub key_there : (s : Slot) → is_some s ≡ true → is_none s ≡ false
key_there (Some k) h = refl
key_there None h = absurd (true≢false (sym h))

-- what a test on a slot says
pub none_there : (s : Slot) (b : Bool) → is_some s ≡ not b → b ≡ true → is_none s ≡ true
none_there None b e h = refl
none_there (Some k) true e h = absurd (true≢false e)
none_there (Some k) false e h = absurd (true≢false (sym h))

pub key_here : (s : Slot) (b : Bool) → is_some s ≡ not b → b ≡ false → is_none s ≡ false
key_here (Some k) b e h = refl
key_here None true e h = absurd (true≢false h)
key_here None false e h = absurd (true≢false (sym e))
