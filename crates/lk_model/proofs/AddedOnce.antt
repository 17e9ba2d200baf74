-- The law of adding that all layers share: an input of a command is added at most once, and as the command has it.
-- What holds of each input with its number holds of each added one (`added_have`); no number is added twice, counted
-- (`added_once`), pair by pair (`added_apart`) and as a list of numbers that differ (`added_distinct`).
use Rattle.std.proofs.Common.{◌≡◌, ap, subst, arith, ℕ, zero, suc, ◌+◌, ◌<◌, ◌≤◌, ◌==◌, Bool, true, false, cond, List, [], ◌∷◌, ◌++◌, fold, length, map, nat_eq, Option, Some, None, option_map, slice_get, refl}
use Rattle.std.proofs.lemmas.Bool.Decides.{nat_tests}
use Rattle.std.specs.List.{AllByRecursion, IsDistinct}
use Rattle.lk_model.specs.Adding.{added_inputs, is_wanted_member, item_added, items_among, items_of, numbers_in, with_front, with_item, with_one}
use Rattle.lk_model.specs.Numbered.{Numbered, numbered_from}
use Rattle.lk_model.specs.Queues.{listed_within, next, turn}
use Rattle.lk_model.specs.Views.{Input}
use Rattle.lk_model.specs.declared.summaries.InputSummary.{InputSummary}

-- how many items pass a test
abbrev pub times : {M : Type 0} → (M → Bool) → List M → ℕ
times passes [] = 0
times passes (x ∷ xs) = cond (passes x) 1 0 + times passes xs

pub times-append : {M : Type 0} (p : M → Bool) (xs ys : List M) → times p (xs ++ ys) ≡ times p xs + times p ys
times-append p [] ys = omega arith
times-append p (x ∷ xs) ys = let later : times p (xs ++ ys) ≡ times p xs + times p ys = times-append p xs ys in omega arith

all-append : {M : Type 0} (P : M → Type 0) (xs ys : List M) → AllByRecursion P xs → AllByRecursion P ys → AllByRecursion P (xs ++ ys)
all-append P [] ys h k = k
all-append P (x ∷ xs) ys h k = (h.0, all-append P xs ys h.1 k)

some_same : {X : Type 0} (a b : X) → Some a ≡ Some b → a ≡ b
some_same a b e = cc

-- a search lists members of its queue, each at most as often as it is there
module _ {S M : Type 0} (wants : S → M → Bool) (step : S → M → S) (p : M → Bool) (P : M → Type 0) where
  turn-times : (passes : M → Bool) (past ms : List M) (found : M × List M) → turn passes past ms ≡ Some found → times p (found.0 ∷ found.1) ≡ times p past + times p ms
  turn-times passes past [] found e = absurd (cc)
  turn-times passes past (x ∷ xs) found e = by (passes x) e (turn-times passes (past ++ x ∷ []) xs found)
    where
      by : (b : Bool) → cond b (Some (x, xs ++ past)) (turn passes (past ++ x ∷ []) xs) ≡ Some found → (turn passes (past ++ x ∷ []) xs ≡ Some found → times p (found.0 ∷ found.1) ≡ times p (past ++ x ∷ []) + times p xs)
          → times p (found.0 ∷ found.1) ≡ times p past + times p (x ∷ xs)
      by true h later =
          let same : (x, xs ++ past) ≡ found = some_same (x, xs ++ past) found h in
          let size : times p (xs ++ past) ≡ times p xs + times p past = times-append p xs past in
          let here : times p (x ∷ (xs ++ past)) ≡ times p past + times p (x ∷ xs) = omega arith in
          subst (λ (f : M × List M). times p (f.0 ∷ f.1) ≡ times p past + times p (x ∷ xs)) same here
      by false h later =
          let size : times p (past ++ x ∷ []) ≡ times p past + times p (x ∷ []) = times-append p past (x ∷ []) in
          let rest : times p (found.0 ∷ found.1) ≡ times p (past ++ x ∷ []) + times p xs = later h in
          omega arith

  listed-times : (n : ℕ) (s : S) (waiting : List M) → times p (listed_within wants step n s waiting) ≤ times p waiting
  listed-times zero s waiting = omega arith
  listed-times (suc n) s waiting = by (next (wants s) waiting) refl (listed-times n)
    where
      by : (o : Option (M × List M)) → next (wants s) waiting ≡ o → ((t : S) (rest : List M) → times p (listed_within wants step n t rest) ≤ times p rest)
          → times p (elim o [ None ↦ [] | Some found ↦ found.0 ∷ listed_within wants step n (step s found.0) found.1 ]) ≤ times p waiting
      by None e later = omega arith
      by (Some found) e later =
          let size : times p (found.0 ∷ found.1) ≡ times {M = M} p [] + times p waiting = turn-times (wants s) [] waiting found e in
          let rest : times p (listed_within wants step n (step s found.0) found.1) ≤ times p found.1 = later (step s found.0) found.1 in
          omega arith

  turn-all : (passes : M → Bool) (past ms : List M) (found : M × List M) → turn passes past ms ≡ Some found → AllByRecursion P past → AllByRecursion P ms → P found.0 × AllByRecursion P found.1
  turn-all passes past [] found e h k = absurd (cc)
  turn-all passes past (x ∷ xs) found e h k = by (passes x) e (λ later. turn-all passes (past ++ x ∷ []) xs found later (all-append P past (x ∷ []) h (k.0, tt)) k.1)
    where
      by : (b : Bool) → cond b (Some (x, xs ++ past)) (turn passes (past ++ x ∷ []) xs) ≡ Some found → (turn passes (past ++ x ∷ []) xs ≡ Some found → P found.0 × AllByRecursion P found.1) → P found.0 × AllByRecursion P found.1
      by true g later = subst (λ (f : M × List M). P f.0 × AllByRecursion P f.1) (some_same (x, xs ++ past) found g) (k.0, all-append P xs past k.1 h)
      by false g later = later g

  listed-all : (n : ℕ) (s : S) (waiting : List M) → AllByRecursion P waiting → AllByRecursion P (listed_within wants step n s waiting)
  listed-all zero s waiting h = tt
  listed-all (suc n) s waiting h = by (next (wants s) waiting) refl (listed-all n)
    where
      by : (o : Option (M × List M)) → next (wants s) waiting ≡ o → ((t : S) (rest : List M) → AllByRecursion P rest → AllByRecursion P (listed_within wants step n t rest))
          → AllByRecursion P (elim o [ None ↦ [] | Some found ↦ found.0 ∷ listed_within wants step n (step s found.0) found.1 ])
      by None e later = tt
      by (Some found) e later =
          let parts : P found.0 × AllByRecursion P found.1 = turn-all (wants s) [] waiting found e tt h in
          (parts.0, later (step s found.0) found.1 parts.1)

-- the items of a command hold its inputs, each once
module _ (p : Numbered → Bool) where
  abbrev in_items : List (ℕ × List Numbered) → ℕ
  in_items [] = 0
  in_items (item ∷ items) = times p item.1 + in_items items

  front-times : (lib : ℕ) (x : Numbered) (items : List (ℕ × List Numbered)) → in_items (with_front lib x items) ≡ times p (x ∷ []) + in_items items
  front-times zero x items = refl
  front-times (suc n) x [] = refl
  front-times (suc n) x ((lib, members) ∷ items) = by (lib == suc n)
    where
      by : (b : Bool) → in_items (cond b ((lib, x ∷ members) ∷ items) ((suc n, x ∷ []) ∷ (lib, members) ∷ items)) ≡ times p (x ∷ []) + in_items ((lib, members) ∷ items)
      by true = omega arith
      by false = refl

  items-times : (rows : List (ℕ × Numbered)) → in_items (items_among rows) ≡ times p (map (λ (row : ℕ × Numbered). row.1) rows)
  items-times [] = refl
  items-times ((lib, x) ∷ rows) =
      let front : in_items (with_front lib x (items_among rows)) ≡ times p (x ∷ []) + in_items (items_among rows) = front-times lib x (items_among rows) in
      let later : in_items (items_among rows) ≡ times p (map (λ (row : ℕ × Numbered). row.1) rows) = items-times rows in
      omega arith

  item-times : (entry : List ℕ) (added : List Numbered) (item : ℕ × List Numbered) → times p (item_added entry added item) ≤ times p item.1
  item-times entry added (zero, members) = omega arith
  item-times entry added (suc n, members) = listed-times (is_wanted_member entry) with_one p (λ (x : Numbered). Unit {0}) (length members) added members

  added-times : (entry : List ℕ) (added : List Numbered) (items : List (ℕ × List Numbered)) → times p (fold (with_item entry) added items) ≤ times p added + in_items items
  added-times entry added [] = omega arith
  added-times entry added (item ∷ items) =
      let later : times p (fold (with_item entry) (with_item entry added item) items) ≤ times p (with_item entry added item) + in_items items = added-times entry (with_item entry added item) items in
      let size : times p (with_item entry added item) ≡ times p added + times p (item_added entry added item) = times-append p added (item_added entry added item) in
      let few : times p (item_added entry added item) ≤ times p item.1 = item-times entry added item in
      omega arith

module _ (P : Numbered → Type 0) where
  abbrev AllInItems : List (ℕ × List Numbered) → Type 0
  AllInItems items = AllByRecursion (λ (item : ℕ × List Numbered). AllByRecursion P item.1) items

  front-all : (lib : ℕ) (x : Numbered) (items : List (ℕ × List Numbered)) → P x → AllInItems items → AllInItems (with_front lib x items)
  front-all zero x items h k = ((h, tt), k)
  front-all (suc n) x [] h k = ((h, tt), tt)
  front-all (suc n) x ((lib, members) ∷ items) h k = by (lib == suc n)
    where
      by : (b : Bool) → AllInItems (cond b ((lib, x ∷ members) ∷ items) ((suc n, x ∷ []) ∷ (lib, members) ∷ items))
      by true = ((h, k.0), k.1)
      by false = ((h, tt), k)

  items-all : (rows : List (ℕ × Numbered)) → AllByRecursion (λ (row : ℕ × Numbered). P row.1) rows → AllInItems (items_among rows)
  items-all [] h = tt
  items-all ((lib, x) ∷ rows) h = front-all lib x (items_among rows) h.0 (items-all rows h.1)

  item-all : (entry : List ℕ) (added : List Numbered) (item : ℕ × List Numbered) → AllByRecursion P item.1 → AllByRecursion P (item_added entry added item)
  item-all entry added (zero, members) h = h
  item-all entry added (suc n, members) h = listed-all (is_wanted_member entry) with_one (λ (x : Numbered). true) P (length members) added members h

  added-all : (entry : List ℕ) (added : List Numbered) (items : List (ℕ × List Numbered)) → AllByRecursion P added → AllInItems items → AllByRecursion P (fold (with_item entry) added items)
  added-all entry added [] h k = h
  added-all entry added (item ∷ items) h k =
      added-all entry (with_item entry added item) items (all-append P added (item_added entry added item) h (item-all entry added item k.0)) k.1

-- the inputs are numbered, each once
abbrev pub is_numbered : ℕ → Numbered → Bool
is_numbered n x = x.number == n

not_same : (n k : ℕ) → k < n → (n == k) ≡ false
not_same n k lt = grind (arith, nat_tests)

numbers-above : (n k : ℕ) (inputs : List Input) → k < n → times (is_numbered k) (map (λ (row : ℕ × Numbered). row.1) (numbered_from n inputs)) ≡ 0
numbers-above n k [] lt = refl
numbers-above n k (x ∷ xs) lt =
    let above : k < n + 1 = omega arith in
    let other : ◌≡◌ {A = ℕ} (cond (n == k) 1 0) 0 = ap (λ b. cond b 1 0) (not_same n k lt) in
    let later : times (is_numbered k) (map (λ (row : ℕ × Numbered). row.1) (numbered_from (n + 1) xs)) ≡ 0 = numbers-above (n + 1) k xs above in
    omega arith

same_number : (n k : ℕ) → (n == k) ≡ true → n ≡ k
same_number n k e = grind (arith, nat_tests)

numbers-once : (n k : ℕ) (inputs : List Input) → times (is_numbered k) (map (λ (row : ℕ × Numbered). row.1) (numbered_from n inputs)) ≤ 1
numbers-once n k [] = omega arith
numbers-once n k (x ∷ xs) = by (n == k) refl (numbers-once (n + 1) k xs)
  where
    by : (b : Bool) → (n == k) ≡ b → times (is_numbered k) (map (λ (row : ℕ × Numbered). row.1) (numbered_from (n + 1) xs)) ≤ 1
        → cond b 1 0 + times (is_numbered k) (map (λ (row : ℕ × Numbered). row.1) (numbered_from (n + 1) xs)) ≤ 1
    by true e h =
        let same : n ≡ k = same_number n k e in
        let above : k < n + 1 = omega arith in
        let none : times (is_numbered k) (map (λ (row : ℕ × Numbered). row.1) (numbered_from (n + 1) xs)) ≡ 0 = numbers-above (n + 1) k xs above in
        omega arith
    by false e h = omega arith

-- so is each added input
pub added_once : (entry : List ℕ) (inputs : List Input) (k : ℕ) → times (is_numbered k) (added_inputs entry inputs) ≤ 1
unfolding added_inputs
added_once entry inputs k =
    let most : times (is_numbered k) (fold (with_item entry) [] (items_of inputs)) ≤ times (is_numbered k) [] + in_items (is_numbered k) (items_of inputs) = added-times (is_numbered k) entry [] (items_of inputs) in
    let stored : in_items (is_numbered k) (items_of inputs) ≡ times (is_numbered k) (map (λ (row : ℕ × Numbered). row.1) (numbered_from 0 inputs)) = items-times (is_numbered k) (numbered_from 0 inputs) in
    let once : times (is_numbered k) (map (λ (row : ℕ × Numbered). row.1) (numbered_from 0 inputs)) ≤ 1 = numbers-once 0 k inputs in
    omega arith

-- ---- so the numbers differ

abbrev pub Apart : List Numbered → Type 0
Apart [] = Unit {0}
Apart (x ∷ xs) = AllByRecursion (λ (y : Numbered). (x.number == y.number) ≡ false) xs × Apart xs

-- a number that is that of no item differs from each of them
none_there : (n : ℕ) (xs : List Numbered) → times (is_numbered n) xs ≡ 0 → AllByRecursion (λ (y : Numbered). (n == y.number) ≡ false) xs
none_there n [] e = tt
none_there n (x ∷ xs) e = by (x.number == n) refl e (none_there n xs)
  where
    by :
        (b : Bool)
        → (x.number == n) ≡ b
        → cond b 1 0 + times (is_numbered n) xs ≡ 0
        → (times (is_numbered n) xs ≡ 0 → AllByRecursion (λ (y : Numbered). (n == y.number) ≡ false) xs)
        → AllByRecursion (λ (y : Numbered). (n == y.number) ≡ false) (x ∷ xs)
    by true same none later = absurd (omega (arith, none))
    by false other none later = (grind (arith, nat_tests), later (omega (arith, none)))

apart_from : (xs : List Numbered) → ((n : ℕ) → times (is_numbered n) xs ≤ 1) → Apart xs
apart_from [] h = tt
apart_from (x ∷ xs) h =
    let here = h x.number in
    let one : (x.number == x.number) ≡ true = grind (arith, nat_tests) in
    let full : ◌≡◌ {A = ℕ} (cond (x.number == x.number) 1 0) 1 = ap (λ b. cond b 1 0) one in
    (none_there x.number xs (omega (arith, here, full)), apart_from xs (λ n. (let all = h n in omega (arith, all))))

pub added_apart : (entry : List ℕ) (inputs : List Input) → Apart (added_inputs entry inputs)
added_apart entry inputs = apart_from (added_inputs entry inputs) (added_once entry inputs)

-- the numbers of items that are apart differ
others : (n : ℕ) (xs : List Numbered) → AllByRecursion (λ (y : Numbered). (n == y.number) ≡ false) xs → AllByRecursion (λ k. nat_eq n k ≡ false) (numbers_in xs)
others n [] all = tt
others n (x ∷ xs) all = (all.0, others n xs all.1)

apart_distinct : (xs : List Numbered) → Apart xs → IsDistinct nat_eq (numbers_in xs)
unfolding IsDistinct
apart_distinct [] apart = tt
apart_distinct (x ∷ xs) apart = (others x.number xs apart.0, apart_distinct xs apart.1)

pub added_distinct : (entry : List ℕ) (inputs : List Input) → IsDistinct nat_eq (numbers_in (added_inputs entry inputs))
added_distinct entry inputs = apart_distinct (added_inputs entry inputs) (added_apart entry inputs)

-- ---- what holds of each input holds of each added one

-- each input, with its number, has the property
abbrev pub EachHas : (Numbered → Type 0) → ℕ → List Input → Type 0
EachHas P n inputs = (m : ℕ) (x : Input) → slice_get inputs m ≡ Some x → P (record { number = n + m; summary = x.summary })

numbered_have : (P : Numbered → Type 0) (n : ℕ) (inputs : List Input) → EachHas P n inputs → AllByRecursion (λ (row : ℕ × Numbered). P row.1) (numbered_from n inputs)
numbered_have P n [] each = tt
numbered_have P n (x ∷ xs) each =
    let first : n + 0 ≡ n = omega arith in (
      subst (λ (k : ℕ). P (record { number = k; summary = x.summary })) first (each 0 x refl),
      numbered_have P (n + 1) xs
          (λ m y there. let later : n + suc m ≡ n + 1 + m = omega arith in subst (λ (k : ℕ). P (record { number = k; summary = y.summary })) later (each (suc m) y there)),
    )

pub added_have : (P : Numbered → Type 0) (entry : List ℕ) (inputs : List Input) → EachHas P 0 inputs → AllByRecursion P (added_inputs entry inputs)
unfolding added_inputs
added_have P entry inputs each = added-all P entry [] (items_of inputs) tt (items-all P (numbered_from 0 inputs) (numbered_have P 0 inputs each))

-- what holds of each summary
abbrev pub Has : (InputSummary → Type 0) → Numbered → Type 0
Has P x = P x.summary

summaries_have : (P : InputSummary → Type 0) (n : ℕ) (inputs : List Input) → AllByRecursion (λ (x : Input). P x.summary) inputs → AllByRecursion (λ (row : ℕ × Numbered). Has P row.1) (numbered_from n inputs)
summaries_have P n [] all = tt
summaries_have P n (x ∷ xs) all = (all.0, summaries_have P (n + 1) xs all.1)

pub added_inputs_have : (P : InputSummary → Type 0) (entry : List ℕ) (inputs : List Input) → AllByRecursion (λ (x : Input). P x.summary) inputs → AllByRecursion (Has P) (added_inputs entry inputs)
unfolding added_inputs
added_inputs_have P entry inputs all = added-all (Has P) entry [] (items_of inputs) tt (items-all (Has P) (numbered_from 0 inputs) (summaries_have P 0 inputs all))

-- ---- the input of a number

-- an input is in the command under its number, with its summary
abbrev pub IsIn : List Input → Numbered → Type 0
IsIn inputs x = (y : Input) × (slice_get inputs x.number ≡ Some y) × (y.summary ≡ x.summary)

pub added_are_at : (entry : List ℕ) (inputs : List Input) → AllByRecursion (IsIn inputs) (added_inputs entry inputs)
added_are_at entry inputs =
    added_have (IsIn inputs) entry inputs (λ m x there. (let same : m ≡ 0 + m = omega arith in (x, subst (λ k. slice_get inputs k ≡ Some x) same there, refl)))

-- the summary of an added input is the one with its number among those of all inputs
abbrev pub HasSummary : List InputSummary → Numbered → Type 0
HasSummary summaries x = slice_get summaries x.number ≡ Some x.summary

abbrev pub HaveSummaries : List InputSummary → List Numbered → Type 0
HaveSummaries summaries xs = AllByRecursion (HasSummary summaries) xs

abbrev pub summary_of_input : Input → InputSummary
summary_of_input x = x.summary

summary_at : (inputs : List Input) (m : ℕ) (x : Input) → slice_get inputs m ≡ Some x → slice_get (map summary_of_input inputs) m ≡ Some x.summary
summary_at [] m x there = absurd (cc)
summary_at (y ∷ ys) zero x there = let same : y ≡ x = some_same y x there in ap (λ (z : Input). Some z.summary) same
summary_at (y ∷ ys) (suc m) x there = summary_at ys m x there

pub added_summaries : (entry : List ℕ) (inputs : List Input) → HaveSummaries (map summary_of_input inputs) (added_inputs entry inputs)
added_summaries entry inputs =
    added_have (HasSummary (map summary_of_input inputs)) entry inputs
    (λ m x there. (let same : m ≡ 0 + m = omega arith in subst (λ k. slice_get (map summary_of_input inputs) k ≡ Some x.summary) same (summary_at inputs m x there)))

-- or is none where there is no such input
abbrev pub IsOf : List Input → Numbered → Type 0
IsOf inputs m = option_map (λ (i : Input). i.summary) (slice_get inputs m.number) ≡ Some m.summary

pub added_of : (entry : List ℕ) (inputs : List Input) → AllByRecursion (IsOf inputs) (added_inputs entry inputs)
added_of entry inputs =
    added_have (IsOf inputs) entry inputs
    (λ m x there. (let same : m ≡ 0 + m = omega arith in ap (option_map (λ (i : Input). i.summary)) (subst (λ k. slice_get inputs k ≡ Some x) same there)))
