-- The walk of a chain finds the name.
use Rattle.std.proofs.Common.{◌≡◌, ℕ, zero, suc, ◌+◌, ◌-◌, ◌%◌, ◌<◌, ◌≤◌, ◌==◌, ◌||◌, Bool, true, false, true≢false, cond, List, [], ◌∷◌, ◌++◌, map, filter, length, reverse, drop, Option, Some, None, slice_get, refl, ap, sym, ◌∙◌, subst, arith, mod-lt, inl, inr}
use Rattle.std.specs.Prelude.{find, MatchOption}
use Rattle.std.specs.List.{AllByRecursion, enumerate_from, list_any, range_with_len}
use Rattle.std.specs.Str.{bytes_eq}
use Rattle.std.proofs.lemmas.Bool.{cases_eq}
use Rattle.std.proofs.lemmas.Bool.Decides.{nat_tests}
use Rattle.std.proofs.lemmas.Slice.Eq.{bytes_eq-Decides}
use Rattle.std.proofs.lemmas.List.{reverse-append, reverse-reverse, length-reverse, length-map}
use Rattle.std.proofs.lemmas.List.FromFn.{length-enumerate_from}
use Rattle.std.proofs.lemmas.List.Sums.{length-filter, count_by-le-length}
use Rattle.lk_model.specs.HashTable.{bucket_count, bucket_word, buckets_of, chain_word, entries_in, entry_count, sysv_hash, IsChain}
use Rattle.lk_dyn.specs.HashLookUps.{is_entry_of, look_up, walk, FindsEachName}

abbrev Entry : Type 0
Entry = ℕ × ℕ

-- what holds of each item of a list
all_joined : {X : Type 0} (P : X → Type 0) (xs ys : List X) → AllByRecursion P xs → AllByRecursion P ys → AllByRecursion P (xs ++ ys)
all_joined P [] ys a b = b
all_joined P (x ∷ xs) ys a b = (a.0, all_joined P xs ys a.1 b)

all_reversed : {X : Type 0} (P : X → Type 0) (xs : List X) → AllByRecursion P xs → AllByRecursion P (reverse xs)
all_reversed P [] a = tt
all_reversed P (x ∷ xs) a = subst (AllByRecursion P) (sym (reverse-append (x ∷ []) xs)) (all_joined P (reverse xs) (x ∷ []) (all_reversed P xs a.1) (a.0, tt))

all_turned : {X : Type 0} (P : X → Type 0) (xs : List X) → AllByRecursion P (reverse xs) → AllByRecursion P xs
all_turned P xs a = subst (AllByRecursion P) (reverse-reverse xs) (all_reversed P (reverse xs) a)

-- what is found passes the test, and where nothing is found nothing does
found_passes : {X : Type 0} (P : X → Type 0) (test : X → Bool) (xs : List X) (x : X) → AllByRecursion P xs → find test xs ≡ Some x → P x × (test x ≡ true)
found_passes P test [] x a h = absurd (cc)
found_passes P test (y ∷ ys) x a h = by (test y) refl h (λ later. found_passes P test ys x a.1 later)
  where
    by : (b : Bool) → test y ≡ b → cond b (Some y) (find test ys) ≡ Some x → (find test ys ≡ Some x → P x × (test x ≡ true)) → P x × (test x ≡ true)
    by true e h rest =
        let same : y ≡ x = cc in
        (subst P same a.0, subst (λ z. test z ≡ true) same e)
    by false e h rest = rest h

none_passes : {X : Type 0} (test : X → Bool) (xs : List X) → find test xs ≡ None → AllByRecursion (λ x. test x ≡ false) xs
none_passes test [] h = tt
none_passes test (y ∷ ys) h = by (test y) refl h (λ later. none_passes test ys later)
  where
    by : (b : Bool) → test y ≡ b → cond b (Some y) (find test ys) ≡ None → (find test ys ≡ None → AllByRecursion (λ x. test x ≡ false) ys) → AllByRecursion (λ x. test x ≡ false) (y ∷ ys)
    by true e h rest = absurd (cc)
    by false e h rest = (e, rest h)

-- the walk of a chain finds the first of its entries with the name
walk_finds :
    (names : List (List ℕ)) (words name entries : List ℕ) (head steps : ℕ)
    → IsChain names words head entries
    → AllByRecursion (λ e. 0 < e) entries
    → length entries < steps
    → walk names words name steps head ≡ find (is_entry_of names name) entries
walk_finds names words name entries head zero chain above fewer = absurd (omega arith)
walk_finds names words name [] head (suc steps) chain above fewer =
    let ends : (head == 0) ≡ true = grind (arith, nat_tests) in
    ap (λ b. cond b None (cond (is_entry_of names name head) (Some head) (walk names words name steps (chain_word names words head)))) ends
walk_finds names words name (e ∷ es) head (suc steps) chain above fewer =
    let first = above.0 in
    let goes : (e == 0) ≡ false = grind (arith, nat_tests) in
    let rest = walk_finds names words name es (chain_word names words e) steps chain.1 above.1 (omega arith) in
    ap (λ h. walk names words name (suc steps) h) chain.0
    ∙ (λ i. cond (goes i) None (cond (is_entry_of names name e) (Some e) (rest i)))

-- the numbers of the entries of a bucket
abbrev is_in : ℕ → Entry → Bool
is_in bucket x = x.1 == bucket

abbrev numbers : ℕ → List Entry → List ℕ
numbers bucket xs = map (λ (x : Entry). x.0) (filter (is_in bucket) xs)

numbers_above : (bucket n : ℕ) (buckets : List ℕ) → 0 < n → AllByRecursion (λ e. 0 < e) (numbers bucket (enumerate_from n buckets))
numbers_above bucket n [] some = tt
numbers_above bucket n (b ∷ bs) some = by (b == bucket) (numbers_above bucket (n + 1) bs (omega arith))
  where
    by : (t : Bool) → AllByRecursion (λ e. 0 < e) (numbers bucket (enumerate_from (n + 1) bs)) → AllByRecursion (λ e. 0 < e) (map (λ (x : Entry). x.0) (cond t ((n, b) ∷ filter (is_in bucket) (enumerate_from (n + 1) bs)) (filter (is_in bucket) (enumerate_from (n + 1) bs))))
    by true rest = (some, rest)
    by false rest = rest

numbers_few : (names : List (List ℕ)) (bucket : ℕ) → length (entries_in names bucket) < entry_count names
numbers_few names bucket =
    let all : List Entry = enumerate_from 1 (buckets_of names) in
    let turned = length-reverse (numbers bucket all) in
    let mapped = length-map (filter (is_in bucket) all) (λ (x : Entry). x.0) in
    let passed = length-filter (is_in bucket) all in
    let most = count_by-le-length (is_in bucket) all in
    let numbered = length-enumerate_from 1 (buckets_of names) in
    let hashed = length-map names (λ name. sysv_hash name % bucket_count (entry_count names)) in
    omega arith

-- a name has itself
bytes_same : (xs : List ℕ) → bytes_eq xs xs ≡ true
bytes_same xs = (bytes_eq-Decides xs xs).1 refl

-- an item by its number
item_at : (names : List (List ℕ)) (n : ℕ) (x : List ℕ) (xs : List (List ℕ)) → drop n names ≡ x ∷ xs → (slice_get names n ≡ Some x) × (drop (n + 1) names ≡ xs)
item_at [] zero x xs h = absurd (cc)
item_at [] (suc n) x xs h = absurd (cc)
item_at (y ∷ ys) zero x xs h =
    let first : y ≡ x = cc in
    let rest : ys ≡ xs = cc in
    (ap Some first, rest)
item_at (y ∷ ys) (suc n) x xs h =
    let later = item_at ys n x xs h in
    let next : suc n + 1 ≡ suc (n + 1) = omega arith in
    (later.0, ap (λ m. drop m (y ∷ ys)) next ∙ later.1)

-- an entry of a name that it has
entry_here : (names : List (List ℕ)) (name x : List ℕ) (n : ℕ) → slice_get names n ≡ Some x → bytes_eq x name ≡ true → is_entry_of names name (n + 1) ≡ true
entry_here names name x n item same =
    let number : n ≡ n + 1 - 1 = omega arith in
    let there : elim (slice_get names n) [ None ↦ false | Some other ↦ bytes_eq other name ] ≡ true = subst (λ (o : Option (List ℕ)). elim o [ None ↦ false | Some other ↦ bytes_eq other name ] ≡ true) (sym item) same in
    subst (λ (m : ℕ). elim (slice_get names m) [ None ↦ false | Some other ↦ bytes_eq other name ] ≡ true) number there

-- where no entry of its bucket has a name, it is none of the names
none_named :
    (names rest : List (List ℕ)) (name : List ℕ) (n count : ℕ)
    → drop n names ≡ rest
    → AllByRecursion (λ e. is_entry_of names name e ≡ false) (numbers (sysv_hash name % count) (enumerate_from (n + 1) (map (λ x. sysv_hash x % count) rest)))
    → list_any (bytes_eq name) rest ≡ false
none_named names [] name n count at none = refl
none_named names (x ∷ xs) name n count at none =
    by (bytes_eq name x) refl (λ later. none_named names xs name (n + 1) count (item_at names n x xs at).1 later)
  where
    bucket : ℕ
    bucket = sysv_hash name % count

    later : List Entry
    later = enumerate_from (n + 1 + 1) (map (λ y. sysv_hash y % count) xs)

    here : (t : Bool) → ((sysv_hash x % count) == bucket) ≡ t → AllByRecursion (λ e. is_entry_of names name e ≡ false) (map (λ (y : Entry). y.0) (cond t ((n + 1, sysv_hash x % count) ∷ filter (is_in bucket) later) (filter (is_in bucket) later))) → AllByRecursion (λ e. is_entry_of names name e ≡ false) (numbers bucket later)
    here true e a = a.1
    here false e a = a

    first : (t : Bool) → t ≡ true → AllByRecursion (λ e. is_entry_of names name e ≡ false) (map (λ (y : Entry). y.0) (cond t ((n + 1, sysv_hash x % count) ∷ filter (is_in bucket) later) (filter (is_in bucket) later))) → is_entry_of names name (n + 1) ≡ false
    first true e a = a.0
    first false e a = absurd (true≢false (sym e))

    by : (b : Bool) → bytes_eq name x ≡ b → (AllByRecursion (λ e. is_entry_of names name e ≡ false) (numbers (sysv_hash name % count) (enumerate_from (n + 1 + 1) (map (λ y. sysv_hash y % count) xs))) → list_any (bytes_eq name) xs ≡ false) → list_any (bytes_eq name) (x ∷ xs) ≡ false
    by true e rest =
        let same : name ≡ x = (bytes_eq-Decides name x).0 e in
        let test : ((sysv_hash x % count) == (sysv_hash name % count)) ≡ true = (let equal : sysv_hash x % count ≡ sysv_hash name % count = ap (λ y. sysv_hash y % count) (sym same) in grind (arith, nat_tests)) in
        let not_here = first ((sysv_hash x % count) == (sysv_hash name % count)) test none in
        let is_here : is_entry_of names name (n + 1) ≡ true = entry_here names name x n (item_at names n x xs at).0 (subst (λ (y : List ℕ). bytes_eq y name ≡ true) same (bytes_same name)) in
        absurd (true≢false (sym is_here ∙ not_here))
    by false e rest =
        let after = rest (here ((sysv_hash x % count) == (sysv_hash name % count)) refl none) in
        (λ i. e i || after i)

-- a chain of a range
chain_in : (P : ℕ → Type 0) (a n b : ℕ) → a ≤ b → b < a + n → AllByRecursion P (range_with_len a n) → P b
chain_in P a zero b low high all = absurd (omega arith)
chain_in P a (suc n) b low high all = elim (cases_eq a b) [
  | inl e ↦ subst P e all.0
  | inr far ↦ chain_in P (a + 1) n b (omega arith) (omega arith) all.1
]

-- the look-up finds each name, and no other
found_at : (names : List (List ℕ)) (name : List ℕ) (e : ℕ) → is_entry_of names name e ≡ true → slice_get names (e - 1) ≡ Some name
found_at names name e h = by (slice_get names (e - 1)) refl h
  where
    by : (o : Option (List ℕ)) → slice_get names (e - 1) ≡ o → elim o [ None ↦ false | Some other ↦ bytes_eq other name ] ≡ true → slice_get names (e - 1) ≡ Some name
    by None at h = absurd (true≢false (sym h))
    by (Some other) at h = at ∙ ap Some ((bytes_eq-Decides other name).0 h)

pub names_found : FindsEachName
names_found names words name table =
    let count : ℕ = bucket_count (entry_count names) in
    let bucket : ℕ = sysv_hash name % count in
    let entries : List ℕ = entries_in names bucket in
    let below : bucket < count = mod-lt (sysv_hash name) (omega arith) in
    let chain = chain_in (λ b. IsChain names words (bucket_word words b) (entries_in names b)) 0 count bucket (omega arith) (omega arith) table.chains in
    let above = all_reversed (λ (e : ℕ). 0 < e) (numbers bucket (enumerate_from 1 (buckets_of names))) (numbers_above bucket 1 (buckets_of names) (omega arith)) in
    let walked = walk_finds names words name entries (bucket_word words bucket) (entry_count names) chain above (numbers_few names bucket) in
    by (look_up names words name) (sym walked) above
  where
    by : (r : Option ℕ)
        → find (is_entry_of names name) (entries_in names (sysv_hash name % bucket_count (entry_count names))) ≡ r
        → AllByRecursion (λ e. 0 < e) (entries_in names (sysv_hash name % bucket_count (entry_count names)))
        → MatchOption r (list_any (bytes_eq name) names ≡ false) (λ entry. (0 < entry) × (slice_get names (entry - 1) ≡ Some name))
    by None h above =
        none_named names names name 0 (bucket_count (entry_count names)) refl
        (all_turned (λ (e : ℕ). is_entry_of names name e ≡ false) (numbers (sysv_hash name % bucket_count (entry_count names)) (enumerate_from 1 (buckets_of names))) (none_passes (is_entry_of names name) (entries_in names (sysv_hash name % bucket_count (entry_count names))) h))
    by (Some e) h above =
        let passes = found_passes (λ (e : ℕ). 0 < e) (is_entry_of names name) (entries_in names (sysv_hash name % bucket_count (entry_count names))) e above h in
        (passes.0, found_at names name e passes.1)
