-- The words that are computed are a hash table of the names, whatever names they are.
use Rattle.std.specs.Prelude.{◌≡◌, ℕ, zero, suc, ◌+◌, ◌%◌, ◌<◌, ◌==◌, Bool, true, false, if◌then◌else◌, List, [], ◌∷◌, ◌++◌, map, filter, length, reverse, take, fold, refl}
use Rattle.std.specs.List.{AllByRecursion, enumerate_from, range_with_len}
use Rattle.std.proofs.Common.{arith, subst, ◌∙◌, sym}
use Rattle.std.proofs.lemmas.Bool.Decides.{nat_tests}
use Rattle.std.proofs.lemmas.List.{append_assoc, append-nil, map-append, reverse-append, get_or_append_left, get_or-append-add, get_or_at, length-append, length-map, take_at}
use Rattle.std.proofs.lemmas.List.FromFn.{length-map-range_with_len, get_or-map-range_with_len, length-enumerate_from}
use Rattle.std.proofs.lemmas.List.Sums.{fold_push}
use Rattle.lk_model.specs.HashTable.{bucket_count, entry_count, word_count, buckets_of, entries_in, bucket_word, chain_word, IsChain, IsHashTable, last_entry, chain_after, sysv_hash, hash_words}

-- an entry with its bucket
abbrev Entry : Type 0
Entry = ℕ × ℕ

-- whether it is one of a bucket
abbrev is_in : ℕ → Entry → Bool
is_in bucket x = x.1 == bucket

-- the last entry of a bucket, one entry further
abbrev further : ℕ → ℕ → Entry → ℕ
further bucket found x = if x.1 == bucket then x.0 else found

-- each entry of a bucket is followed by the last one before it, where `found` is the last before all
abbrev Follows : List (List ℕ) → List ℕ → ℕ → ℕ → List Entry → Type 0
Follows names words bucket found [] = Unit {0}
Follows names words bucket found (x ∷ xs) = ((x.1 == bucket) ≡ true → chain_word names words x.0 ≡ found) × Follows names words bucket (further bucket found x) xs

-- the numbers of the entries of a bucket, the last one first
abbrev numbers_back : ℕ → List Entry → List ℕ
numbers_back bucket xs = reverse (map (λ (x : Entry). x.0) (filter (is_in bucket) xs))

-- a list turned round, before another
back_before : (n : ℕ) (ns seen : List ℕ) → reverse (n ∷ ns) ++ seen ≡ reverse ns ++ n ∷ seen
back_before n ns seen = rw (reverse-append (n ∷ []) ns) (append_assoc (reverse ns) (n ∷ []) seen)

-- then the chain from the last entry lists them all by falling number
walk :
    (names : List (List ℕ)) (words : List ℕ) (bucket : ℕ) (xs : List Entry) (found : ℕ) (seen : List ℕ)
    → IsChain names words found seen
    → Follows names words bucket found xs
    → IsChain names words (fold (further bucket) found xs) (numbers_back bucket xs ++ seen)
walk names words bucket [] found seen chain follows = chain
walk names words bucket (x ∷ xs) found seen chain follows = go (x.1 == bucket) refl (walk names words bucket xs)
  where
    go :
        (b : Bool)
        → (x.1 == bucket) ≡ b
        → ((now : ℕ) (before : List ℕ) → IsChain names words now before → Follows names words bucket now xs → IsChain names words (fold (further bucket) now xs) (numbers_back bucket xs ++ before))
        → IsChain names words (fold (further bucket) found (x ∷ xs)) (numbers_back bucket (x ∷ xs) ++ seen)
    go true e rest =
        let now : further bucket found x ≡ x.0 = rw e refl in
        let list : numbers_back bucket (x ∷ xs) ++ seen ≡ numbers_back bucket xs ++ x.0 ∷ seen = rw e (back_before x.0 (map (λ (y : Entry). y.0) (filter (is_in bucket) xs)) seen) in
        let longer : IsChain names words x.0 (x.0 ∷ seen) = (refl, subst (λ w. IsChain names words w seen) (sym (follows.0 e)) chain) in
        let ahead : Follows names words bucket x.0 xs = subst (λ w. Follows names words bucket w xs) now follows.1 in
        subst
        (λ w. IsChain names words (fold (further bucket) w xs) (numbers_back bucket (x ∷ xs) ++ seen))
        (sym now)
        (subst (λ l. IsChain names words (fold (further bucket) x.0 xs) l) (sym list) (rest x.0 (x.0 ∷ seen) longer ahead))
    go false e rest =
        let now : further bucket found x ≡ found = rw e refl in
        let list : numbers_back bucket (x ∷ xs) ++ seen ≡ numbers_back bucket xs ++ seen = rw e refl in
        let ahead : Follows names words bucket found xs = subst (λ w. Follows names words bucket w xs) now follows.1 in
        subst
        (λ w. IsChain names words (fold (further bucket) w xs) (numbers_back bucket (x ∷ xs) ++ seen))
        (sym now)
        (subst (λ l. IsChain names words (fold (further bucket) found xs) l) (sym list) (rest found seen chain ahead))

-- entries numbered in two parts
split_entries :
    (n m : ℕ) (done : List ℕ) (x : ℕ) (rest : List ℕ)
    → m ≡ n + length done
    → enumerate_from n (done ++ x ∷ rest) ≡ enumerate_from n done ++ (m, x) ∷ enumerate_from (m + 1) rest
split_entries n m [] x rest e =
    let same : m ≡ n = omega arith in
    rw same refl
split_entries n m (d ∷ done) x rest e = rw (split_entries (n + 1) m done x rest (omega arith)) refl

-- the last entry of a bucket among one entry more
last_more : (bucket : ℕ) (done : List ℕ) (x m : ℕ) → m ≡ 1 + length done → last_entry bucket (done ++ x ∷ []) ≡ further bucket (last_entry bucket done) (m, x)
last_more bucket done x m e = rw (split_entries 1 m done x [] e) (fold_push (further bucket) 0 (enumerate_from 1 done) (m, x))

-- the two counts and the words of the buckets, which are before the chains
abbrev front_words : List (List ℕ) → List ℕ
front_words names =
    bucket_count (entry_count names) ∷ entry_count names
    ∷ map (λ bucket. last_entry bucket (buckets_of names)) (range_with_len 0 (bucket_count (entry_count names)))

front_length : (names : List (List ℕ)) → length (front_words names) ≡ 2 + bucket_count (entry_count names)
front_length names = rw (length-map-range_with_len (λ bucket. last_entry bucket (buckets_of names)) 0 (bucket_count (entry_count names))) (omega arith)

-- the words of the entries in the chains, without that of the null symbol
abbrev chain_words : List (List ℕ) → List Entry → List ℕ
chain_words names xs = map (chain_after (buckets_of names)) xs

chain_length : (names : List (List ℕ)) (done : List ℕ) → length (chain_words names (enumerate_from 0 done)) ≡ length done
chain_length names done = length-map (enumerate_from 0 done) (chain_after (buckets_of names)) ∙ length-enumerate_from 0 done

-- the word of an entry is the last entry of its bucket among those before it
chain_at :
    (names : List (List ℕ)) (done : List ℕ) (x : ℕ) (rest : List ℕ)
    → done ++ x ∷ rest ≡ buckets_of names
    → chain_word names (hash_words names) (1 + length done) ≡ last_entry x done
unfolding hash_words
chain_at names done x rest e =
    let number : ℕ = length done in
    let before : List ℕ = front_words names ++ 0 ∷ chain_words names (enumerate_from 0 done) in
    let after : List ℕ = chain_words names (enumerate_from (number + 1) rest) in
    let word : ℕ = chain_after (buckets_of names) (number, x) in
    let entries : enumerate_from 0 (buckets_of names) ≡ enumerate_from 0 done ++ (number, x) ∷ enumerate_from (number + 1) rest =
    subst (λ b. enumerate_from 0 b ≡ enumerate_from 0 done ++ (number, x) ∷ enumerate_from (number + 1) rest) e (split_entries 0 number done x rest (omega arith)) in
    let mapped : chain_words names (enumerate_from 0 (buckets_of names)) ≡ chain_words names (enumerate_from 0 done) ++ word ∷ after =
    subst
    (λ (xs : List Entry). chain_words names xs ≡ chain_words names (enumerate_from 0 done) ++ word ∷ after)
    (sym entries)
    (map-append (chain_after (buckets_of names)) (enumerate_from 0 done) ((number, x) ∷ enumerate_from (number + 1) rest)) in
    let whole : hash_words names ≡ before ++ word ∷ after =
    subst
    (λ (l : List ℕ). front_words names ++ 0 ∷ l ≡ before ++ word ∷ after)
    (sym mapped)
    (sym (append_assoc (front_words names) (0 ∷ chain_words names (enumerate_from 0 done)) (word ∷ after))) in
    let place : length before ≡ 2 + bucket_count (entry_count names) + (1 + number) =
    rw (length-append (front_words names) (0 ∷ chain_words names (enumerate_from 0 done)))
    (rw (front_length names) (rw (chain_length names done) (omega arith))) in
    let front : take number (buckets_of names) ≡ done = subst (λ b. take number b ≡ done) e (take_at done (x ∷ rest) number refl) in
    let value : word ≡ last_entry x done = rw front refl in
    subst
    (λ (w : List ℕ). chain_word names w (1 + number) ≡ last_entry x done)
    (sym whole)
    (get_or_at before word after 0 (2 + bucket_count (entry_count names) + (1 + number)) place ∙ value)

-- so each entry follows the last one of its bucket before it
followed :
    (names : List (List ℕ)) (bucket : ℕ) (done rest : List ℕ) (m : ℕ)
    → m ≡ 1 + length done
    → done ++ rest ≡ buckets_of names
    → Follows names (hash_words names) bucket (last_entry bucket done) (enumerate_from m rest)
followed names bucket done [] m at e = tt
followed names bucket done (x ∷ rest) m at e =
    let here : chain_word names (hash_words names) m ≡ last_entry x done = rw at (chain_at names done x rest e) in
    let longer : m + 1 ≡ 1 + length (done ++ x ∷ []) = rw (length-append done (x ∷ [])) (omega arith) in
    let after : Follows names (hash_words names) bucket (last_entry bucket (done ++ x ∷ [])) (enumerate_from (m + 1) rest) =
    followed names bucket (done ++ x ∷ []) rest (m + 1) longer (rw (append_assoc done (x ∷ []) rest) e) in (
      λ same. (let one : x ≡ bucket = grind (arith, nat_tests) in subst (λ b. chain_word names (hash_words names) m ≡ last_entry b done) one here),
      subst (λ w. Follows names (hash_words names) bucket w (enumerate_from (m + 1) rest)) (last_more bucket done x m at) after,
    )

-- what holds of each number of a range
all_in_range : (P : ℕ → Type 0) (a n : ℕ) → ((k : ℕ) → k < a + n → P k) → AllByRecursion P (range_with_len a n)
all_in_range P a zero holds = tt
all_in_range P a (suc n) holds = (holds a (omega arith), all_in_range P (a + 1) n (λ k below. holds k (omega arith)))

-- the word of a bucket is its last entry
bucket_at : (names : List (List ℕ)) (bucket : ℕ) → bucket < bucket_count (entry_count names) → bucket_word (hash_words names) bucket ≡ last_entry bucket (buckets_of names)
unfolding hash_words
bucket_at names bucket below =
    let buckets : List ℕ = map (λ b. last_entry b (buckets_of names)) (range_with_len 0 (bucket_count (entry_count names))) in
    let chains : List ℕ = 0 ∷ chain_words names (enumerate_from 0 (buckets_of names)) in
    let within : bucket < length buckets = rw (length-map-range_with_len (λ b. last_entry b (buckets_of names)) 0 (bucket_count (entry_count names))) below in
    get_or-append-add (bucket_count (entry_count names) ∷ entry_count names ∷ []) (buckets ++ chains) bucket 0
    ∙ get_or_append_left buckets chains 0 bucket within
    ∙ get_or-map-range_with_len (λ b. last_entry b (buckets_of names)) 0 (bucket_count (entry_count names)) bucket bucket 0 below (omega arith)

-- there are as many words as the counts say
word_length : (names : List (List ℕ)) → length (hash_words names) ≡ word_count (entry_count names)
unfolding hash_words
word_length names =
    rw (length-append (front_words names) (0 ∷ chain_words names (enumerate_from 0 (buckets_of names))))
    (rw (front_length names) (rw (chain_length names (buckets_of names)) (rw (length-map names (λ name. sysv_hash name % bucket_count (entry_count names))) (omega arith))))

-- the chain from a bucket lists its entries
chain_from :
    (names : List (List ℕ)) (bucket : ℕ)
    → bucket < bucket_count (entry_count names)
    → IsChain names (hash_words names) (bucket_word (hash_words names) bucket) (entries_in names bucket)
chain_from names bucket below =
    subst
    (λ w. IsChain names (hash_words names) w (entries_in names bucket))
    (sym (bucket_at names bucket below))
    (subst
    (λ (l : List ℕ). IsChain names (hash_words names) (last_entry bucket (buckets_of names)) l)
    (append-nil (entries_in names bucket))
    (walk names (hash_words names) bucket (enumerate_from 1 (buckets_of names)) 0 [] refl (followed names bucket [] (buckets_of names) 1 refl refl)))

-- the words are a hash table
pub hash_words_are_a_table : (names : List (List ℕ)) → IsHashTable names (hash_words names)
unfolding hash_words
hash_words_are_a_table names =
    record {
      counts = refl;
      size = word_length names;
      chains =
          all_in_range
          (λ bucket. IsChain names (hash_words names) (bucket_word (hash_words names) bucket) (entries_in names bucket))
          0
          (bucket_count (entry_count names))
          (λ bucket below. chain_from names bucket (omega arith));
      null_ends =
          get_or_at
          (front_words names)
          0
          (chain_words names (enumerate_from 0 (buckets_of names)))
          0
          (2 + bucket_count (entry_count names) + 0)
          (rw (front_length names) (omega arith));
    }
