-- Entries that go to the heads of their buckets in turn make the chains of lk_model's hash table.
use Rattle.std.proofs.Common.{◌≡◌, ℕ, zero, suc, ◌+◌, ◌%◌, ◌<◌, ◌≤◌, ◌==◌, true, false, if◌then◌else◌, List, [], ◌∷◌, ◌++◌, map, length, take, refl, ap, sym, ◌∙◌, ◌≢◌, arith, mod-lt}
use Rattle.lk_elf.specs.Fields.{bytes_of}
use Rattle.std.specs.Prelude.{slice_set, get_or, replicate, flat_map}
use Rattle.std.specs.List.{enumerate_from, range_with_len}
use Rattle.std.proofs.lemmas.Bool.Decides.{nat_tests}
use Rattle.std.proofs.lemmas.List.{append_assoc, length-map, length-take, map-append, take_at, take-append-le, take_more}
use Rattle.std.proofs.lemmas.List.Concat.{flat_map-append}
use Rattle.std.proofs.lemmas.List.FromFn.{get_or-map-range_with_len, length-map-range_with_len}
use Rattle.std.proofs.lemmas.List.Sums.{fold_push}
use Rattle.lk_model.specs.HashTable.{bucket_count, buckets_of, chain_after, hash_words, last_entry, sysv_hash}
use Rattle.lk_dyn.specs.HashWords.{buckets_by, heads_of, nexts_of, words_by, words_with}

-- entries numbered with one more
entries_more : (n : ℕ) (done : List ℕ) (x : ℕ) → enumerate_from n (done ++ x ∷ []) ≡ enumerate_from n done ++ (n + length done, x) ∷ []
entries_more n [] x =
    let same : n + 0 ≡ n = omega arith in
    rw same refl
entries_more n (d ∷ done) x =
    let same : n + 1 + length done ≡ n + suc (length done) = omega arith in
    rw (entries_more (n + 1) done x, same) refl

-- the last entry of a bucket with one more entry
last_more : (bucket : ℕ) (done : List ℕ) (x : ℕ) → last_entry bucket (done ++ x ∷ []) ≡ (if x == bucket then 1 + length done else last_entry bucket done)
last_more bucket done x =
    rw (entries_more 1 done x) (fold_push (λ (found : ℕ) (e : ℕ × ℕ). if e.1 == bucket then e.0 else found) 0 (enumerate_from 1 done) (1 + length done, x))

-- what a function gives on a range
same_in_range : (f g : ℕ → ℕ) (a n : ℕ) → ((i : ℕ) → a ≤ i → f i ≡ g i) → map f (range_with_len a n) ≡ map g (range_with_len a n)
same_in_range f g a zero same = refl
same_in_range f g a (suc n) same =
    let here = same a (omega arith) in
    let rest = same_in_range f g (a + 1) n (λ i h. same i (omega arith)) in
    λ i. here i ∷ rest i

set_in_range :
    (f g : ℕ → ℕ) (a n x v : ℕ)
    → x < n
    → v ≡ g (a + x)
    → ((i : ℕ) → i ≢ a + x → f i ≡ g i)
    → slice_set (map f (range_with_len a n)) x v ≡ map g (range_with_len a n)
set_in_range f g a zero x v below here other = absurd (omega arith)
set_in_range f g a (suc n) zero v below here other =
    let first : v ≡ g a = here ∙ ap g (omega arith) in
    let rest = same_in_range f g (a + 1) n (λ i h. other i (λ e. absurd (omega arith))) in
    λ i. first i ∷ rest i
set_in_range f g a (suc n) (suc x) v below here other =
    let first = other a (λ e. absurd (omega arith)) in
    let place : a + suc x ≡ a + 1 + x = omega arith in
    let rest = set_in_range f g (a + 1) n x v (omega arith) (here ∙ ap g place) (λ i h. other i (λ e. h (e ∙ place))) in
    λ i. first i ∷ rest i

-- no entry
pub heads_none : (count a : ℕ) → replicate count 0 ≡ map (λ bucket. last_entry bucket []) (range_with_len a count)
heads_none zero a = refl
heads_none (suc count) a = ap (λ l. 0 ∷ l) (heads_none count (a + 1))

-- one more entry at the head of its bucket
pub heads_more : (count : ℕ) (done : List ℕ) (x v : ℕ) → x < count → v ≡ length done + 1 → slice_set (heads_of count done) x v ≡ heads_of count (done ++ x ∷ [])
heads_more count done x v below is =
    set_in_range
    (λ bucket. last_entry bucket done)
    (λ bucket. last_entry bucket (done ++ x ∷ []))
    0
    count
    x
    v
    below
    (let same : (x == (0 + x)) ≡ true = grind (arith, nat_tests) in let now = last_more (0 + x) done x in let turned = rw same at now in omega arith)
    (λ i far. let other : (x == i) ≡ false = grind (arith, nat_tests) in let now = last_more i done x in let turned = rw other at now in sym turned)

-- the head of a bucket
pub head_at : (count : ℕ) (done : List ℕ) (x d : ℕ) → x < count → get_or (heads_of count done) x d ≡ last_entry x done
head_at count done x d below = get_or-map-range_with_len (λ bucket. last_entry bucket done) 0 count x x d below (omega arith)

pub heads_length : (count : ℕ) (done : List ℕ) → length (heads_of count done) ≡ count
heads_length count done = length-map-range_with_len (λ bucket. last_entry bucket done) 0 count

-- the chains of entries before more
same_chain : (done more xs : List ℕ) (n : ℕ) → n + length xs ≤ length done → map (chain_after (done ++ more)) (enumerate_from n xs) ≡ map (chain_after done) (enumerate_from n xs)
same_chain done more [] n within = refl
same_chain done more (x ∷ xs) n within =
    let front : take n (done ++ more) ≡ take n done = take-append-le n done more (omega arith) in
    let rest = same_chain done more xs (n + 1) (omega arith) in
    λ i. last_entry x (front i) ∷ rest i

-- with one more entry
pub nexts_more : (done : List ℕ) (x : ℕ) → nexts_of (done ++ x ∷ []) ≡ nexts_of done ++ last_entry x done ∷ []
nexts_more done x =
    let front : take (length done) (done ++ x ∷ []) ≡ done = take_at done (x ∷ []) (length done) refl in
    let split = entries_more 0 done x in
    let zero_first : 0 + length done ≡ length done = omega arith in
    ap (λ es. map (chain_after (done ++ x ∷ [])) es) split
    ∙ map-append (chain_after (done ++ x ∷ [])) (enumerate_from 0 done) ((0 + length done, x) ∷ [])
    ∙ (λ i. same_chain done (x ∷ []) done 0 (omega arith) i ++ last_entry x (take (zero_first i) (done ++ x ∷ [])) ∷ [])
    ∙ ap (λ l. nexts_of done ++ last_entry x l ∷ []) front

-- the buckets of one more hash
pub buckets_more : (count : ℕ) (hashes : List ℕ) (hash : ℕ) → buckets_by count (hashes ++ hash ∷ []) ≡ buckets_by count hashes ++ (hash % count) ∷ []
buckets_more count hashes hash = map-append (λ h. h % count) hashes (hash ∷ [])

-- one more hash of the list
taken_more : (count : ℕ) (hashes : List ℕ) (n : ℕ) → n < length hashes → buckets_by count (take (n + 1) hashes) ≡ buckets_by count (take n hashes) ++ (get_or hashes n 0 % count) ∷ []
taken_more count hashes n below = ap (buckets_by count) (take_more hashes n 0 below) ∙ buckets_more count (take n hashes) (get_or hashes n 0)

taken_length : (count : ℕ) (hashes : List ℕ) (n : ℕ) → n < length hashes → length (buckets_by count (take n hashes)) ≡ n
taken_length count hashes n below = length-map (take n hashes) (λ h. h % count) ∙ omega (arith, length-take n hashes)

pub heads_step :
    (count : ℕ) (hashes : List ℕ) (n : ℕ)
    → 0 < count
    → n < length hashes
    → slice_set (heads_of count (buckets_by count (take n hashes))) (get_or hashes n 0 % count) (n + 1) ≡ heads_of count (buckets_by count (take (n + 1) hashes))
heads_step count hashes n some below =
    let size = taken_length count hashes n below in
    heads_more count (buckets_by count (take n hashes)) (get_or hashes n 0 % count) (n + 1) (mod-lt (get_or hashes n 0) some) (omega arith)
    ∙ ap (heads_of count) (sym (taken_more count hashes n below))

pub nexts_step :
    (count : ℕ) (hashes : List ℕ) (n d : ℕ)
    → 0 < count
    → n < length hashes
    → nexts_of (buckets_by count (take n hashes)) ++ get_or (heads_of count (buckets_by count (take n hashes))) (get_or hashes n 0 % count) d ∷ []
    ≡ nexts_of (buckets_by count (take (n + 1) hashes))
nexts_step count hashes n d some below =
    let done : List ℕ = buckets_by count (take n hashes) in
    let x : ℕ = get_or hashes n 0 % count in
    ap (λ m. nexts_of done ++ m ∷ []) (head_at count done x d (mod-lt (get_or hashes n 0) some))
    ∙ sym (nexts_more done x)
    ∙ ap nexts_of (sym (taken_more count hashes n below))

-- the words put one after another
pub words_put :
    (count entries : ℕ) (heads nexts b0 b1 b2 b3 b4 b5 : List ℕ)
    → b0 ≡ []
    → b1 ≡ b0 ++ bytes_of 4 count
    → b2 ≡ b1 ++ bytes_of 4 entries
    → b3 ≡ b2 ++ flat_map (bytes_of 4) heads
    → b4 ≡ b3 ++ bytes_of 4 0
    → b5 ≡ b4 ++ flat_map (bytes_of 4) nexts
    → b5 ≡ flat_map (bytes_of 4) (count ∷ entries ∷ heads ++ 0 ∷ nexts)
words_put count entries heads nexts b0 b1 b2 b3 b4 b5 e0 e1 e2 e3 e4 e5 =
    rw (e5, e4, e3, e2, e1, e0) (rw (flat_map-append (bytes_of 4) heads (0 ∷ nexts)) (simp append_assoc))

-- the words of the names' hashes are those of the names
buckets_fused : (count : ℕ) (names : List (List ℕ)) → map (λ name. sysv_hash name % count) names ≡ buckets_by count (map sysv_hash names)
buckets_fused count [] = refl
buckets_fused count (name ∷ names) = ap (λ l. sysv_hash name % count ∷ l) (buckets_fused count names)

pub words_are : (names : List (List ℕ)) → words_by (map sysv_hash names) ≡ hash_words names
unfolding hash_words
words_are names =
    let hashes : List ℕ = map sysv_hash names in
    let count : length hashes ≡ length names = length-map names sysv_hash in
    let buckets : buckets_by (bucket_count (length hashes + 1)) hashes ≡ buckets_of names =
    ap (λ n. buckets_by (bucket_count (n + 1)) hashes) count ∙ sym (buckets_fused (bucket_count (length names + 1)) names) in
    λ i. words_with (count i + 1) (buckets i)
