-- The hash table of the dynamic symbols (gABI "Hash Table"). How many buckets it has is this project's
-- own.
use Rattle.std.specs.Prelude.{◌≡◌, ℕ, ◌+◌, ◌*◌, ◌/◌, ◌%◌, ◌^◌, ◌==◌, max, bit_xor, if◌then◌else◌, List, [], ◌∷◌, ◌++◌, length, map, flat_map, filter, fold, take, reverse, slice_index}
use Rattle.std.specs.List.{AllByRecursion, enumerate_from, range_with_len}
use Rattle.lk_elf.specs.Fields.{bytes_of}

-- the hash after one more character: four bits are made free for it in 32 bits; then the top four bits
-- go into bits 4 to 7 by exclusive or, and are cleared
abbrev pub hash_step : ℕ → ℕ → ℕ
hash_step h c = let shifted = (16 * h + c) % 2 ^ 32 in bit_xor (shifted % 2 ^ 28) (16 * (shifted / 2 ^ 28))

-- the hash of a name
unfoldable pub sysv_hash : List ℕ → ℕ
sysv_hash name = fold hash_step 0 name

-- how many buckets a table of so many entries has
abbrev pub bucket_count : ℕ → ℕ
bucket_count entries = max 1 (entries / 4)

-- how many entries a symbol table with these names has: one each, and the null symbol
abbrev pub entry_count : List (List ℕ) → ℕ
entry_count names = length names + 1

-- how many words its hash table has
abbrev pub word_count : ℕ → ℕ
word_count entries = 2 + bucket_count entries + entries

-- the buckets of the names, of which the first is the name of entry 1
abbrev pub buckets_of : List (List ℕ) → List ℕ
buckets_of names = map (λ name. sysv_hash name % bucket_count (entry_count names)) names

-- the entries of a bucket by falling number
abbrev pub entries_in : List (List ℕ) → ℕ → List ℕ
entries_in names bucket = reverse (map (λ (x : ℕ × ℕ). x.0) (filter (λ (x : ℕ × ℕ). x.1 == bucket) (enumerate_from 1 (buckets_of names))))

-- the word of a bucket, and the word of an entry in the chains
abbrev pub bucket_word : List ℕ → ℕ → ℕ
bucket_word words bucket = slice_index words (2 + bucket)

abbrev pub chain_word : List (List ℕ) → List ℕ → ℕ → ℕ
chain_word names words entry = slice_index words (2 + bucket_count (entry_count names) + entry)

-- from this word on the chain lists these entries, each of whose words has the next, and ends with 0
abbrev pub IsChain : List (List ℕ) → List ℕ → ℕ → List ℕ → Type 0
IsChain names words head [] = head ≡ 0
IsChain names words head (entry ∷ entries) = (head ≡ entry) × IsChain names words (chain_word names words entry) entries

-- the words are a hash table of these names: the two counts, then the buckets and the chains; the chain
-- from a bucket lists exactly the entries of its names by falling number, and entry 0 is in none
pub record IsHashTable (names : List (List ℕ)) (words : List ℕ) : Type 0 where
  pub counts : take 2 words ≡ bucket_count (entry_count names) ∷ entry_count names ∷ []
  pub size : length words ≡ word_count (entry_count names)
  pub chains : AllByRecursion (λ bucket. IsChain names words (bucket_word words bucket) (entries_in names bucket)) (range_with_len 0 (bucket_count (entry_count names)))
  pub null_ends : chain_word names words 0 ≡ 0

-- the greatest number of an entry of a bucket, or 0: the first of the buckets is that of entry 1
abbrev pub last_entry : ℕ → List ℕ → ℕ
last_entry bucket buckets = fold (λ found (x : ℕ × ℕ). if x.1 == bucket then x.0 else found) 0 (enumerate_from 1 buckets)

-- the word of entry k + 1: the greatest smaller entry of its bucket
abbrev pub chain_after : List ℕ → ℕ × ℕ → ℕ
chain_after buckets (k, bucket) = last_entry bucket (take k buckets)

-- the words of the hash table of these names
unfoldable pub hash_words : List (List ℕ) → List ℕ
hash_words names =
    let entries = entry_count names in
    let buckets = buckets_of names in
    bucket_count entries ∷ entries
    ∷ map (λ bucket. last_entry bucket buckets) (range_with_len 0 (bucket_count entries))
    ++ 0
    ∷ map (chain_after buckets) (enumerate_from 0 buckets)

-- their bytes
unfoldable pub hash_bytes : List (List ℕ) → List ℕ
hash_bytes names = flat_map (bytes_of 4) (hash_words names)
