-- The words of the hash table of the dynamic symbols by the hashes of their names (gABI "Hash Table").
use Rattle.std.specs.Prelude.{ℕ, ◌+◌, ◌*◌, ◌%◌, ◌^◌, List, ◌∷◌, ◌++◌, length, map}
use Rattle.std.specs.List.{enumerate_from, range_with_len}
use Rattle.lk_model.specs.HashTable.{bucket_count, chain_after, last_entry}

-- a hash with four bits made free at its bottom for a character, in 32 bits
abbrev pub shifted_by : ℕ → ℕ → ℕ
shifted_by hash c = (16 * hash + c) % 2 ^ 32

-- the buckets of names with these hashes, where there are so many
abbrev pub buckets_by : ℕ → List ℕ → List ℕ
buckets_by count hashes = map (λ hash. hash % count) hashes

-- the words of so many buckets: the last entry of each
abbrev pub heads_of : ℕ → List ℕ → List ℕ
heads_of count buckets = map (λ bucket. last_entry bucket buckets) (range_with_len 0 count)

-- the words of the entries in the chains, but for the null symbol's: the entry of its bucket before each
abbrev pub nexts_of : List ℕ → List ℕ
nexts_of buckets = map (chain_after buckets) (enumerate_from 0 buckets)

-- the words of the table of so many entries with these buckets
abbrev pub words_with : ℕ → List ℕ → List ℕ
words_with entries buckets = bucket_count entries ∷ entries ∷ heads_of (bucket_count entries) buckets ++ 0 ∷ nexts_of buckets

-- the words of the table of names with these hashes
abbrev pub words_by : List ℕ → List ℕ
words_by hashes = words_with (length hashes + 1) (buckets_by (bucket_count (length hashes + 1)) hashes)
