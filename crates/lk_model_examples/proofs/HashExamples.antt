-- Hashes and a hash table of dynamic symbols, against numbers computed by other means (gABI "Hash
-- Table").
use Rattle.std.specs.Prelude.{◌≡◌, ℕ, List, [], ◌∷◌, codes, replicate, refl}
use Rattle.lk_elf.specs.Fields.{bytes_of}
use Rattle.lk_model.specs.HashTable.{sysv_hash, hash_words, hash_bytes, bucket_count, IsHashTable}

-- the hash of `exit`, of the empty name, and of names that reach the top four bits
hashes :
    (sysv_hash (codes "exit") ≡ 0x0006cf04)
    × (sysv_hash [] ≡ 0)
    × (sysv_hash (codes "printf") ≡ 0x077905a6)
    × (sysv_hash (codes "abcdefgh") ≡ 0x089abaa8)
    × (sysv_hash (codes "__libc_start_main") ≡ 0x0177ff8e)
unfolding sysv_hash
hashes = (refl, refl, refl, refl, refl)

-- a carry past 32 bits is lost
hash_of_high_bytes : sysv_hash (replicate 8 0xff) ≡ 0x10ef
unfolding sysv_hash
hash_of_high_bytes = refl

-- there is one bucket for each four entries, and at least one
buckets : (bucket_count 1 ≡ 1) × (bucket_count 7 ≡ 1) × (bucket_count 8 ≡ 2) × (bucket_count 11 ≡ 2)
buckets = (refl, refl, refl, refl)

-- the table of null, `exit` and `puts`: its one bucket begins with entry 2, which entry 1 follows
abbrev two_names : List (List ℕ)
two_names = codes "exit" ∷ codes "puts" ∷ []

two_words : hash_words two_names ≡ 1 ∷ 3 ∷ 2 ∷ 0 ∷ 0 ∷ 1 ∷ []
unfolding hash_words sysv_hash
two_words = refl

two_are_a_table : IsHashTable two_names (1 ∷ 3 ∷ 2 ∷ 0 ∷ 0 ∷ 1 ∷ [])
unfolding sysv_hash
two_are_a_table = record { counts = refl; size = refl; chains = ((refl, (refl, refl)), tt); null_ends = refl }

two_bytes : hash_bytes (codes "exit" ∷ []) ≡ 1 ∷ 0 ∷ 0 ∷ 0 ∷ 2 ∷ 0 ∷ 0 ∷ 0 ∷ 1 ∷ 0 ∷ 0 ∷ 0 ∷ 0 ∷ 0 ∷ 0 ∷ 0 ∷ 0 ∷ 0 ∷ 0 ∷ 0 ∷ []
unfolding hash_bytes hash_words sysv_hash bytes_of
two_bytes = refl

-- no name: one empty bucket and the null symbol
no_words : hash_words [] ≡ 1 ∷ 1 ∷ 0 ∷ 0 ∷ []
unfolding hash_words
no_words = refl

-- ten names in two buckets
abbrev ten_names : List (List ℕ)
ten_names =
    codes "_start" ∷ codes "tvar" ∷ codes "prot" ∷ codes "abs" ∷ codes "com" ∷ codes "ext" ∷ codes "tls_ext" ∷ codes "var" ∷ codes "func"
    ∷ codes "_fini"
    ∷ []

ten_words : hash_words ten_names ≡ 2 ∷ 11 ∷ 8 ∷ 10 ∷ 0 ∷ 0 ∷ 1 ∷ 2 ∷ 0 ∷ 4 ∷ 3 ∷ 6 ∷ 7 ∷ 5 ∷ 9 ∷ []
unfolding hash_words sysv_hash
ten_words = refl

ten_are_a_table : IsHashTable ten_names (2 ∷ 11 ∷ 8 ∷ 10 ∷ 0 ∷ 0 ∷ 1 ∷ 2 ∷ 0 ∷ 4 ∷ 3 ∷ 6 ∷ 7 ∷ 5 ∷ 9 ∷ [])
unfolding sysv_hash
ten_are_a_table =
    record {
      counts = refl;
      size = refl;
      chains = ((refl, (refl, (refl, (refl, (refl, (refl, refl)))))), ((refl, (refl, (refl, (refl, refl)))), tt));
      null_ends = refl;
    }
