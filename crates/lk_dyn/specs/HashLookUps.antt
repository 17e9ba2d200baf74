-- How a name is looked up in a hash table (gABI "Hash Table"): its hash chooses a bucket, and the chain from
-- there is walked until an entry's symbol has the name or the null symbol ends it.
use Rattle.std.specs.Prelude.{◌≡◌, ℕ, zero, suc, ◌-◌, ◌%◌, ◌<◌, ◌==◌, bytes_eq, Bool, false, cond, List, Option, None, Some, slice_get, MatchOption}
use Rattle.std.specs.List.{list_any}
use Rattle.lk_model.specs.HashTable.{bucket_count, bucket_word, chain_word, entry_count, hash_words, sysv_hash, IsHashTable}

-- whether the symbol of an entry has this name; entry 1 is that of the first name
abbrev pub is_entry_of : List (List ℕ) → List ℕ → ℕ → Bool
is_entry_of names name entry = elim (slice_get names (entry - 1)) [ None ↦ false | Some other ↦ bytes_eq other name ]

-- the first entry with the name in the chain from an entry on, of so many entries at most
abbrev pub walk : List (List ℕ) → List ℕ → List ℕ → ℕ → ℕ → Option ℕ
walk names words name zero entry = None
walk names words name (suc steps) entry =
    cond (entry == 0) None (cond (is_entry_of names name entry) (Some entry) (walk names words name steps (chain_word names words entry)))

-- the entry that a name is found at
abbrev pub look_up : List (List ℕ) → List ℕ → List ℕ → Option ℕ
look_up names words name = walk names words name (entry_count names) (bucket_word words (sysv_hash name % bucket_count (entry_count names)))

-- in a hash table of names each name is found at an entry of its own name, and no other name is found
abbrev pub FindsEachName : Type 0
FindsEachName =
    (names : List (List ℕ)) (words name : List ℕ)
    → IsHashTable names words
    → MatchOption (look_up names words name) (list_any (bytes_eq name) names ≡ false) (λ entry. (0 < entry) × (slice_get names (entry - 1) ≡ Some name))

-- the words of `.hash` are a hash table of the dynamic names
abbrev pub WordsAreATable : Type 0
WordsAreATable = (names : List (List ℕ)) → IsHashTable names (hash_words names)
