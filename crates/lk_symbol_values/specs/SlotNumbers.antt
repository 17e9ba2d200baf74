-- This project's own: the tables of the numbers of GOT slots and of PLT entries.
use Rattle.std.specs.Prelude.{◌≡◌, ℕ, ◌+◌, ◌==◌, ◌&&◌, nat_eq, Bool, false, cond, List, [], ◌∷◌, Option, Some, None}
use Rattle.std.specs.Map.{lookup}
use Rattle.lk_model.specs.declared.layouts.GotKey.{GotKey}
use Rattle.lk_model.specs.declared.layouts.GotOwner.{GotOwner}
use Rattle.lk_model.specs.declared.layouts.GotOwner.TheVariants as owner
use Rattle.lk_model.specs.Keys.{same_truth}
use Rattle.lk_symbol_values.specs.declared.slot_numbers.OwnerKey.{OwnerKey}
use Rattle.lk_symbol_values.specs.declared.slot_numbers.OwnerKey.TheVariants as key

-- the key of an owner
abbrev pub key_of : GotOwner → OwnerKey
key_of (owner.Global n) = key.Name n
key_of (owner.Local i k) = key.Local i k

-- two keys are the same
abbrev pub same_key : OwnerKey → OwnerKey → Bool
same_key (key.Name n) (key.Name m) = n == m
same_key (key.Local i k) (key.Local j l) = (i == j) && (k == l)
same_key _ _ = false

-- whether a slot is one of an owner that holds a thread offset, or that holds none; a free slot is that of none
abbrev pub is_slot_with : Bool → OwnerKey → Option GotKey → Bool
is_slot_with thread k None = false
is_slot_with thread k (Some other) = same_truth other.thread thread && same_key (key_of other.owner) k

-- the number that the entries have for a slot, and for the PLT entry of a name
abbrev pub number_of : List (OwnerKey × ℕ) → OwnerKey → Option ℕ
number_of entries k = lookup (same_key k) entries

abbrev pub entry_of : List (ℕ × ℕ) → ℕ → Option ℕ
entry_of entries n = lookup (nat_eq n) entries

-- the number of the first item that passes a test, where the first has this number
abbrev pub place_from : {X : Type 0} → (X → Bool) → ℕ → List X → Option ℕ
place_from test n [] = None
place_from test n (x ∷ xs) = cond (test x) (Some n) (place_from test (n + 1) xs)

-- the entries give of each owner the number of its first slot of the kind
abbrev pub FindsSlots : Bool → List (OwnerKey × ℕ) → List (Option GotKey) → Type 0
FindsSlots thread entries slots = (k : OwnerKey) → number_of entries k ≡ place_from (is_slot_with thread k) 0 slots

-- the entries give of each name the number of its first PLT entry
abbrev pub FindsEntries : List (ℕ × ℕ) → List ℕ → Type 0
FindsEntries entries names = (n : ℕ) → entry_of entries n ≡ place_from (λ m. m == n) 0 names
