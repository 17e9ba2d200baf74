-- This project's own: what a queue of the free GOT slots is.
use Rattle.std.specs.Prelude.{◌≡◌, ℕ, zero, suc, ◌+◌, ◌≤◌, cond, nat_eq, List, [], ◌∷◌, length, Option, is_none}
use Rattle.std.specs.BinaryHeap.{IsHeap}
use Rattle.std.specs.List.{count_by}
use Rattle.std.specs.Ordering.{nat_cmp}
use Rattle.std.specs.declared.cmp.Ordering.{Ordering}
use Rattle.std.specs.declared.cmp.Reverse.{Reverse}
use Rattle.lk_model.specs.declared.layouts.GotKey.{GotKey}

-- the numbers of a queue come out by rising number
abbrev pub lower_first : Reverse ℕ → Reverse ℕ → Ordering
lower_first x y = nat_cmp y.0 x.0

abbrev pub IsQueue : List (Reverse ℕ) → Type 0
IsQueue free = IsHeap lower_first free

-- how often a number is in a queue
abbrev pub count_of : ℕ → List (Reverse ℕ) → ℕ
count_of n free = count_by (λ (r : Reverse ℕ). nat_eq n r.0) free

-- one at this number, and 0 at any other
abbrev pub one_at : ℕ → ℕ → ℕ
one_at slot n = cond (nat_eq n slot) 1 0

-- one where a slot is free
abbrev pub one_if_free : Option GotKey → ℕ
one_if_free slot = cond (is_none slot) 1 0

-- one where there is a slot with a number and it is free
abbrev pub free_at : List (Option GotKey) → ℕ → ℕ
free_at [] n = 0
free_at (slot ∷ slots) zero = one_if_free slot
free_at (slot ∷ slots) (suc n) = free_at slots n

-- a queue has the numbers of the free slots, each once
pub record AreFree (free : List (Reverse ℕ)) (slots : List (Option GotKey)) : Type 0 where
  pub each : (n : ℕ) → count_of n free ≡ free_at slots n
  pub total : length free ≡ count_by (λ (slot : Option GotKey). is_none slot) slots

-- so many calls that give a slot and an entry each find room: in the list of the slots, in the queue, which
-- has room for each slot, and in the list of the entries
pub record HasRoom (spare slots slot_room queue_room entries entry_room : ℕ) : Type 0 where
  pub slots_fit : slots + spare ≤ slot_room
  pub queue_fits : slots + spare ≤ queue_room
  pub entries_fit : entries + spare ≤ entry_room
