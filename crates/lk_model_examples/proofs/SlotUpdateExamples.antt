-- Worked examples: PLT entries and GOT slots of an update, in the order that its steps give.
use Rattle.std.specs.Prelude.{◌≡◌, refl, ℕ, false, true, [], ◌∷◌, Some, None}
use Rattle.lk_model_examples.proofs.UpdateComputed.{plt_reported, got_reported}
use Rattle.lk_model.specs.declared.layouts.GotKey.{GotKey}
use Rattle.lk_model.specs.declared.layouts.GotOwner.TheVariants as owner

-- entries of the names 0, 1, .. by number. The first is no longer needed, and the last takes its place; a
-- name that is gone is not needed either; new ones go last
entries_move :
    (plt_reported (7 ∷ []) (Some 5 ∷ Some 7 ∷ []) ≡ 7 ∷ [])
    × (plt_reported (7 ∷ []) (None ∷ Some 7 ∷ []) ≡ 7 ∷ [])
    × (plt_reported (4 ∷ 0 ∷ 2 ∷ []) (Some 0 ∷ Some 1 ∷ Some 2 ∷ Some 3 ∷ []) ≡ 0 ∷ 2 ∷ 4 ∷ [])
    × (plt_reported [] (Some 0 ∷ Some 1 ∷ []) ≡ [])
    × (plt_reported (1 ∷ 0 ∷ []) (Some 0 ∷ Some 1 ∷ []) ≡ 0 ∷ 1 ∷ [])
unfolding plt_reported
entries_move = (refl, refl, refl, refl, refl)

-- two are given up: the highest number goes first, so that the last entry takes the place of the second
-- and the one before it that of the first. The other way round it would be 4, 3, 2.
highest_first : plt_reported (2 ∷ 3 ∷ 4 ∷ []) (Some 0 ∷ Some 1 ∷ Some 2 ∷ Some 3 ∷ Some 4 ∷ []) ≡ 3 ∷ 4 ∷ 2 ∷ []
unfolding plt_reported
highest_first = refl

-- the address slot of a name, its thread-offset slot, and the slot of a LOCAL symbol
abbrev address : ℕ → GotKey
address name = record { owner = owner.Global name; thread = false }

abbrev thread : ℕ → GotKey
thread name = record { owner = owner.Global name; thread = true }

abbrev local : ℕ → ℕ → GotKey
local input symbol = record { owner = owner.Local input symbol; thread = false }

-- a slot that is given up stays, free, also the last; a new key takes the lowest free slot, one more goes
-- last; two kinds of slots of one name are two keys
slots_stay :
    (got_reported (address 0 ∷ local 1 3 ∷ []) (Some (address 0) ∷ Some (address 1) ∷ Some (local 1 3) ∷ Some (address 2) ∷ [])
    ≡ Some (address 0) ∷ None ∷ Some (local 1 3) ∷ None ∷ [])
    × (got_reported (thread 0 ∷ address 5 ∷ address 0 ∷ address 6 ∷ []) (Some (address 0) ∷ None ∷ Some (address 2) ∷ [])
    ≡ Some (address 0) ∷ Some (thread 0) ∷ Some (address 5) ∷ Some (address 6) ∷ [])
    × (got_reported (local 2 3 ∷ []) (Some (local 1 3) ∷ []) ≡ Some (local 2 3) ∷ [])
unfolding got_reported
slots_stay = (refl, refl, refl)
