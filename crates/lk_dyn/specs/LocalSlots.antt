-- What GOT slots hold (psABI x86-64 "Global Offset Table"): those of LOCAL symbols by values that are handed in,
-- and the table by which these are looked up.
use Rattle.std.specs.Prelude.{◌≡◌, ℕ, ◌==◌, ◌&&◌, Bool, true, false, cond, List, [], ◌∷◌, Option, Some, None, find, option_map}
use Rattle.std.specs.List.{AllByRecursion}
use Rattle.std.specs.Map.{lookup}
use Rattle.lk_elf.specs.Fields.{bytes_of}
use Rattle.lk_model.specs.Keys.{same_got}
use Rattle.lk_model.specs.SymbolValues.{slot_value}
use Rattle.lk_model.specs.Views.{Resolved}
use Rattle.lk_model.specs.declared.layouts.GotKey.{GotKey}
use Rattle.lk_model.specs.declared.layouts.GotOwner.{GotOwner}
use Rattle.lk_model.specs.declared.layouts.GotOwner.TheVariants as owner
use Rattle.lk_model.specs.declared.layouts.Placement.{Placement}
use Rattle.lk_dyn.specs.LowBits.{low_64}
use Rattle.lk_dyn.specs.declared.local_slots.LocalKey.{LocalKey}
use Rattle.lk_dyn.specs.declared.local_slots.LocalKey.TheVariants as key
use Rattle.lk_dyn.specs.declared.local_slots.LocalSlot.{LocalSlot}

-- the value in the first of these rows that is one of a slot
abbrev pub given_value : List LocalSlot → GotKey → Option ℕ
given_value locals k = option_map (λ (row : LocalSlot). row.value) (find (λ (row : LocalSlot). same_got row.key k) locals)

-- for the slot of a LOCAL symbol there is a row, and its value is what the slot holds, by its low 64 bits
abbrev pub IsGivenSlot : Resolved → Placement → List LocalSlot → Bool → GotOwner → Type 0
IsGivenSlot r place locals thread (owner.Global n) = Unit {0}
IsGivenSlot r place locals thread (owner.Local i k) =
    given_value locals (record { owner = owner.Local i k; thread = thread })
    ≡ Some (low_64 (slot_value r place (Some (record { owner = owner.Local i k; thread = thread }))))

-- a free slot needs no row
abbrev pub IsLocalGiven : Resolved → Placement → List LocalSlot → Option GotKey → Type 0
IsLocalGiven r place locals None = Unit {0}
IsLocalGiven r place locals (Some k) = IsGivenSlot r place locals k.thread k.owner

-- the rows give the value of each slot of a LOCAL symbol
abbrev pub AreLocalSlots : Resolved → Placement → List LocalSlot → Type 0
AreLocalSlots r place locals = AllByRecursion (IsLocalGiven r place locals) place.slots.got

-- ---- the table of these rows

-- the key of a slot of a LOCAL symbol, and of a row; a row of a name has none
abbrev pub local_key : Bool → ℕ → ℕ → LocalKey
local_key true i k = key.Thread i k
local_key false i k = key.Value i k

abbrev pub key_by : Bool → GotOwner → Option LocalKey
key_by thread (owner.Global n) = None
key_by thread (owner.Local i k) = Some (local_key thread i k)

abbrev pub key_of : GotKey → Option LocalKey
key_of k = key_by k.thread k.owner

-- two keys are the same
abbrev pub same_key : LocalKey → LocalKey → Bool
same_key (key.Value i k) (key.Value j l) = (i == j) && (k == l)
same_key (key.Thread i k) (key.Thread j l) = (i == j) && (k == l)
same_key _ _ = false

-- a row has this key
abbrev pub has_key : Option LocalKey → LocalKey → Bool
has_key None k = false
has_key (Some own) k = same_key own k

-- the value that the entries have for a key
abbrev pub value_of : List (LocalKey × ℕ) → LocalKey → Option ℕ
value_of entries k = lookup (same_key k) entries

-- the value in the first row of a key
abbrev pub value_in : List LocalSlot → LocalKey → Option ℕ
value_in [] k = None
value_in (row ∷ rows) k = cond (has_key (key_of row.key) k) (Some row.value) (value_in rows k)

-- the entries have for each key the value in its first row
abbrev pub FindsValues : List (LocalKey × ℕ) → List LocalSlot → Type 0
FindsValues entries rows = (k : LocalKey) → value_of entries k ≡ value_in rows k

abbrev pub or_zero : Option ℕ → ℕ
or_zero None = 0
or_zero (Some n) = n

-- ---- what slots hold, where the values of LOCAL symbols are in a table

abbrev pub content_by : Resolved → Placement → List (LocalKey × ℕ) → Bool → GotOwner → ℕ
content_by r place entries thread (owner.Global n) = low_64 (slot_value r place (Some (record { owner = owner.Global n; thread = thread })))
content_by r place entries thread (owner.Local i k) = or_zero (value_of entries (local_key thread i k))

abbrev pub content_of : Resolved → Placement → List (LocalKey × ℕ) → Option GotKey → ℕ
content_of r place entries None = 0
content_of r place entries (Some k) = content_by r place entries k.thread k.owner

abbrev pub content_bytes : Resolved → Placement → List (LocalKey × ℕ) → Option GotKey → List ℕ
content_bytes r place entries slot = bytes_of 8 (content_of r place entries slot)
