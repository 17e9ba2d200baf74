-- What the slots of the global offset table hold is lk_model's.
use Rattle.std.proofs.Common.{◌≡◌, ℕ, Bool, true, false, cond, ◌&&◌, List, [], ◌∷◌, ◌++◌, refl, ap, ◌∙◌, Option, Some, None, option_map}
use Rattle.std.specs.Prelude.{find, flat_map}
use Rattle.std.specs.List.{AllByRecursion}
use Rattle.lk_elf.proofs.LowBits.{low-long}
use Rattle.lk_elf.specs.Fields.{bytes_of}
use Rattle.lk_model.specs.Keys.{same_got, same_owner, same_truth}
use Rattle.lk_model.specs.SymbolValues.{slot_value}
use Rattle.lk_model.specs.Tables.{slot_bytes}
use Rattle.lk_model.specs.Views.{Resolved}
use Rattle.lk_model.specs.declared.layouts.GotKey.{GotKey}
use Rattle.lk_model.specs.declared.layouts.GotOwner.{GotOwner}
use Rattle.lk_model.specs.declared.layouts.GotOwner.TheVariants as owner
use Rattle.lk_model.specs.declared.layouts.Placement.{Placement}
use Rattle.lk_dyn.specs.LocalSlots.{content_by, content_bytes, given_value, has_key, key_by, local_key, or_zero, value_in, FindsValues, IsGivenSlot, IsLocalGiven}
use Rattle.lk_dyn.specs.declared.local_slots.LocalKey.{LocalKey}
use Rattle.lk_dyn.specs.declared.local_slots.LocalSlot.{LocalSlot}

-- a row is one of a slot exactly where it has the slot's key
keys_alike : (t : Bool) (o : GotOwner) (thread : Bool) (i k : ℕ) → has_key (key_by t o) (local_key thread i k) ≡ (same_truth t thread && same_owner o (owner.Local i k))
keys_alike true (owner.Global n) true i k = refl
keys_alike true (owner.Global n) false i k = refl
keys_alike false (owner.Global n) true i k = refl
keys_alike false (owner.Global n) false i k = refl
keys_alike true (owner.Local j l) true i k = refl
keys_alike true (owner.Local j l) false i k = refl
keys_alike false (owner.Local j l) true i k = refl
keys_alike false (owner.Local j l) false i k = refl

one_row : (b : Bool) (row : LocalSlot) (later : Option ℕ) (rest : Option LocalSlot) → later ≡ option_map (λ (x : LocalSlot). x.value) rest
    → cond b (Some row.value) later ≡ option_map (λ (x : LocalSlot). x.value) (cond b (Some row) rest)
one_row true row later rest h = refl
one_row false row later rest h = h

found_is : (rows : List LocalSlot) (thread : Bool) (i k : ℕ) → value_in rows (local_key thread i k) ≡ given_value rows (record { owner = owner.Local i k; thread = thread })
found_is [] thread i k = refl
found_is (row ∷ rows) thread i k =
    ap (λ b. cond b (Some row.value) (value_in rows (local_key thread i k))) (keys_alike row.key.thread row.key.owner thread i k)
    ∙ one_row (same_truth row.key.thread thread && same_owner row.key.owner (owner.Local i k)) row (value_in rows (local_key thread i k))
    (find (λ (x : LocalSlot). same_got x.key (record { owner = owner.Local i k; thread = thread })) rows) (found_is rows thread i k)

module _ (r : Resolved) (place : Placement) (entries : List (LocalKey × ℕ)) (locals : List LocalSlot) (finds : FindsValues entries locals) where
  owner_is : (thread : Bool) (o : GotOwner) → IsGivenSlot r place locals thread o → bytes_of 8 (content_by r place entries thread o) ≡ bytes_of 8 (slot_value r place (Some (record { owner = o; thread = thread })))
  owner_is thread (owner.Global n) given = low-long (slot_value r place (Some (record { owner = owner.Global n; thread = thread })))
  owner_is thread (owner.Local i k) given =
      ap (λ v. bytes_of 8 (or_zero v)) (finds (local_key thread i k) ∙ found_is locals thread i k ∙ given)
      ∙ low-long (slot_value r place (Some (record { owner = owner.Local i k; thread = thread })))

  slot_is : (slot : Option GotKey) → IsLocalGiven r place locals slot → content_bytes r place entries slot ≡ slot_bytes r place slot
  slot_is None given = refl
  slot_is (Some k) given = owner_is k.thread k.owner given

  pub contents_are : (slots : List (Option GotKey)) → AllByRecursion (IsLocalGiven r place locals) slots → flat_map (content_bytes r place entries) slots ≡ flat_map (slot_bytes r place) slots
  contents_are [] given = refl
  contents_are (slot ∷ slots) given =
      let here = slot_is slot given.0 in
      let later = contents_are slots given.1 in
      λ i. here i ++ later i
