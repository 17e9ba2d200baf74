-- Slots have the owner and the kind of a key exactly where they are the key's.
use Rattle.std.proofs.Common.{◌≡◌, refl, arith, ℕ, ◌+◌, ◌==◌, ◌&&◌, Bool, true, false, cond, List, [], ◌∷◌, Option, Some, None}
use Rattle.std.proofs.lemmas.Bool.Decides.{nat_tests}
use Rattle.lk_model.specs.declared.layouts.GotKey.{GotKey}
use Rattle.lk_model.specs.declared.layouts.GotOwner.{GotOwner}
use Rattle.lk_model.specs.declared.layouts.GotOwner.TheVariants as owner
use Rattle.lk_model.specs.Keys.{is_slot_of, same_owner, same_truth}
use Rattle.lk_symbol_values.specs.SlotNumbers.{is_slot_with, key_of, place_from, same_key}

eq_turned : (a b : ℕ) → (a == b) ≡ (b == a)
eq_turned a b = grind (arith, nat_tests)

truth_turned : (a b : Bool) → same_truth a b ≡ same_truth b a
truth_turned true true = refl
truth_turned true false = refl
truth_turned false true = refl
truth_turned false false = refl

owners_alike : (a b : GotOwner) → same_key (key_of a) (key_of b) ≡ same_owner b a
owners_alike (owner.Global n) (owner.Global m) = eq_turned n m
owners_alike (owner.Local i k) (owner.Local j l) = λ x. eq_turned i j x && eq_turned k l x
owners_alike (owner.Global n) (owner.Local j l) = refl
owners_alike (owner.Local i k) (owner.Global m) = refl

slot_alike : (k : GotKey) (slot : Option GotKey) → is_slot_with k.thread (key_of k.owner) slot ≡ is_slot_of k slot
slot_alike k None = refl
slot_alike k (Some other) = λ i. truth_turned other.thread k.thread i && owners_alike other.owner k.owner i

pub slots_alike : (k : GotKey) (n : ℕ) (slots : List (Option GotKey)) → place_from (is_slot_with k.thread (key_of k.owner)) n slots ≡ place_from (is_slot_of k) n slots
slots_alike k n [] = refl
slots_alike k n (slot ∷ slots) = λ i. cond (slot_alike k slot i) (Some n) (slots_alike k (n + 1) slots i)
