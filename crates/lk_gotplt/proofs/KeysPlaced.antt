-- Where lk_model puts a key.
use Rattle.std.specs.Prelude.{◌≡◌, ℕ, ◌<◌, true, false, List, [], ◌∷◌, ◌++◌, length, Option, Some, None, is_none, nat_lt, position, refl}
use Rattle.std.specs.List.{position_or_len, slice_set}
use Rattle.std.proofs.Common.{arith}
use Rattle.std.proofs.lemmas.Bool.Decides.{nat_tests}
use Rattle.lk_model.specs.SlotUpdate.{with_key}
use Rattle.lk_model.specs.declared.layouts.GotKey.{GotKey}

-- the lowest free slot takes it
pub key_in_free : (slots : List (Option GotKey)) (key : GotKey) (n : ℕ) → position_or_len (λ (s : Option GotKey). is_none s) slots ≡ n → n < length slots → with_key slots key ≡ slice_set slots n (Some key)
key_in_free slots key n at within =
    let test : nat_lt n (length slots) ≡ true = grind (arith, nat_tests) in
    let found : position (λ (s : Option GotKey). is_none s) slots ≡ Some n = rw (at, test) refl in
    rw (found, with_key) refl

-- it goes behind all where none is free
pub key_behind_all : (slots : List (Option GotKey)) (key : GotKey) → position_or_len (λ (s : Option GotKey). is_none s) slots ≡ length slots → with_key slots key ≡ slots ++ Some key ∷ []
key_behind_all slots key at =
    let test : nat_lt (length slots) (length slots) ≡ false = grind (arith, nat_tests) in
    let found : position (λ (s : Option GotKey). is_none s) slots ≡ None = rw (at, test) refl in
    rw (found, with_key) refl
