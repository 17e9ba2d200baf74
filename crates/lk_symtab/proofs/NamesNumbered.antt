-- The number of a name by the table is its number among all names, and the number of names where it has none.
use Rattle.std.proofs.Common.{◌≡◌, refl, sym, ap, ◌∙◌, arith, ℕ, ◌+◌, ◌≤◌, Bool, true, false, cond, not, nat_lt, ltb-false, List, [], ◌∷◌, length, Some, None, unwrap_or}
use Rattle.std.proofs.lemmas.List.{length-map}
use Rattle.std.specs.List.{position_or_len}
use Rattle.std.specs.Str.{bytes_eq}
use Rattle.lk_model.specs.declared.summaries.Contributions.{Contributions}
use Rattle.lk_model.specs.References.{number_of_name}
use Rattle.lk_symtab.specs.NameRows.{NameRow, all_symbols, number_of, symbols_in}

pub within : {X : Type 0} (p : X → Bool) (xs : List X) → position_or_len p xs ≤ length xs
within p [] = omega arith
within p (x ∷ xs) = by (p x) (within p xs)
  where
    by : (b : Bool) → position_or_len p xs ≤ length xs → cond (not b) (1 + position_or_len p xs) 0 ≤ length (x ∷ xs)
    by true later = omega arith
    by false later = omega arith

-- a name that is found has its place, and another the number of all names
place_reported : (q n : ℕ) → q ≤ n → unwrap_or (cond (nat_lt q n) (Some q) None) n ≡ q
place_reported q n le = by (nat_lt q n) refl
  where
    by : (b : Bool) → nat_lt q n ≡ b → unwrap_or (cond b (Some q) None) n ≡ q
    by true t = refl
    by false t = let ge : n ≤ q = ltb-false q n t in omega arith

pub number_reported : (rows : List NameRow) (name : List ℕ) → unwrap_or (number_of rows name) (length rows) ≡ number_of_name (all_symbols rows) name
number_reported rows name =
    ap (unwrap_or (number_of rows name)) (sym (length-map rows symbols_in))
    ∙ place_reported (number_of_name (all_symbols rows) name) (length (all_symbols rows)) (within (λ (cs : Contributions). bytes_eq cs.name name) (all_symbols rows))
