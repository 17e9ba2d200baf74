-- No field is wider than eight bytes.
use Rattle.std.proofs.Common.{◌≡◌, refl, arith, ℕ, ◌≤◌, ◌==◌, Bool, true, false, cond, nat_le, List, [], ◌∷◌, find, Some, option_map, unwrap_or}
use Rattle.std.proofs.lemmas.Bool.{and_parts}
use Rattle.std.proofs.lemmas.Bool.Decides.{nat_tests}
use Rattle.std.specs.List.{list_all}
use Rattle.lk_model.specs.RelocationTypes.{RelocationType, relocation_type_of, relocation_types, width_of}

le_of : (a b : ℕ) → nat_le a b ≡ true → a ≤ b
le_of a b e = grind (arith, nat_tests)

short_among : (code : ℕ) (ts : List RelocationType) → list_all (λ (t : RelocationType). nat_le t.width 8) ts ≡ true → unwrap_or (option_map (λ (t : RelocationType). t.width) (find (λ (t : RelocationType). t.code == code) ts)) 0 ≤ 8
short_among code [] e = omega arith
short_among code (t ∷ ts) e =
    let parts = and_parts (nat_le t.width 8) (list_all (λ (t : RelocationType). nat_le t.width 8) ts) e in
    by (t.code == code) (le_of t.width 8 parts.0) (short_among code ts parts.1)
  where
    by : (b : Bool) → t.width ≤ 8 → unwrap_or (option_map (λ (t : RelocationType). t.width) (find (λ (t : RelocationType). t.code == code) ts)) 0 ≤ 8
        → unwrap_or (option_map (λ (t : RelocationType). t.width) (cond b (Some t) (find (λ (t : RelocationType). t.code == code) ts))) 0 ≤ 8
    by true here later = here
    by false here later = later

pub width_short : (code : ℕ) → width_of code ≤ 8
unfolding width_of relocation_type_of relocation_types
width_short code = short_among code relocation_types refl
