-- A number that no relocation type has.
use Rattle.std.specs.Prelude.{◌≡◌, refl, ℕ, ◌==◌, false, cond, List, [], ◌∷◌, map, find, Some, None}
use Rattle.std.proofs.Common.{arith, ap, ◌∙◌}
use Rattle.std.proofs.lemmas.Bool.Decides.{nat_tests}
use Rattle.lk_model.specs.RelocationTypes.{RelocationType, relocation_type_of, relocation_types}

-- a number is none of these
abbrev pub IsNone : ℕ → List ℕ → Type 0
IsNone code [] = Unit {0}
IsNone code (k ∷ ks) = (code ≡ k → ⊥) × IsNone code ks

another : (k code : ℕ) → (code ≡ k → ⊥) → (k == code) ≡ false
another k code n = grind (arith, nat_tests, n)

none_among : (ts : List RelocationType) (code : ℕ) → IsNone code (map (λ (t : RelocationType). t.code) ts) → find (λ (t : RelocationType). t.code == code) ts ≡ None
none_among [] code n = refl
none_among (t ∷ ts) code n =
    ap (λ b. cond b (Some t) (find (λ (t : RelocationType). t.code == code) ts)) (another t.code code n.0) ∙ none_among ts code n.1

-- the numbers of the types
abbrev pub numbers : List ℕ
numbers = map (λ (t : RelocationType). t.code) relocation_types

pub no_type : (code : ℕ) → IsNone code numbers → relocation_type_of code ≡ None
unfolding relocation_type_of
no_type code n = none_among relocation_types code n
