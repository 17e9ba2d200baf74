-- Alignments are powers of two: those that checks let through, the greater of two, and those of copies.
use Rattle.std.specs.Prelude.{◌≡◌, ℕ, ◌^◌, ◌%◌, ◌==◌, Bool, true, false, cond, List, [], ◌∷◌, map, max, refl}
use Rattle.std.specs.List.{AllByRecursion, list_any, range_with_len}
use Rattle.std.proofs.Common.{arith, inl, inr, sym, subst}
use Rattle.std.proofs.lemmas.Bool.{both_ways, eqb-true, cases_lt}
use Rattle.lk_model.specs.Amounts.{is_small_power, small_powers}
use Rattle.lk_model.specs.KeptPieces.{copy_align, first_dividing}
use Rattle.lk_law_placement.specs.SoundPieces.{IsPower}

-- what holds of each number of a list holds of a number that is one of them
one_of : (P : ℕ → Type 0) (n : ℕ) (ps : List ℕ) → AllByRecursion P ps → list_any (λ p. n == p) ps ≡ true → P n
one_of P n [] all is = absurd (both_ways false refl is)
one_of P n (p ∷ ps) all is = go (n == p) refl (one_of P n ps all.1)
  where
    go : (b : Bool) → (n == p) ≡ b → (list_any (λ q. n == q) ps ≡ true → P n) → P n
    go true e rest = subst P (sym (eqb-true n p e)) all.0
    go false e rest = rest (rw e at is)

-- two to an exponent is a power of two
powers_are : (ks : List ℕ) → AllByRecursion IsPower (map (λ k. 2 ^ k) ks)
powers_are [] = tt
powers_are (k ∷ ks) = (record { exponent = k; power = refl }, powers_are ks)

-- so is a small power, whose exponents go up to 20
pub small_power : (n : ℕ) → is_small_power n ≡ true → IsPower n
small_power n is = one_of IsPower n small_powers (powers_are (range_with_len 0 21)) is

pub power_of_one : IsPower 1
power_of_one = record { exponent = 0; power = refl }

-- the greater of two powers is one
pub greater_power : (a b : ℕ) → IsPower a → IsPower b → IsPower (max a b)
greater_power a b first second =
    elim (cases_lt a b) [
      | inl below ↦ let e : b ≡ max a b = omega (arith, below) in subst IsPower e second
      | inr above ↦ let e : a ≡ max a b = omega (arith, above) in subst IsPower e first
    ]

-- the first of some powers that divides a number is one, or 1
dividing_power : (ps : List ℕ) (n : ℕ) → AllByRecursion IsPower ps → IsPower (first_dividing ps n)
dividing_power [] n all = power_of_one
dividing_power (p ∷ ps) n all = go (n % p == 0) (dividing_power ps n all.1)
  where
    go : (b : Bool) → IsPower (first_dividing ps n) → IsPower (cond b p (first_dividing ps n))
    go true rest = all.0
    go false rest = rest

-- the alignment of a copy is a power of two
pub copy_power : (value : ℕ) → IsPower (copy_align value)
copy_power value = dividing_power (64 ∷ 32 ∷ 16 ∷ 8 ∷ 4 ∷ 2 ∷ []) value (powers_are (6 ∷ 5 ∷ 4 ∷ 3 ∷ 2 ∷ 1 ∷ []))
