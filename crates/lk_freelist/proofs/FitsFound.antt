-- A place that first fit finds is a multiple of the alignment, and its bytes lie in a hole.
use Rattle.std.proofs.Common.{◌≡◌, ℕ, zero, suc, Bool, true, false, Some, ◌+◌, ◌-◌, ◌*◌, ◌/◌, ◌%◌, ◌<◌, ◌≤◌, List, ◌∷◌, map, refl, sym, ap, ◌∙◌, arith}
use Rattle.std.specs.Prelude.{find}
use Rattle.std.specs.List.{range_with_len}
use Rattle.std.proofs.lemmas.Bool.Decides.{nat_tests}
use Rattle.std.proofs.Math.Nat.{mul-mod_left}
use Rattle.lk_model.specs.FirstFit.{fit_in, fits_at}
use Rattle.lk_model.specs.declared.layouts.Hole.{Hole}
use Rattle.lk_model.proofs.Multiples.{round_up_above}

-- what is found in a range is the image of a number, and passes
found_in_range :
    (p : ℕ → Bool) (f : ℕ → ℕ) (i n at : ℕ)
    → find p (map f (range_with_len i n)) ≡ Some at
    → (k : ℕ) × (at ≡ f k) × (p at ≡ true)
found_in_range p f i zero at found = absurd (cc)
found_in_range p f i (suc n) at found = by_test (p (f i)) refl (found_in_range p f (i + 1) n at)
  where
    later : List ℕ
    later = map f (range_with_len (i + 1) n)

    by_test : (b : Bool) → p (f i) ≡ b → (find p later ≡ Some at → (k : ℕ) × (at ≡ f k) × (p at ≡ true)) → (k : ℕ) × (at ≡ f k) × (p at ≡ true)
    by_test true passes rest =
        let first : find p (f i ∷ later) ≡ Some (f i) = rw passes refl in
        let both : Some (f i) ≡ Some at = sym first ∙ found in
        let here : at ≡ f i = cc in
        (i, here, ap p here ∙ passes)
    by_test false fails rest =
        let first : find p (f i ∷ later) ≡ find p later = rw fails refl in
        rest (sym first ∙ found)

-- the place that a hole has
pub record IsWithin (hole : Hole) (size align at : ℕ) : Type 0 where
  pub multiple : at % align ≡ 0
  pub above : hole.start ≤ at
  pub inside : at + size ≤ hole.start + hole.length

-- what fits ends in the hole
within_end : (hole : Hole) (least size at : ℕ) → fits_at hole least size at ≡ true → at + size ≤ hole.start + hole.length
within_end hole least size at fits = grind (arith, nat_tests)

-- the place that is found fits
pub fit_fits : (hole : Hole) (least size align at : ℕ) → fit_in hole least size align ≡ Some at → fits_at hole least size at ≡ true
fit_fits hole least size align at found =
    let q : ℕ = (hole.start + (align - 1)) / align in
    (found_in_range (fits_at hole least size) (λ k. q * align + k * align) 0 (hole.length / align + 1) at found).2

pub fit_within : (hole : Hole) (least size align at : ℕ) → 0 < align → fit_in hole least size align ≡ Some at → IsWithin hole size align at
fit_within hole least size align at positive found =
    let q : ℕ = (hole.start + (align - 1)) / align in
    let there = found_in_range (fits_at hole least size) (λ k. q * align + k * align) 0 (hole.length / align + 1) at found in
    let start = round_up_above hole.start align positive in
    let sum : (q + there.0) * align ≡ at = omega (arith, there.1) in
    record {
      multiple = ap (λ n. n % align) (sym sum) ∙ mul-mod_left (q + there.0) align;
      above = omega (arith, there.1, start);
      inside = within_end hole least size at there.2;
    }
