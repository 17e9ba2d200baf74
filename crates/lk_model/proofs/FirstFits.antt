-- First fit has at most two candidates in a hole: the least multiple that leaves a hole before it that can
-- be filled, and the one whose bytes end with the hole.
use Rattle.std.specs.Prelude.{◌≡◌, ℕ, zero, suc, Bool, true, false, IsTrue, List, ◌∷◌, Some, None, ◌+◌, ◌-◌, ◌*◌, ◌/◌, ◌<◌, ◌≤◌, map, find, refl}
use Rattle.std.specs.List.{range_with_len}
use Rattle.std.proofs.Common.{arith, inl, inr, sym, ap, ◌∙◌}
use Rattle.std.proofs.Math.Nat.{eq-or-lt_of_le, le_of_mul-le-mul_right, le-div_iff_mul-le, mul-lt-mul_of_pos_right}
use Rattle.std.proofs.lemmas.Bool.Decides.{nat_tests}
use Rattle.lk_model.specs.Rooms.{is_fillable, step_to}
use Rattle.lk_model.specs.FirstFit.{fits_at, fit_in}
use Rattle.lk_model.specs.declared.layouts.Hole.{Hole}
use Rattle.lk_model.proofs.Multiples.{round_up_above, round_up_least, fillable_reports, reports_fillable, too_small, step_above, step_fillable, step_multiple, step_least}

-- what `find` answers by its first item
find_here : (p : ℕ → Bool) (x : ℕ) (xs : List ℕ) → p x ≡ true → find p (x ∷ xs) ≡ Some x
find_here p x xs passes = rw passes refl

find_later : (p : ℕ → Bool) (x : ℕ) (xs : List ℕ) → p x ≡ false → find p (x ∷ xs) ≡ find p xs
find_later p x xs fails = rw fails refl

-- the first number of the range that passes
find_in_range :
    (p : ℕ → Bool) (f : ℕ → ℕ) (i n j : ℕ)
    → i ≤ j
    → j < i + n
    → p (f j) ≡ true
    → ((k : ℕ) → i ≤ k → k < j → p (f k) ≡ false)
    → find p (map f (range_with_len i n)) ≡ Some (f j)
find_in_range p f i zero j from under passes before = absurd (omega arith)
find_in_range p f i (suc n) j from under passes before =
    elim (eq-or-lt_of_le from) [
      | inl here ↦
          let at : p (f i) ≡ true = rw here passes in
          rw (sym here) (find_here p (f i) (map f (range_with_len (i + 1) n)) at)
      | inr later ↦
          let not_here = before i (omega arith) later in
          find_later p (f i) (map f (range_with_len (i + 1) n)) not_here
          ∙ find_in_range p f (i + 1) n j (omega arith) (omega arith) passes (λ k low high. before k (omega arith) high)
    ]

-- none of them passes
find_none_in_range :
    (p : ℕ → Bool) (f : ℕ → ℕ) (i n : ℕ)
    → ((k : ℕ) → i ≤ k → k < i + n → p (f k) ≡ false)
    → find p (map f (range_with_len i n)) ≡ None
find_none_in_range p f i zero fails = refl
find_none_in_range p f i (suc n) fails =
    find_later p (f i) (map f (range_with_len (i + 1) n)) (fails i (omega arith) (omega arith))
    ∙ find_none_in_range p f (i + 1) n (λ k low high. fails k (omega arith) (omega arith))

-- a test that can not be passed fails
refuted : (b : Bool) → (b ≡ true → ⊥) → b ≡ false
refuted false never = refl
refuted true never = absurd (never refl)

-- a test does not answer both ways
differ : (b : Bool) → b ≡ false → b ≡ true → ⊥
differ b fails passes = grind (arith)

-- where the hole ends
abbrev pub end_of : Hole → ℕ
end_of hole = hole.start + hole.length

-- what `fits_at` says of a place
fits_reports :
    (hole : Hole) (least size at : ℕ)
    → fits_at hole least size at ≡ true
    → IsTrue (is_fillable least (at - hole.start)) × (at + size ≤ end_of hole) × IsTrue (is_fillable least (end_of hole - (at + size)))
fits_reports hole least size at fits = (grind (arith, nat_tests), grind (arith, nat_tests), grind (arith, nat_tests))

reports_fits :
    (hole : Hole) (least size at : ℕ)
    → IsTrue (is_fillable least (at - hole.start))
    → at + size ≤ end_of hole
    → IsTrue (is_fillable least (end_of hole - (at + size)))
    → fits_at hole least size at ≡ true
reports_fits hole least size at before inside behind = grind (arith, nat_tests)

-- a multiple that fits, such that no multiple below it does
pub record IsLeastFit (hole : Hole) (least size align at : ℕ) : Type 0 where
  pub factor : ℕ
  pub multiple : at ≡ factor * align
  pub above : hole.start ≤ at
  pub fits : fits_at hole least size at ≡ true
  pub no_less : (k : ℕ) → hole.start ≤ k * align → fits_at hole least size (k * align) ≡ true → at ≤ k * align

-- the multiples in a hole, as multiples
place_is : (q k align : ℕ) → q * align + k * align ≡ (q + k) * align
place_is q k align = omega arith

-- the least fit is the place
pub fit_in_some :
    (hole : Hole) (least size align at : ℕ)
    → 0 < align
    → IsLeastFit hole least size align at
    → fit_in hole least size align ≡ Some at
fit_in_some hole least size align at positive fit =
    let q : ℕ = (hole.start + (align - 1)) / align in
    let d : ℕ = fit.factor - q in
    let e = fit.multiple in
    let least_multiple = round_up_least hole.start align fit.factor positive (omega (arith, fit.above, e)) in
    let ordered : q ≤ fit.factor = le_of_mul-le-mul_right {k = align} least_multiple positive in
    let same : q + d ≡ fit.factor = omega arith in
    let there : q * align + d * align ≡ at = place_is q d align ∙ ap (λ x. x * align) same ∙ sym e in
    let inside = fits_reports hole least size at fit.fits in
    let start = round_up_above hole.start align positive in
    let spare : d * align ≤ hole.length = omega (arith, inside.1, there, start) in
    let few : d ≤ hole.length / align = (le-div_iff_mul-le {k = align} positive).1 spare in
    let passes : fits_at hole least size (q * align + d * align) ≡ true = rw there fit.fits in
    let found =
    find_in_range
    (fits_at hole least size)
    (λ k. q * align + k * align)
    0
    (hole.length / align + 1)
    d
    (omega arith)
    (omega arith)
    passes
    (λ k low high. refuted (fits_at hole least size (q * align + k * align)) (λ fits_k.
    let above_k : hole.start ≤ (q + k) * align = omega (arith, place_is q k align, start) in
    let not_less = fit.no_less (q + k) above_k (rw (sym (place_is q k align)) fits_k) in
    let less = mul-lt-mul_of_pos_right {k = align} high positive in
    omega (arith, place_is q k align, there, less, not_less))) in
    rw (sym there) found

-- where no multiple fits, there is no place
pub fit_in_none :
    (hole : Hole) (least size align : ℕ)
    → 0 < align
    → ((k : ℕ) → hole.start ≤ k * align → fits_at hole least size (k * align) ≡ true → ⊥)
    → fit_in hole least size align ≡ None
fit_in_none hole least size align positive never =
    let q : ℕ = (hole.start + (align - 1)) / align in
    let start = round_up_above hole.start align positive in
    find_none_in_range
    (fits_at hole least size)
    (λ k. q * align + k * align)
    0
    (hole.length / align + 1)
    (λ k low high. refuted (fits_at hole least size (q * align + k * align)) (λ fits_k.
    let above_k : hole.start ≤ (q + k) * align = omega (arith, place_is q k align, start) in
    never (q + k) above_k (rw (sym (place_is q k align)) fits_k)))

-- the first candidate: the least multiple that leaves a hole before it that can be filled
abbrev pub near : Hole → ℕ → ℕ → ℕ
near hole least align = step_to least hole.start align

-- no place is below it
near_is_least :
    (hole : Hole) (least size align k : ℕ)
    → 0 < align
    → hole.start ≤ k * align
    → fits_at hole least size (k * align) ≡ true
    → near hole least align ≤ k * align
near_is_least hole least size align k positive above fits =
    step_least least hole.start align k positive above (fits_reports hole least size (k * align) fits).0

-- it is the place where it fits
pub near_fits :
    (hole : Hole) (least size align : ℕ)
    → 0 < align
    → near hole least align + size ≤ end_of hole
    → IsTrue (is_fillable least (end_of hole - (near hole least align + size)))
    → fit_in hole least size align ≡ Some (near hole least align)
near_fits hole least size align positive inside behind =
    let multiple = step_multiple least hole.start align in
    fit_in_some hole least size align (near hole least align) positive (record {
      factor = multiple.0;
      multiple = multiple.1;
      above = step_above least hole.start align positive;
      fits = reports_fits hole least size (near hole least align) (step_fillable least hole.start align positive) inside behind;
      no_less = λ k above fits. near_is_least hole least size align k positive above fits;
    })

-- where the bytes do not lie in the hole there, nothing fits
pub near_too_long :
    (hole : Hole) (least size align : ℕ)
    → 0 < align
    → end_of hole < near hole least align + size
    → fit_in hole least size align ≡ None
near_too_long hole least size align positive long =
    fit_in_none hole least size align positive (λ k above fits.
    let not_less = near_is_least hole least size align k positive above fits in
    let inside = (fits_reports hole least size (k * align) fits).1 in
    omega (arith, not_less, inside, long))

-- where the bytes lie in the hole there and leave too little behind, a place ends with the hole
ends_with :
    (hole : Hole) (least size align k : ℕ)
    → 0 < align
    → near hole least align + size ≤ end_of hole
    → is_fillable least (end_of hole - (near hole least align + size)) ≡ false
    → hole.start ≤ k * align
    → fits_at hole least size (k * align) ≡ true
    → k * align ≡ end_of hole - size
ends_with hole least size align k positive inside small above fits =
    let not_less = near_is_least hole least size align k positive above fits in
    let fits_there = fits_reports hole least size (k * align) fits in
    let left = too_small least (end_of hole - (near hole least align + size)) small in
    elim (fillable_reports least (end_of hole - (k * align + size)) fits_there.2) [
      | inl none ↦ omega (arith, none, fits_there.1)
      | inr enough ↦ omega (arith, enough, not_less, left.1)
    ]

-- the second candidate: the place that ends with the hole
pub last_fits :
    (hole : Hole) (least size align k : ℕ)
    → 0 < align
    → near hole least align + size ≤ end_of hole
    → is_fillable least (end_of hole - (near hole least align + size)) ≡ false
    → end_of hole - size ≡ k * align
    → IsTrue (is_fillable least (end_of hole - size - hole.start))
    → fit_in hole least size align ≡ Some (end_of hole - size)
last_fits hole least size align k positive inside small multiple before =
    let start = step_above least hole.start align positive in
    fit_in_some hole least size align (end_of hole - size) positive (record {
      factor = k;
      multiple = multiple;
      above = omega (arith, start, inside);
      fits = reports_fits hole least size (end_of hole - size) before (omega (arith, start, inside)) (reports_fillable least (end_of hole - (end_of hole - size + size)) (inl (omega (arith, inside))));
      no_less = λ j above fits. omega (arith, ends_with hole least size align j positive inside small above fits);
    })

-- where it is no multiple, or leaves too little before it, nothing fits
pub last_fails :
    (hole : Hole) (least size align : ℕ)
    → 0 < align
    → near hole least align + size ≤ end_of hole
    → is_fillable least (end_of hole - (near hole least align + size)) ≡ false
    → ((k : ℕ) → end_of hole - size ≡ k * align → is_fillable least (end_of hole - size - hole.start) ≡ false)
    → fit_in hole least size align ≡ None
last_fails hole least size align positive inside small fails =
    fit_in_none hole least size align positive (λ k above fits.
    let there = ends_with hole least size align k positive inside small above fits in
    let before = (fits_reports hole least size (k * align) fits).0 in
    let fillable : IsTrue (is_fillable least (end_of hole - size - hole.start)) = rw (sym there) before in
    differ (is_fillable least (end_of hole - size - hole.start)) (fails k (sym there)) fillable)
