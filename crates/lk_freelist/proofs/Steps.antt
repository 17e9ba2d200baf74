-- The next multiple of an alignment by the remainder, and the first candidate of a hole by it.
use Rattle.std.proofs.Common.{◌≡◌, ℕ, true, false, ◌≢◌, ◌+◌, ◌-◌, ◌*◌, ◌/◌, ◌%◌, ◌<◌, ◌≤◌, ap, ◌∙◌, arith, inl, inr}
use Rattle.std.proofs.Math.Nat.{div-lt_iff_lt-mul, mul-le-mul_right, mul-mod_left}
use Rattle.std.proofs.lemmas.Bool.Decides.{nat_tests}
use Rattle.lk_model.specs.Amounts.{round_up}
use Rattle.lk_model.specs.Rooms.{is_fillable, step_to}
use Rattle.lk_model.proofs.Multiples.{round_up_above, round_up_least, step_cases}

-- a multiple is its own next one
pub rounded_here : (n a : ℕ) → 0 < a → n % a ≡ 0 → round_up n a ≡ n
rounded_here n a positive none =
    let above = round_up_above n a positive in
    let least = round_up_least n a (n / a) positive (omega arith) in
    omega (arith, above, least)

-- a multiple that is not below a number which is none
multiple_above : (n a k : ℕ) → 0 < a → 0 < n % a → n ≤ k * a → n / a + 1 ≤ k
multiple_above n a k positive some above =
    let other : n ≢ k * a = λ e. let none : n % a ≡ 0 = ap (λ m. m % a) e ∙ mul-mod_left k a in omega arith in
    let below : n / a < k = (div-lt_iff_lt-mul {k = a} {x = n} {y = k} positive).1 (omega arith) in
    omega arith

-- any other number lacks what the remainder lacks
pub rounded_up : (n a : ℕ) → 0 < a → 0 < n % a → round_up n a ≡ n + (a - n % a)
rounded_up n a positive some =
    let above = round_up_above n a positive in
    let least = round_up_least n a (n / a + 1) positive (omega arith) in
    let factor : ℕ = (n + (a - 1)) / a in
    let beyond : n / a + 1 ≤ factor = multiple_above n a factor positive some above in
    let next = mul-le-mul_right {m = n / a + 1} {n = factor} a beyond in
    omega (arith, above, least, next)

-- no step is below the next multiple
pub rounded_below_step : (least start a : ℕ) → 0 < a → round_up start a ≤ step_to least start a
rounded_below_step least start a positive =
    elim (step_cases least start a) [
      | inl near ↦ omega (arith, near.0)
      | inr far ↦
          let above = round_up_above (start + least) a positive in
          let next = round_up_least start a ((start + least + (a - 1)) / a) positive (omega arith) in
          omega (arith, far.0, next)
    ]

-- where the next multiple leaves a hole that can be filled, it is the step
pub step_near :
    (least start a next : ℕ)
    → next ≡ round_up start a
    → is_fillable least (next - start) ≡ true
    → step_to least start a ≡ next
unfolding step_to
step_near least start a next is fills = grind (arith, nat_tests)

-- else the step leaves the least that can be filled
pub step_far :
    (least start a next from : ℕ)
    → next ≡ round_up start a
    → is_fillable least (next - start) ≡ false
    → from ≡ start + least
    → step_to least start a ≡ round_up from a
unfolding step_to
step_far least start a next from is fails further = grind (arith, nat_tests)
