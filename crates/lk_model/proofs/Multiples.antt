-- Multiples of an alignment: `round_up` is the least one that is not below a number, and `step_to` the
-- least one at or above a cursor that leaves a hole that can be filled.
use Rattle.std.specs.Prelude.{◌≡◌, ℕ, suc, false, IsTrue, ◌+◌, ◌-◌, ◌*◌, ◌/◌, ◌<◌, ◌≤◌, ◌⊎◌}
use Rattle.std.proofs.Math.Nat.{div-mul-le_self, lt-div-mul-add, div-lt_iff_lt-mul, mul-le-mul_right}
use Rattle.std.proofs.Common.{arith, inl, inr}
use Rattle.std.proofs.lemmas.Bool.Decides.{nat_tests}
use Rattle.lk_model.specs.Amounts.{round_up}
use Rattle.lk_model.specs.Rooms.{is_fillable, step_to}

-- it is not below the number
pub round_up_above : (n a : ℕ) → 0 < a → n ≤ round_up n a
round_up_above n a positive =
    let above = lt-div-mul-add {a = n + (a - 1)} {b = a} positive in
    omega arith

-- it is less than the alignment above it
pub round_up_below : (n a : ℕ) → 0 < a → round_up n a < n + a
round_up_below n a positive =
    let below = div-mul-le_self (n + (a - 1)) a in
    omega arith

-- no multiple between is less
pub round_up_least : (n a k : ℕ) → 0 < a → n ≤ k * a → round_up n a ≤ k * a
round_up_least n a k positive under =
    let room : n + (a - 1) < suc k * a = omega arith in
    let less = (div-lt_iff_lt-mul {k = a} {x = n + (a - 1)} {y = suc k} positive).1 room in
    let whole : (n + (a - 1)) / a ≤ k = omega arith in
    mul-le-mul_right a whole

-- what `is_fillable` says
pub fillable_reports : (least n : ℕ) → IsTrue (is_fillable least n) → (n ≡ 0) ⊎ (least ≤ n)
fillable_reports least n fillable = grind (arith, nat_tests)

pub reports_fillable : (least n : ℕ) → (n ≡ 0) ⊎ (least ≤ n) → IsTrue (is_fillable least n)
reports_fillable least n fillable = grind (arith, nat_tests)

pub too_small : (least n : ℕ) → is_fillable least n ≡ false → (0 < n) × (n < least)
too_small least n small = (grind (arith, nat_tests), grind (arith, nat_tests))

-- a step is not below its cursor
pub step_above : (least cursor align : ℕ) → 0 < align → cursor ≤ step_to least cursor align
unfolding step_to
step_above least cursor align positive =
    let near = round_up_above cursor align positive in
    let far = round_up_above (cursor + least) align positive in
    grind (arith, nat_tests, near, far)

-- the hole that it leaves can be filled
pub step_fillable : (least cursor align : ℕ) → 0 < align → IsTrue (is_fillable least (step_to least cursor align - cursor))
unfolding step_to
step_fillable least cursor align positive =
    let far = round_up_above (cursor + least) align positive in
    grind (arith, nat_tests, far)

-- a step is the near multiple where that leaves a hole that can be filled, else the far one
pub step_cases :
    (least cursor align : ℕ)
    → ((step_to least cursor align ≡ round_up cursor align) × IsTrue (is_fillable least (round_up cursor align - cursor)))
    ⊎ ((step_to least cursor align ≡ round_up (cursor + least) align) × (is_fillable least (round_up cursor align - cursor) ≡ false))
unfolding step_to
step_cases least cursor align = grind (arith, nat_tests)

-- it is a multiple of the alignment
pub step_multiple : (least cursor align : ℕ) → (k : ℕ) × (step_to least cursor align ≡ k * align)
step_multiple least cursor align =
    elim (step_cases least cursor align) [
      | inl near ↦ ((cursor + (align - 1)) / align, near.0)
      | inr far ↦ ((cursor + least + (align - 1)) / align, far.0)
    ]

-- and no other such multiple is less
pub step_least :
    (least cursor align k : ℕ)
    → 0 < align
    → cursor ≤ k * align
    → IsTrue (is_fillable least (k * align - cursor))
    → step_to least cursor align ≤ k * align
step_least least cursor align k positive above fillable =
    let near = round_up_least cursor align k positive above in
    let start = round_up_above cursor align positive in
    elim (step_cases least cursor align) [
      | inl at ↦ omega (arith, at.0, near)
      | inr at ↦
          let small = too_small least (round_up cursor align - cursor) at.1 in
          let beyond : cursor + least ≤ k * align =
          elim (fillable_reports least (k * align - cursor) fillable) [
            | inl none ↦ omega arith
            | inr enough ↦ omega arith
          ] in
          let far = round_up_least (cursor + least) align k positive beyond in
          omega (arith, at.0, far)
    ]
