-- The first number that passes, among numbers in two parts.
use Rattle.std.proofs.Common.{◌≡◌, ℕ, ◌+◌, ◌<◌, ◌≤◌, Bool, true, false, Option, None, Some, refl, ◌∙◌, inl, inr, arith}
use Rattle.std.proofs.lemmas.Bool.{cases_lt}
use Rattle.lk_task_runs.specs.Below.{first_from}
use Rattle.lk_task_runs.proofs.NumbersBelow.{first_none, first_some, first_absent, first_is}

-- what the first part has is the first of both
pub first_more : (p : ℕ → Bool) (s a b k : ℕ) → first_from p s a ≡ Some k → first_from p s (a + b) ≡ Some k
first_more p s a b k e =
    let f = first_some p s a k e in
    first_is p s (a + b) k f.0 (omega (arith, f.1)) f.2 f.3

rest_step : (p : ℕ → Bool) (s a b : ℕ) (o : Option ℕ) → first_from p s a ≡ None → first_from p (s + a) b ≡ o → first_from p s (a + b) ≡ o
rest_step p s a b None e h =
    first_absent p s (a + b) (λ k low high. elim (cases_lt k (s + a)) [ inl l ↦ first_none p s a k e low l | inr g ↦ first_none p (s + a) b k h g (omega (arith, high)) ])
rest_step p s a b (Some k) e h =
    let f = first_some p (s + a) b k h in
    first_is p s (a + b) k (omega (arith, f.0)) (omega (arith, f.1)) f.2 (λ j low below. elim (cases_lt j (s + a)) [ inl l ↦ first_none p s a j e low l | inr g ↦ f.3 j g below ])

-- where the first part has none it is the first of the second
pub first_rest : (p : ℕ → Bool) (s a b : ℕ) → first_from p s a ≡ None → first_from p s (a + b) ≡ first_from p (s + a) b
first_rest p s a b e = rest_step p s a b (first_from p (s + a) b) e refl
