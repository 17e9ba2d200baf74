-- Lists made of a range of numbers, one more or one less.
use Rattle.std.specs.Prelude.{◌≡◌, ℕ, suc, ◌+◌, ◌-◌, ◌<◌, ◌≤◌, [], ◌∷◌, ◌++◌, map}
use Rattle.std.specs.List.{range_with_len}
use Rattle.std.proofs.Common.{ap, arith}
use Rattle.std.proofs.lemmas.List.FromFn.{map-range_with_len_more}

-- one entry more
pub table_more : {X : Type 0} (f : ℕ → X) (n : ℕ) → map f (range_with_len 0 (n + 1)) ≡ map f (range_with_len 0 n) ++ f n ∷ []
table_more f n = map-range_with_len_more f 0 n n (omega arith)

-- what is left of a range
pub range_next : (k n : ℕ) → k < n → range_with_len k (n - k) ≡ k ∷ range_with_len (k + 1) (n - (k + 1))
range_next k n l = let e : n - k ≡ suc (n - (k + 1)) = omega arith in ap (range_with_len k) e

pub range_done : (k n : ℕ) → n ≤ k → range_with_len k (n - k) ≡ []
range_done k n l = let e : n - k ≡ 0 = omega arith in ap (range_with_len k) e
