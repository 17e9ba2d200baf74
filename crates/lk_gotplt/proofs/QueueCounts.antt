-- How often a number is in a queue.
use Rattle.std.specs.Prelude.{◌≡◌, ℕ, ◌+◌, ◌<◌, cond, nat_eq, false, List, [], ◌∷◌, refl}
use Rattle.std.specs.BinaryHeap.{IsUpperBound}
use Rattle.std.specs.List.Sorted.{IsPermutation}
use Rattle.std.specs.declared.cmp.Reverse.{Reverse}
use Rattle.std.proofs.Common.{arith}
use Rattle.std.proofs.lemmas.Bool.Decides.{nat_tests}
use Rattle.std.proofs.lemmas.List.Sorted.{sum_by-IsPermutation}
use Rattle.std.proofs.lemmas.List.Sums.{sum_by-cons}
use Rattle.lk_gotplt.specs.FreeSlots.{count_of, lower_first, one_at}

-- one more number
pub count_cons : (n : ℕ) (x : Reverse ℕ) (xs : List (Reverse ℕ)) → count_of n (x ∷ xs) ≡ one_at x.0 n + count_of n xs
count_cons n x xs = sum_by-cons (λ (r : Reverse ℕ). cond (nat_eq n r.0) 1 0) x xs

-- the order of the numbers does not count
pub count_permuted : (n : ℕ) (xs ys : List (Reverse ℕ)) → IsPermutation xs ys → count_of n ys ≡ count_of n xs
count_permuted n xs ys moved = sum_by-IsPermutation (λ (r : Reverse ℕ). cond (nat_eq n r.0) 1 0) xs ys moved

-- a number below the lowest is not there
pub count_below : (n : ℕ) (x : Reverse ℕ) (xs : List (Reverse ℕ)) → n < x.0 → IsUpperBound lower_first x xs → count_of n xs ≡ 0
count_below n x [] low bound = refl
count_below n x (y ∷ ys) low bound =
    let above = bound.0 in
    let other : nat_eq n y.0 ≡ false = grind (arith, nat_tests) in
    let here : one_at y.0 n ≡ 0 = rw other refl in
    let rest = count_below n x ys low bound.1 in
    let one_more = count_cons n y ys in
    omega arith
