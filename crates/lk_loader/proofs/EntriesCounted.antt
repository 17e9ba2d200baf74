-- The entries of a dynamic section counted one by one, up to the first NULL.
use Rattle.std.specs.Prelude.{◌≡◌, refl, ℕ, suc, ◌+◌, ◌-◌, ◌*◌, ◌<◌, ◌≤◌, Bool, true, false, cond, not, List, [], ◌∷◌, ◌++◌, map, take}
use Rattle.std.specs.List.{before_first, position_or_len, range_with_len}
use Rattle.std.proofs.Common.{ap, ◌∙◌, sym, arith}
use Rattle.std.proofs.lemmas.Bool.{both_ways}
use Rattle.std.proofs.lemmas.List.{append_assoc, append-nil}
use Rattle.lk_elf.specs.Numbers.{dt_null}
use Rattle.lk_elf.specs.Records.{dyn_at}
use Rattle.lk_elf.specs.declared.dynamic_entry.Dyn.{Dyn}
use Rattle.lk_model.specs.DynamicEntries.{has_tag}
use Rattle.lk_loader.proofs.Ranges.{range_done, range_next}

-- the entries that count among so many from entry k on
abbrev pub counted_from : List ℕ → ℕ → ℕ → List Dyn
counted_from bytes k m = before_first (has_tag dt_null) (map (λ j. dyn_at bytes (0 + 16 * j)) (range_with_len k m))

passed : {X : Type 0} (t : Bool) (n : ℕ) (x : X) (xs : List X) → t ≡ false → take (cond (not t) (1 + n) 0) (x ∷ xs) ≡ x ∷ take n xs
passed true n x xs e = absurd (both_ways true e refl)
passed false n x xs e = let s : 1 + n ≡ suc n = omega arith in ap (λ m. take m (x ∷ xs)) s

stopped : {X : Type 0} (t : Bool) (n : ℕ) (x : X) (xs : List X) → t ≡ true → take (cond (not t) (1 + n) 0) (x ∷ xs) ≡ []
stopped true n x xs e = refl
stopped false n x xs e = absurd (both_ways false refl e)

-- before the first that passes, in a list with one more
pub before_next : {X : Type 0} (p : X → Bool) (x : X) (xs : List X) → p x ≡ false → before_first p (x ∷ xs) ≡ x ∷ before_first p xs
before_next p x xs e = passed (p x) (position_or_len p xs) x xs e

pub before_end : {X : Type 0} (p : X → Bool) (x : X) (xs : List X) → p x ≡ true → before_first p (x ∷ xs) ≡ []
before_end p x xs e = stopped (p x) (position_or_len p xs) x xs e

step : (bytes : List ℕ) (k n : ℕ) → k < n → counted_from bytes k (n - k) ≡ before_first (has_tag dt_null) (dyn_at bytes (16 * k) ∷ map (λ j. dyn_at bytes (0 + 16 * j)) (range_with_len (k + 1) (n - (k + 1))))
step bytes k n l =
    let at : 0 + 16 * k ≡ 16 * k = omega arith in
    ap (λ ks. before_first (has_tag dt_null) (map (λ j. dyn_at bytes (0 + 16 * j)) ks)) (range_next k n l)
    ∙ ap (λ a. before_first (has_tag dt_null) (dyn_at bytes a ∷ map (λ j. dyn_at bytes (0 + 16 * j)) (range_with_len (k + 1) (n - (k + 1))))) at

-- an entry that is no NULL counts
pub entry_counted :
    (bytes : List ℕ) (k n : ℕ) (found : List Dyn) (entry : Dyn)
    → k < n
    → entry ≡ dyn_at bytes (16 * k)
    → has_tag dt_null entry ≡ false
    → (found ++ entry ∷ []) ++ counted_from bytes (k + 1) (n - (k + 1)) ≡ found ++ counted_from bytes k (n - k)
entry_counted bytes k n found entry l is other =
    let rest = counted_from bytes (k + 1) (n - (k + 1)) in
    append_assoc found (entry ∷ []) rest
    ∙ ap (λ x. found ++ x ∷ rest) is
    ∙ ap (λ xs. found ++ xs)
    (sym (step bytes k n l ∙ before_next (has_tag dt_null) (dyn_at bytes (16 * k)) (map (λ j. dyn_at bytes (0 + 16 * j)) (range_with_len (k + 1) (n - (k + 1)))) (ap (has_tag dt_null) (sym is) ∙ other)))

-- the first NULL ends them
pub null_ends :
    (bytes : List ℕ) (k n : ℕ) (found : List Dyn) (entry : Dyn)
    → k < n
    → entry ≡ dyn_at bytes (16 * k)
    → has_tag dt_null entry ≡ true
    → found ++ counted_from bytes k (n - k) ≡ found
null_ends bytes k n found entry l is null =
    ap (λ xs. found ++ xs)
    (step bytes k n l ∙ before_end (has_tag dt_null) (dyn_at bytes (16 * k)) (map (λ j. dyn_at bytes (0 + 16 * j)) (range_with_len (k + 1) (n - (k + 1)))) (ap (has_tag dt_null) (sym is) ∙ null))
    ∙ append-nil found

pub no_entry_left : (bytes : List ℕ) (k n : ℕ) (found : List Dyn) → n ≤ k → found ++ counted_from bytes k (n - k) ≡ found
no_entry_left bytes k n found l =
    ap (λ ks. found ++ before_first (has_tag dt_null) (map (λ j. dyn_at bytes (0 + 16 * j)) ks)) (range_done k n l)
    ∙ append-nil found
