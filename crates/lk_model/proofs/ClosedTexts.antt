-- Texts up to their closing zero.
use Rattle.std.specs.Prelude.{◌≡◌, refl, ℕ, suc, ◌+◌, ◌==◌, Bool, true, false, cond, not, ◌||◌, List, [], ◌∷◌, length, take, nat_lt, Some, None}
use Rattle.std.specs.Bool.{then_some}
use Rattle.std.specs.List.{list_any, position, position_or_len}
use Rattle.std.proofs.Common.{sym, ◌∙◌, ap, arith}
use Rattle.std.proofs.lemmas.Bool.{cases_lt, lt-ltb, le-ltb}
use mathlib.Core.Logic.{⊎_elim}
use Rattle.lk_model.specs.Elf.{text_in}

lt-up : (n l : ℕ) → nat_lt n l ≡ nat_lt (1 + n) (suc l)
lt-up n l =
    ⊎_elim
    (λ h. lt-ltb n l h ∙ sym (lt-ltb (1 + n) (suc l) (omega (arith, h))))
    (λ h. le-ltb n l h ∙ sym (le-ltb (1 + n) (suc l) (omega (arith, h))))
    (cases_lt n l)

any-step : (t : Bool) (n l : ℕ) (u : Bool) → u ≡ nat_lt n l → (t || u) ≡ nat_lt (cond (not t) (1 + n) 0) (suc l)
any-step true n l u e = sym (lt-ltb 0 (suc l) (omega arith))
any-step false n l u e = e ∙ lt-up n l

any-position : (p : ℕ → Bool) (xs : List ℕ) → list_any p xs ≡ nat_lt (position_or_len p xs) (length xs)
any-position p [] = refl
any-position p (x ∷ xs) = any-step (p x) (position_or_len p xs) (length xs) (list_any p xs) (any-position p xs)

when-none : (t : Bool) (n : ℕ) (xs : List ℕ) → None ≡ cond t (Some n) None → then_some t (take n xs) ≡ None
when-none true n xs e = cc
when-none false n xs e = refl

when-some : (t : Bool) (n k : ℕ) (xs : List ℕ) → Some k ≡ cond t (Some n) None → then_some t (take n xs) ≡ Some (take k xs)
when-some true n k xs e = let same : k ≡ n = cc in ap (λ m. Some (take m xs)) (sym same)
when-some false n k xs e = cc

pub text_none : (bytes : List ℕ) → None ≡ position (λ b. b == 0) bytes → text_in bytes ≡ None
text_none bytes e =
    ap (λ t. then_some t (take (position_or_len (λ b. b == 0) bytes) bytes)) (any-position (λ b. b == 0) bytes)
    ∙ when-none (nat_lt (position_or_len (λ b. b == 0) bytes) (length bytes)) (position_or_len (λ b. b == 0) bytes) bytes e

pub text_some : (bytes : List ℕ) (k : ℕ) → Some k ≡ position (λ b. b == 0) bytes → text_in bytes ≡ Some (take k bytes)
text_some bytes k e =
    ap (λ t. then_some t (take (position_or_len (λ b. b == 0) bytes) bytes)) (any-position (λ b. b == 0) bytes)
    ∙ when-some (nat_lt (position_or_len (λ b. b == 0) bytes) (length bytes)) (position_or_len (λ b. b == 0) bytes) k bytes e
