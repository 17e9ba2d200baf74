-- Powers of two: the less of two divides the greater, and the greatest of some is one.
use Rattle.std.specs.Prelude.{◌≡◌, ℕ, List, [], ◌∷◌, ◌++◌, ◌+◌, ◌-◌, ◌*◌, ◌^◌, ◌<◌, ◌≤◌, ◌⊎◌, max, fold, refl}
use Rattle.std.specs.List.{AllByRecursion}
use Rattle.std.proofs.Common.{arith, inl, inr, sym, ap, subst, ◌∙◌}
use Rattle.std.specs.Int.{◌∣◌}
use Rattle.std.proofs.Math.Nat.{dvd-mul_left}
use Rattle.std.proofs.lemmas.Bool.{cases_lt}
use Rattle.std.proofs.lemmas.List.Sums.{fold-append}
use Rattle.std.proofs.lemmas.Nat.{pow-add, pow_below, pow_pos}
use Rattle.std.proofs.lemmas.Nat.Gcd.{dvd_refl}
use Rattle.lk_model.specs.FullPlace.{align_of}
use Rattle.lk_model.specs.Views.{KeptPiece}
use Rattle.lk_law_placement.specs.SoundPieces.{IsPower, SoundPiece}
use Rattle.lk_law_placement.proofs.SoundInputsPowers.{greater_power}

-- a power of two is above 0
pub power_positive : (n : ℕ) → IsPower n → 0 < n
power_positive n p = rw (p.power) (pow_pos p.exponent)

-- what is a multiple, by its factor
pub multiple_divides : (a n q : ℕ) → n ≡ q * a → a ∣ n
multiple_divides a n q e = subst (λ m. a ∣ m) (sym e) (dvd-mul_left a q)

-- the less of two powers of two divides the greater
pub power_divides : (a b : ℕ) → IsPower a → IsPower b → a ≤ b → a ∣ b
power_divides a b p q under =
    elim (cases_lt q.exponent p.exponent) [
      | inl less ↦ absurd (let below = pow_below q.exponent p.exponent less in let first = p.power in let second = q.power in omega (arith, below, first, second, under))
      | inr more ↦
          let d : ℕ = q.exponent - p.exponent in
          let exponents : q.exponent ≡ d + p.exponent = omega arith in
          multiple_divides a b (2 ^ d) (q.power ∙ (ap (λ k. 2 ^ k) exponents ∙ (pow-add 2 d p.exponent ∙ ap (λ n. 2 ^ d * n) (sym p.power))))
    ]

-- the greater of two numbers is one of them
max_cases : (a b : ℕ) → ((max a b ≡ a) × (b ≤ a)) ⊎ ((max a b ≡ b) × (a ≤ b))
max_cases a b =
    elim (cases_lt a b) [
      | inl less ↦ inr (omega arith, omega arith)
      | inr more ↦ inl (omega arith, omega arith)
    ]

-- the greatest alignment of pieces, from one on, is not below that one
align_above : (low at : ℕ) (pieces : List KeptPiece) → low ≤ at → low ≤ fold (λ align (piece : KeptPiece). max align piece.align) at pieces
align_above low at [] above = above
align_above low at (piece ∷ pieces) above = align_above low (max at piece.align) pieces (omega (arith, above))

-- and is a power of two where they are sound
align_power : (at : ℕ) (pieces : List KeptPiece) → IsPower at → AllByRecursion SoundPiece pieces → IsPower (fold (λ align (piece : KeptPiece). max align piece.align) at pieces)
align_power at [] p sound = p
align_power at (piece ∷ pieces) p sound = align_power (max at piece.align) pieces (greater_power at piece.align p sound.0.aligned) sound.1

-- the least alignment of a section
pub sixteen : IsPower 16
sixteen = record { exponent = 4; power = refl }

-- so is the alignment of a section with these pieces
pub align_of_power : (pieces : List KeptPiece) → AllByRecursion SoundPiece pieces → IsPower (align_of pieces)
align_of_power pieces sound = align_power 16 pieces sixteen sound

-- a piece's alignment divides that of its section
pub align_of_divides :
    (pieces earlier : List KeptPiece) (piece : KeptPiece) (more : List KeptPiece)
    → pieces ≡ earlier ++ piece ∷ more
    → AllByRecursion SoundPiece pieces
    → SoundPiece piece
    → piece.align ∣ align_of pieces
align_of_divides pieces earlier piece more split sound here =
    let before : ℕ = align_of earlier in
    let joined : align_of pieces ≡ fold (λ align (p : KeptPiece). max align p.align) (max before piece.align) more =
    ap align_of split ∙ fold-append (λ align (p : KeptPiece). max align p.align) 16 earlier (piece ∷ more) in
    let under : piece.align ≤ align_of pieces = rw joined (align_above piece.align (max before piece.align) more (omega arith)) in
    power_divides piece.align (align_of pieces) here.aligned (align_of_power pieces sound) under

-- ---- the greatest of some numbers, which begins with 0

-- 0 or a power of two
abbrev pub IsPowerOrNone : ℕ → Type 0
IsPowerOrNone n = (n ≡ 0) ⊎ IsPower n

max_power_or_none : (a b : ℕ) → IsPowerOrNone a → IsPower b → IsPowerOrNone (max a b)
max_power_or_none a b (inl none) q = let whole : max a b ≡ b = omega arith in inr (rw whole q)
max_power_or_none a b (inr p) q = inr (greater_power a b p q)

-- the greatest of 0 or a power of two and of powers of two
pub greatest_power : (m : ℕ) (ns : List ℕ) → IsPowerOrNone m → AllByRecursion IsPower ns → IsPowerOrNone (fold max m ns)
greatest_power m [] p powers = p
greatest_power m (n ∷ ns) p powers = greatest_power (max m n) ns (max_power_or_none m n p powers.0) powers.1

-- a power of two divides the greater of it and one of those
pub divides_greater : (a n : ℕ) → IsPowerOrNone a → IsPower n → n ∣ max a n
divides_greater a n (inl none) q = let whole : max a n ≡ n = omega arith in rw whole (dvd_refl n)
divides_greater a n (inr p) q =
    elim (max_cases a n) [
      | inl first ↦ rw (first.0) (power_divides n a q p first.1)
      | inr second ↦ rw (second.0) (dvd_refl n)
    ]
