-- The digits of a number, put one before the other.
use Rattle.std.proofs.Common.{◌≡◌, ℕ, zero, suc, ◌<◌, ◌≤◌, ◌+◌, ◌-◌, ◌/◌, ◌%◌, Bool, true, false, cond, List, [], ◌∷◌, ap, refl, ◌∙◌, drop, length, set, arith, eqb}
use Rattle.std.proofs.lemmas.Bool.{eq-eqb, ne_eqb}
use Rattle.std.proofs.lemmas.Grind.{drop-set_at}
use Rattle.std.specs.Fmt.{digits, digits_onto, digit_glyph}

pub onto_nothing : (base n : ℕ) → digits_onto 64 base false n [] ≡ digits base false n
unfolding digits
onto_nothing base n = refl

by_test : (base n k : ℕ) (acc : List ℕ) (t : Bool) → eqb (n / base) 0 ≡ t → digits_onto (suc k) base false n acc ≡ cond t (digit_glyph false (n % base) ∷ acc) (digits_onto k base false (n / base) (digit_glyph false (n % base) ∷ acc))
by_test base n k acc t e = ap (λ (b : Bool). cond b (digit_glyph false (n % base) ∷ acc) (digits_onto k base false (n / base) (digit_glyph false (n % base) ∷ acc))) e

-- the highest digit
pub onto_last : (base n i : ℕ) (acc : List ℕ) → 0 < i → n / base ≡ 0 → digits_onto i base false n acc ≡ digit_glyph false (n % base) ∷ acc
onto_last base n zero acc h e = absurd (omega arith)
onto_last base n (suc k) acc h e = by_test base n k acc true (eq-eqb _ 0 e)

-- a digit with others before it
pub onto_more : (base n i : ℕ) (acc : List ℕ) → 0 < i → (n / base ≡ 0 → ⊥) → digits_onto i base false n acc ≡ digits_onto (i - 1) base false (n / base) (digit_glyph false (n % base) ∷ acc)
onto_more base n zero acc h e = absurd (omega arith)
onto_more base n (suc k) acc h e = by_test base n k acc false (ne_eqb _ 0 e) ∙ ap (λ (j : ℕ). digits_onto j base false (n / base) (digit_glyph false (n % base) ∷ acc)) {x = k} {y = suc k - 1} (omega arith)

-- a digit that is put right before the others
pub put_before : (room : List ℕ) (i x g : ℕ) → 0 < i → i ≤ length room → x ≡ g → drop (i - 1) (set room (i - 1) x) ≡ g ∷ drop i room
put_before room i x g h k e = drop-set_at room (i - 1) (i - 1) x refl (omega arith) ∙ ap (λ y. y ∷ drop (i - 1 + 1) room) e ∙ ap (λ j. g ∷ drop j room) {x = i - 1 + 1} {y = i} (omega arith)
