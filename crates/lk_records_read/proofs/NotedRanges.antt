-- Items of a list, each with its bytes: whether one more is apart from all of them, by the bytes that are taken.
use Rattle.std.specs.Prelude.{◌≡◌, refl, ℕ, ◌==◌, ◌&&◌, ◌||◌, Bool, true, false, List, [], ◌∷◌, ◌++◌}
use Rattle.std.specs.List.{list_all}
use Rattle.std.proofs.Common.{ap, sym, ◌∙◌}
use Rattle.lk_model.specs.Lawful.{share_nothing}
use Rattle.lk_records_read.specs.TakenRanges.{AreNoted, AreTaken, are_free}

pub and_both : (a b : Bool) → a ≡ true → b ≡ true → (a && b) ≡ true
and_both a b p q = ap (λ c. c && b) p ∙ q

pub and_first : (a b : Bool) → (a && b) ≡ true → a ≡ true
and_first true b p = refl
and_first false b p = absurd (cc)

pub and_second : (a b : Bool) → (a && b) ≡ true → b ≡ true
and_second true b p = p
and_second false b p = absurd (cc)

and-swap : (b : Bool) → (b && true) ≡ b
and-swap true = refl
and-swap false = refl

and-shift : (a b d : Bool) → (a && (b && d)) ≡ ((a && b) && d)
and-shift true b d = refl
and-shift false b d = refl

pub or_true : (b : Bool) → (b || true) ≡ true
or_true true = refl
or_true false = refl

not-true : (b c : Bool) → (b ≡ true → c ≡ true) → c ≡ false → b ≡ false
not-true true c h p = absurd (let q = h refl in cc)
not-true false c h p = refl

module _ {X : Type 0} where
  pub all_push : (test : X → Bool) (xs : List X) (y : X) → list_all test (xs ++ y ∷ []) ≡ (list_all test xs && test y)
  all_push test [] y = and-swap (test y)
  all_push test (x ∷ xs) y = ap (λ b. test x && b) (all_push test xs y) ∙ and-shift (test x) (list_all test xs) (test y)

  pub all_true : (test : X → Bool) (xs : List X) → ((x : X) → test x ≡ true) → list_all test xs ≡ true
  all_true test [] h = refl
  all_true test (x ∷ xs) h = and_both (test x) (list_all test xs) (h x) (all_true test xs h)

  pub all_weaker : (strong weak : X → Bool) (xs : List X) → ((x : X) → strong x ≡ true → weak x ≡ true) → list_all strong xs ≡ true → list_all weak xs ≡ true
  all_weaker strong weak [] h p = refl
  all_weaker strong weak (x ∷ xs) h p =
      and_both (weak x) (list_all weak xs) (h x (and_first (strong x) (list_all strong xs) p)) (all_weaker strong weak xs h (and_second (strong x) (list_all strong xs) p))

  pub not_all : (strong weak : X → Bool) (xs : List X) → ((x : X) → strong x ≡ true → weak x ≡ true) → list_all weak xs ≡ false → list_all strong xs ≡ false
  not_all strong weak xs h p = not-true (list_all strong xs) (list_all weak xs) (all_weaker strong weak xs h) p

none-free : (s z : ℕ) → are_free [] s z ≡ true
none-free s z = or_true (z == 0)

module _ {X : Type 0} (counts : X → Bool) (start size : X → ℕ) (apart : X → X → Bool) where
  pub noted_none : AreNoted counts start size apart [] []
  noted_none = λ x c. none-free (start x) (size x)

  pub noted_same : (ranges : List (ℕ × ℕ)) (before : List X) (y : X) → ((x : X) → apart x y ≡ true) → AreNoted counts start size apart ranges before → AreNoted counts start size apart ranges (before ++ y ∷ [])
  noted_same ranges before y free noted =
      λ x c. noted x c ∙ sym (and-swap (list_all (apart x) before)) ∙ ap (λ b. list_all (apart x) before && b) (sym (free x)) ∙ sym (all_push (apart x) before y)

  pub noted_taken : (ranges new : List (ℕ × ℕ)) (before : List X) (y : X) → ((x : X) → counts x ≡ true → apart x y ≡ share_nothing (start x) (size x) (start y) (size y)) → AreNoted counts start size apart ranges before → AreTaken ranges (start y) (size y) new → AreNoted counts start size apart new (before ++ y ∷ [])
  noted_taken ranges new before y share noted taken =
      λ x c.
      taken (start x) (size x)
      ∙ ap (λ b. b && share_nothing (start x) (size x) (start y) (size y)) (noted x c)
      ∙ ap (λ b. list_all (apart x) before && b) (sym (share x c))
      ∙ sym (all_push (apart x) before y)
