-- The bytes of ranges are those of each at its start, and 0 elsewhere.
use Rattle.std.proofs.Common.{◌≡◌, ℕ, zero, suc, ◌+◌, ◌-◌, ◌<◌, ◌≤◌, ◌⊎◌, Bool, true, false, ◌&&◌, ◌||◌, List, [], ◌∷◌, ◌++◌, length, take, drop, get_or, replicate, nat_le, nat_lt, refl, sym, ap, ◌∙◌, subst, inl, inr, arith}
use Rattle.std.specs.List.{list_any, AllByRecursion}
use Rattle.std.proofs.lemmas.Bool.{or_parts, and_cases, leb-true, leb-false, ltb-true, ltb-false}
use Rattle.std.proofs.lemmas.List.{length-append, length-take-le, length-drop, length-replicate, get_or_append_left, get_or-append_right, get_or-take, get_or-drop, get_or_past, ext_get_or, length-take}
use Rattle.lk_ranges.specs.Stretches.{Stretch, end_of, patched, with_stretches, bytes_of, SharesNothing, AreApart, is_in, HasThese, BytesAreThese}

pub length-patched : (bytes : List ℕ) (at : ℕ) (xs : List ℕ) → at + length xs ≤ length bytes → length (patched bytes at xs) ≡ length bytes
length-patched bytes at xs l =
    let front = length-take-le at bytes (omega arith) in
    let whole = length-append (take at bytes) (xs ++ drop (at + length xs) bytes) in
    let rest = length-append xs (drop (at + length xs) bytes) in
    let back = length-drop (at + length xs) bytes in
    omega (arith, front, whole, rest, back, l)

-- what is below, within and above what is written
patched_below : (bytes : List ℕ) (at : ℕ) (xs : List ℕ) (k : ℕ) → at + length xs ≤ length bytes → k < at → get_or (patched bytes at xs) k 0 ≡ get_or bytes k 0
patched_below bytes at xs k l h =
    let front : length (take at bytes) ≡ at = length-take-le at bytes (omega arith) in
    get_or_append_left (take at bytes) (xs ++ drop (at + length xs) bytes) 0 k (omega (arith, front, h)) ∙ get_or-take at bytes k 0 h

patched_within : (bytes : List ℕ) (at : ℕ) (xs : List ℕ) (j : ℕ) → at + length xs ≤ length bytes → j < length xs → get_or (patched bytes at xs) (at + j) 0 ≡ get_or xs j 0
patched_within bytes at xs j l h =
    let front : length (take at bytes) ≡ at = length-take-le at bytes (omega arith) in
    let place : at + j - at ≡ j = omega arith in
    get_or-append_right (take at bytes) (xs ++ drop (at + length xs) bytes) at (at + j) 0 front (omega arith)
    ∙ ap (λ (i : ℕ). get_or (xs ++ drop (at + length xs) bytes) i 0) place
    ∙ get_or_append_left xs (drop (at + length xs) bytes) 0 j h

patched_above : (bytes : List ℕ) (at : ℕ) (xs : List ℕ) (k : ℕ) → at + length xs ≤ length bytes → at + length xs ≤ k → get_or (patched bytes at xs) k 0 ≡ get_or bytes k 0
patched_above bytes at xs k l h =
    let front : length (take at bytes) ≡ at = length-take-le at bytes (omega arith) in
    let place : at + length xs + (k - at - length xs) ≡ k = omega (arith, h) in
    get_or-append_right (take at bytes) (xs ++ drop (at + length xs) bytes) at k 0 front (omega (arith, h))
    ∙ get_or-append_right xs (drop (at + length xs) bytes) (length xs) (k - at) 0 refl (omega (arith, h))
    ∙ get_or-drop (at + length xs) bytes (k - at - length xs) 0
    ∙ ap (λ (i : ℕ). get_or bytes i 0) place

-- an offset in none of the stretches keeps its byte
patched_outside : (bytes : List ℕ) (x : Stretch) (k : ℕ) → end_of x ≤ length bytes → is_in k x ≡ false → get_or (patched bytes x.start x.bytes) k 0 ≡ get_or bytes k 0
patched_outside bytes x k l h =
    elim (and_cases (nat_le x.start k) (nat_lt k (end_of x)) h) [
      | inl below ↦ patched_below bytes x.start x.bytes k l (leb-false x.start k below)
      | inr above ↦ patched_above bytes x.start x.bytes k l (ltb-false k (end_of x) above)
    ]

pub length-with_stretches : (bytes : List ℕ) (xs : List Stretch) → AllByRecursion (λ x. end_of x ≤ length bytes) xs → length (with_stretches bytes xs) ≡ length bytes
length-with_stretches bytes [] h = refl
length-with_stretches bytes (x ∷ xs) h =
    let same : length (patched bytes x.start x.bytes) ≡ length bytes = length-patched bytes x.start x.bytes h.0 in
    length-with_stretches (patched bytes x.start x.bytes) xs (subst (λ (n : ℕ). AllByRecursion (λ (y : Stretch). end_of y ≤ n) xs) (sym same) h.1) ∙ same

with_outside : (bytes : List ℕ) (xs : List Stretch) (k : ℕ) → AllByRecursion (λ x. end_of x ≤ length bytes) xs → list_any (is_in k) xs ≡ false → get_or (with_stretches bytes xs) k 0 ≡ get_or bytes k 0
with_outside bytes [] k h e = refl
with_outside bytes (x ∷ xs) k h e =
    let parts = or_parts (is_in k x) (list_any (is_in k) xs) e in
    let same : length (patched bytes x.start x.bytes) ≡ length bytes = length-patched bytes x.start x.bytes h.0 in
    with_outside (patched bytes x.start x.bytes) xs k (subst (λ (n : ℕ). AllByRecursion (λ (y : Stretch). end_of y ≤ n) xs) (sym same) h.1) parts.1
    ∙ patched_outside bytes x k h.0 parts.0

-- a byte of a stretch is in none that is apart from it
in_none : (x : Stretch) (xs : List Stretch) (j : ℕ) → AllByRecursion (SharesNothing x) xs → j < length x.bytes → list_any (is_in (x.start + j)) xs ≡ false
in_none x [] j h l = refl
in_none x (y ∷ xs) j h l = go (nat_le y.start (x.start + j)) (nat_lt (x.start + j) (end_of y)) refl refl (in_none x xs j h.1 l)
  where
    go : (a b : Bool) → nat_le y.start (x.start + j) ≡ a → nat_lt (x.start + j) (end_of y) ≡ b → list_any (is_in (x.start + j)) xs ≡ false → ((a && b) || list_any (is_in (x.start + j)) xs) ≡ false
    go false b ea eb later = later
    go true false ea eb later = later
    go true true ea eb later =
        let low : y.start ≤ x.start + j = leb-true y.start (x.start + j) ea in
        let high : x.start + j < end_of y = ltb-true (x.start + j) (end_of y) eb in
        elim h.0 [ inl first ↦ absurd (omega (arith, first, low, l)) | inr second ↦ absurd (omega (arith, second, high)) ]

-- the bytes of a stretch are at its start after later stretches that are apart from it
first_there : (bytes : List ℕ) (x : Stretch) (xs : List Stretch) → AllByRecursion (SharesNothing x) xs → end_of x ≤ length bytes → AllByRecursion (λ y. end_of y ≤ length bytes) xs → take (length x.bytes) (drop x.start (with_stretches (patched bytes x.start x.bytes) xs)) ≡ x.bytes
first_there bytes x xs apart l ends =
    let same : length (patched bytes x.start x.bytes) ≡ length bytes = length-patched bytes x.start x.bytes l in
    let ends' : AllByRecursion (λ (y : Stretch). end_of y ≤ length (patched bytes x.start x.bytes)) xs = subst (λ (n : ℕ). AllByRecursion (λ (y : Stretch). end_of y ≤ n) xs) (sym same) ends in
    let file : List ℕ = with_stretches (patched bytes x.start x.bytes) xs in
    let size : length file ≡ length bytes = length-with_stretches (patched bytes x.start x.bytes) xs ends' ∙ same in
    let dropped = length-drop x.start file in
    let taken : length (take (length x.bytes) (drop x.start file)) ≡ length x.bytes = length-take-le (length x.bytes) (drop x.start file) (omega (arith, dropped, size, l)) in
    ext_get_or 0 (take (length x.bytes) (drop x.start file)) x.bytes taken (λ j h.
    get_or-take (length x.bytes) (drop x.start file) j 0 (omega (arith, taken, h))
    ∙ get_or-drop x.start file j 0
    ∙ with_outside (patched bytes x.start x.bytes) xs (x.start + j) ends' (in_none x xs j apart (omega (arith, taken, h)))
    ∙ patched_within bytes x.start x.bytes j l (omega (arith, taken, h)))

each_there : (bytes : List ℕ) (xs : List Stretch) → AreApart xs → AllByRecursion (λ x. end_of x ≤ length bytes) xs → AllByRecursion (λ x. take (length x.bytes) (drop x.start (with_stretches bytes xs)) ≡ x.bytes) xs
each_there bytes [] apart ends = tt
each_there bytes (x ∷ xs) apart ends =
    let same : length (patched bytes x.start x.bytes) ≡ length bytes = length-patched bytes x.start x.bytes ends.0 in
    (first_there bytes x xs apart.0 ends.0 ends.1, each_there (patched bytes x.start x.bytes) xs apart.1 (subst (λ (n : ℕ). AllByRecursion (λ (y : Stretch). end_of y ≤ n) xs) (sym same) ends.1))

zero_at : (n k z : ℕ) → get_or (replicate n z) k z ≡ z
zero_at zero k z = refl
zero_at (suc n) zero z = refl
zero_at (suc n) (suc k) z = zero_at n k z

pub bytes_are_these : BytesAreThese
bytes_are_these xs n apart ends =
    let zeros : length (replicate n 0) ≡ n = length-replicate n 0 in
    let ends' : AllByRecursion (λ (y : Stretch). end_of y ≤ length (replicate n 0)) xs = subst (λ (m : ℕ). AllByRecursion (λ (y : Stretch). end_of y ≤ m) xs) (sym zeros) ends in
    record {
      size = length-with_stretches (replicate n 0) xs ends' ∙ zeros;
      each = each_there (replicate n 0) xs apart ends';
      elsewhere = λ at h. with_outside (replicate n 0) xs at ends' h ∙ zero_at n at 0;
    }
