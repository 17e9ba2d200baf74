-- A text at an offset is up to the first zero from there on.
use Rattle.std.specs.Prelude.{◌≡◌, ℕ, ◌+◌, ◌-◌, ◌<◌, ◌≤◌, ◌==◌, Bool, true, false, List, take, drop, length, slice_range, cond, nat_lt, not, None, Some}
use Rattle.std.specs.List.{position, position_or_len}
use Rattle.std.proofs.Common.{refl, sym, ap, arith}
use Rattle.std.proofs.lemmas.Bool.{lt-ltb, le-ltb}
use Rattle.std.proofs.lemmas.Bool.Decides.{nat_tests}
use Rattle.std.proofs.lemmas.List.{length-drop}
use Rattle.std.proofs.lemmas.List.Quantifiers.{position-Some}
use Rattle.std.proofs.lemmas.List.{drop-drop}
use Rattle.std.proofs.lemmas.List.Sums.{prefix_len-le-length}
use Rattle.lk_model.specs.Texts.{begins_text, text_at}
use Rattle.lk_model.specs.TextsReading.{is_end}

-- its zero lies in the section
pub text_lies : (bytes : List ℕ) (o k : ℕ) → Some k ≡ position (λ b. b == 0) (drop o bytes) → o + k < length bytes
text_lies bytes o k e =
    let there : k < length (drop o bytes) = (position-Some (λ b. b == 0) (drop o bytes) k 0 (sym e)).0 in
    let same = length-drop o bytes in
    omega (arith, there, same)

pub text_past : (bytes : List ℕ) (o : ℕ) → length bytes ≤ o → text_at bytes o ≡ None
text_past bytes o l = let past = le-ltb o (length bytes) l in rw past refl

pub text_inside : (bytes : List ℕ) (o : ℕ) → o < length bytes → begins_text bytes o ≡ false → text_at bytes o ≡ None
text_inside bytes o l b = let inside = lt-ltb o (length bytes) l in rw (inside, b) refl

pub text_unended : (bytes : List ℕ) (o : ℕ) → o < length bytes → begins_text bytes o ≡ true → None ≡ position (λ b. b == 0) (drop o bytes) → text_at bytes o ≡ None
text_unended bytes o l b e = let inside = lt-ltb o (length bytes) l in let none = sym e in rw (inside, b, none) refl

pub text_found : (bytes : List ℕ) (o k : ℕ) → o < length bytes → begins_text bytes o ≡ true → Some k ≡ position (λ b. b == 0) (drop o bytes) → text_at bytes o ≡ Some (slice_range bytes o (o + k))
text_found bytes o k l b e =
    let inside = lt-ltb o (length bytes) l in
    let there = sym e in
    let count : k ≡ o + k - o = omega arith in
    rw (inside, b, there) (ap (λ n. Some (take n (drop o bytes))) count)

-- ---- how long a text is

found : (t : Bool) (n k : ℕ) → Some k ≡ cond t (Some n) None → k ≡ n
found true n k e = cc
found false n k e = absurd (cc)

pub size_found : (bytes : List ℕ) (k : ℕ) → Some k ≡ position (λ b. b == 0) bytes → k ≡ position_or_len is_end bytes
size_found bytes k e = found (nat_lt (position_or_len is_end bytes) (length bytes)) (position_or_len is_end bytes) k e

unended : (t : Bool) (n : ℕ) → None ≡ cond t (Some n) None → t ≡ false
unended true n e = absurd (cc)
unended false n e = refl

pub size_whole : (bytes : List ℕ) → None ≡ position (λ b. b == 0) bytes → length bytes ≡ position_or_len is_end bytes
size_whole bytes e =
    let past : nat_lt (position_or_len is_end bytes) (length bytes) ≡ false = unended (nat_lt (position_or_len is_end bytes) (length bytes)) (position_or_len is_end bytes) e in
    let most = prefix_len-le-length (λ b. not (is_end b)) bytes in
    grind (arith, nat_tests, past, most)

-- behind a text and its zero
pub text_passed : (bytes : List ℕ) (n : ℕ) → drop 1 (drop n bytes) ≡ drop (n + 1) bytes
text_passed bytes n = drop-drop 1 n bytes
