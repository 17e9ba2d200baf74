-- A text in a section is a part of the file: where it lies, and that it is the file's bytes there.
use Rattle.std.specs.Prelude.{◌≡◌, ℕ, ◌+◌, ◌-◌, ◌<◌, ◌≤◌, ◌==◌, List, take, drop, length, slice_range, min, Some}
use Rattle.std.specs.List.{position}
use Rattle.std.proofs.Common.{sym, ◌∙◌, ap, arith}
use Rattle.std.proofs.Math.Nat.{min-le_left, min-le_right}
use Rattle.std.proofs.lemmas.List.{length-take, length-drop, take-take, drop-take, drop-drop}
use Rattle.std.proofs.lemmas.List.Quantifiers.{position-Some}

-- how many bytes there are from an offset of a section on, as far as the file has them
rest-length : (bytes : List ℕ) (a s o : ℕ) → length (drop o (take s (drop a bytes))) ≡ min s (length bytes - a) - o
rest-length bytes a s o = length-drop o (take s (drop a bytes)) ∙ ap (λ n. n - o) (length-take s (drop a bytes) ∙ ap (min s) (length-drop a bytes))

-- a closing zero lies in the section and in the file
zero-lies : (bytes : List ℕ) (a s o k : ℕ) → Some k ≡ position (λ b. b == 0) (drop o (take s (drop a bytes))) → (o + k < s) × (a + o + k < length bytes)
zero-lies bytes a s o k e =
    let there : k < length (drop o (take s (drop a bytes))) = (position-Some (λ b. b == 0) (drop o (take s (drop a bytes))) k 0 (sym e)).0
    in let same : length (drop o (take s (drop a bytes))) ≡ min s (length bytes - a) - o = rest-length bytes a s o
    in let left : min s (length bytes - a) ≤ s = min-le_left s (length bytes - a)
    in let right : min s (length bytes - a) ≤ length bytes - a = min-le_right s (length bytes - a)
    in (omega (arith, there, same, left), omega (arith, there, same, right))

pub text_lies : (bytes : List ℕ) (a s o k : ℕ) → Some k ≡ position (λ b. b == 0) (drop o (take s (drop a bytes))) → a + o + k < length bytes
text_lies bytes a s o k e = (zero-lies bytes a s o k e).1

pub text_shared : (bytes : List ℕ) (a s o k : ℕ) → Some k ≡ position (λ b. b == 0) (drop o (take s (drop a bytes))) → take k (drop o (take s (drop a bytes))) ≡ slice_range bytes (a + o) (a + o + k)
text_shared bytes a s o k e =
    let within : o + k < s = (zero-lies bytes a s o k e).0
    in let whole : s ≡ o + (s - o) = omega (arith, within)
    in let room : k ≤ s - o = omega (arith, within)
    in let count : k ≡ a + o + k - (a + o) = omega arith
    in ap (λ n. take k (drop o (take n (drop a bytes)))) whole
    ∙ ap (take k) (drop-take o (s - o) (drop a bytes))
    ∙ take-take k (s - o) (drop o (drop a bytes)) room
    ∙ ap (take k) (drop-drop o a bytes)
    ∙ ap (λ n. take n (drop (a + o) bytes)) count
