-- Fields that are written one after another, and read back.
use Rattle.std.proofs.Common.{◌≡◌, ℕ, zero, suc, ◌+◌, ◌*◌, ◌/◌, ◌^◌, ◌<◌, ◌≤◌, List, ◌++◌, length, take, drop, refl, sym, ap, ◌∙◌, arith, append_assoc, length-append}
use Rattle.std.proofs.Math.Nat.{pow-suc}
use Rattle.std.proofs.lemmas.List.{drop-drop, drop_at, length-take-le, take_at}
use Rattle.lk_elf.specs.Fields.{bytes_of, num, number_of}
use Rattle.lk_elf.proofs.Widths.{length-bytes_of}

-- now is old with the bytes xs at `at`, up to the place p
pub record Wrote (at p : ℕ) (old now xs : List ℕ) : Type 0 where
  pub bytes : now ≡ take at old ++ xs ++ drop p old
  pub ends : p ≡ at + length xs

-- the first bytes that are written
pub first_put : {at : ℕ} {old now : List ℕ} (p w : ℕ) (xs : List ℕ) → now ≡ take at old ++ xs ++ drop (at + w) old
    → length xs ≡ w → p ≡ at + w → Wrote at p old now xs
first_put p w xs put len ends = record { bytes = rw ends put; ends = omega arith }

-- the bytes ys that are written right behind
pub then_put : {at p : ℕ} {old now new xs : List ℕ} (q w : ℕ) (ys : List ℕ) → Wrote at p old now xs
    → new ≡ take p now ++ ys ++ drop (p + w) now → length ys ≡ w → q ≡ p + w → q ≤ length old
    → Wrote at q old new (xs ++ ys)
then_put {at = at} {p = p} {old = old} {now = now} {xs = xs} q w ys first second count ends room =
    let starts : p ≡ at + length xs = first.ends in
    let len : length (take at old) ≡ at = length-take-le at old (omega arith) in
    let front : length (take at old ++ xs) ≡ p = omega (arith, length-append (take at old) xs) in
    let head : take p now ≡ take at old ++ xs = ap (take p) first.bytes ∙ take_at (take at old ++ xs) (drop p old) p front in
    let behind : drop p now ≡ drop p old = ap (drop p) first.bytes ∙ drop_at (take at old ++ xs) (drop p old) p front in
    let tail : drop (p + w) now ≡ drop (p + w) old = sym (drop-drop w p now) ∙ ap (drop w) behind ∙ drop-drop w p old in
    record {
      bytes = rw ends (second ∙ rw (head, tail, append_assoc (take at old) xs ys) refl);
      ends = omega (arith, length-append xs ys);
    }

-- a number that is written first
pub first_num : {at : ℕ} {old now : List ℕ} (p w n : ℕ) → now ≡ take at old ++ bytes_of w n ++ drop (at + w) old
    → p ≡ at + w → Wrote at p old now (bytes_of w n)
first_num p w n put ends = first_put p w (bytes_of w n) put (length-bytes_of w n) ends

-- a number that is written right behind
pub then_num : {at p : ℕ} {old now new xs : List ℕ} (q w n : ℕ) → Wrote at p old now xs
    → new ≡ take p now ++ bytes_of w n ++ drop (p + w) now → q ≡ p + w → q ≤ length old
    → Wrote at q old new (xs ++ bytes_of w n)
then_num q w n first second ends room = then_put q w (bytes_of w n) first second (length-bytes_of w n) ends room

-- a number that fits in w bytes is read back from them
pub number_of-bytes_of : (w n : ℕ) → n < 256 ^ w → number_of (bytes_of w n) ≡ n
unfolding number_of bytes_of
number_of-bytes_of zero n fits = omega arith
number_of-bytes_of (suc w) n fits =
    let power : 256 ^ suc w ≡ 256 ^ w * 256 = pow-suc 256 w in
    let above : n / 256 < 256 ^ w = omega arith in
    let rest = number_of-bytes_of w (n / 256) above in
    rw rest (omega arith)

-- a list between two others, from a place in it
pub drop_within : (at k p : ℕ) (pre xs post : List ℕ) → length pre ≡ at → p ≡ at + k → drop p (pre ++ xs ++ post) ≡ drop k (xs ++ post)
drop_within at k p pre xs post len place =
    ap (λ (i : ℕ). drop i (pre ++ xs ++ post)) place
    ∙ sym (drop-drop k at (pre ++ xs ++ post))
    ∙ ap (drop k) (ap (drop at) (append_assoc pre xs post) ∙ drop_at pre (xs ++ post) at len)

-- a field of a record that is between two lists
pub num_within : (at k p w : ℕ) (pre xs post : List ℕ) → length pre ≡ at → p ≡ at + k
    → num (pre ++ xs ++ post) p w ≡ number_of (take w (drop k (xs ++ post)))
unfolding num
num_within at k p w pre xs post len place = ap (λ (ys : List ℕ). number_of (take w ys)) (drop_within at k p pre xs post len place)

-- a number that fits in w bytes is read back from its place between two lists
pub num_back : (at k p w n : ℕ) (pre xs post : List ℕ) → length pre ≡ at → p ≡ at + k → take w (drop k (xs ++ post)) ≡ bytes_of w n → n < 256 ^ w
    → num (pre ++ xs ++ post) p w ≡ n
num_back at k p w n pre xs post len place field fits =
    num_within at k p w pre xs post len place ∙ ap number_of field ∙ number_of-bytes_of w n fits
