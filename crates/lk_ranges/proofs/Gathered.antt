-- A range that is handed back is inserted behind those that begin where it does or before.
use Rattle.std.proofs.Common.{◌≡◌, ℕ, zero, suc, ◌+◌, ◌<◌, ◌≤◌, Bool, true, false, cond, if◌then◌else◌, List, [], ◌∷◌, ◌++◌, length, take, drop, get_or, refl, sym, ap, ◌∙◌, arith}
use Rattle.std.specs.List.{insert, AllWithin}
use Rattle.std.specs.List.Sorted.{IsNonDecreasingBy, IsPartitionPoint}
use Rattle.std.proofs.lemmas.Bool.{cond-true, cond-false, leb-true, leb-false}
use Rattle.std.proofs.lemmas.List.Sorted.{IsNonDecreasingBy-insert}
use Rattle.lk_ranges.specs.Stretches.{Stretch, start_of, begins_by, handed_back}

pub had_room : (done : Bool) (longer old : List Stretch) → done ≡ true → (if done then longer else old) ≡ longer
had_room done longer old room = ap (λ b. if b then longer else old) room

pub handed_at : (xs : List Stretch) (s : Stretch) (at : ℕ) → at ≤ length xs → ((k : ℕ) (d : Stretch) → k < at → begins_by s.start (get_or xs k d) ≡ true) → ((k : ℕ) (d : Stretch) → at ≤ k → k < length xs → begins_by s.start (get_or xs k d) ≡ false) → insert xs at s ≡ handed_back xs s
handed_at [] s zero l below above = refl
handed_at [] s (suc at) l below above = absurd (omega arith)
handed_at (x ∷ xs) s zero l below above = sym (cond-false (begins_by s.start x) (x ∷ handed_back xs s) (s ∷ x ∷ xs) (above 0 x (omega arith) (omega arith)))
handed_at (x ∷ xs) s (suc at) l below above =
    ap (λ (ys : List Stretch). x ∷ ys) (handed_at xs s at (omega arith) (λ k d h. below (suc k) d (omega arith)) (λ k d low high. above (suc k) d (omega arith) (omega arith)))
    ∙ sym (cond-true (begins_by s.start x) (x ∷ handed_back xs s) (s ∷ x ∷ xs) (below 0 x (omega arith)))

pub handed_parted : (xs : List Stretch) (s : Stretch) (at : ℕ) → at ≤ length xs → IsPartitionPoint (λ (r : Stretch). begins_by s.start r ≡ true) (λ (r : Stretch). begins_by s.start r ≡ false) xs at → insert xs at s ≡ handed_back xs s
handed_parted xs s at l parted = handed_at xs s at l (λ k d h. parted.0 k d (omega arith) h) (λ k d low high. parted.1 k d low high)

-- how many begin at an offset or before it
abbrev count_by : ℕ → List Stretch → ℕ
count_by at [] = 0
count_by at (x ∷ xs) = cond (begins_by at x) (suc (count_by at xs)) 0

handed_count : (xs : List Stretch) (s : Stretch) → handed_back xs s ≡ insert xs (count_by s.start xs) s
handed_count [] s = refl
handed_count (x ∷ xs) s = go (begins_by s.start x) (handed_count xs s)
  where
    go : (b : Bool) → handed_back xs s ≡ insert xs (count_by s.start xs) s → cond b (x ∷ handed_back xs s) (s ∷ x ∷ xs) ≡ insert (x ∷ xs) (cond b (suc (count_by s.start xs)) 0) s
    go true later = ap (λ (ys : List Stretch). x ∷ ys) later
    go false later = refl

count_within : (at : ℕ) (xs : List Stretch) → count_by at xs ≤ length xs
count_within at [] = omega arith
count_within at (x ∷ xs) = go (begins_by at x) (count_within at xs)
  where
    go : (b : Bool) → count_by at xs ≤ length xs → cond b (suc (count_by at xs)) 0 ≤ suc (length xs)
    go true h = omega arith
    go false h = omega arith

count_below : (at : ℕ) (xs : List Stretch) (k : ℕ) (d : Stretch) → k < count_by at xs → start_of (get_or xs k d) ≤ at
count_below at [] k d l = absurd (omega arith)
count_below at (x ∷ xs) k d l = go (begins_by at x) refl k l (λ j h. count_below at xs j d h)
  where
    go : (b : Bool) → begins_by at x ≡ b → (k : ℕ) → k < cond b (suc (count_by at xs)) 0 → ((j : ℕ) → j < count_by at xs → start_of (get_or xs j d) ≤ at) → start_of (get_or (x ∷ xs) k d) ≤ at
    go true e zero h later = leb-true x.start at e
    go true e (suc k) h later = later k (omega arith)
    go false e k h later = absurd (omega arith)

count_above : (at : ℕ) (xs : List Stretch) (k : ℕ) (d : Stretch) → IsNonDecreasingBy start_of xs → count_by at xs ≤ k → k < length xs → at ≤ start_of (get_or xs k d)
count_above at [] k d rising low high = absurd (omega arith)
count_above at (x ∷ xs) k d rising low high = go (begins_by at x) refl k low high (λ j l h. count_above at xs j d (λ i m e a b. rising (suc i) (suc m) e (omega arith) (omega arith)) l h)
  where
    go : (b : Bool) → begins_by at x ≡ b → (k : ℕ) → cond b (suc (count_by at xs)) 0 ≤ k → k < suc (length xs) → ((j : ℕ) → count_by at xs ≤ j → j < length xs → at ≤ start_of (get_or xs j d)) → at ≤ start_of (get_or (x ∷ xs) k d)
    go true e zero l h later = absurd (omega arith)
    go true e (suc k) l h later = later k (omega arith) (omega arith)
    go false e k l h later =
        let first : at < x.start = leb-false x.start at e in
        let order : x.start ≤ start_of (get_or (x ∷ xs) k d) = rising 0 k d (omega arith) h in
        omega arith

-- the ranges are by rising start with one more too
pub handed_rises : (xs : List Stretch) (s : Stretch) → IsNonDecreasingBy start_of xs → IsNonDecreasingBy start_of (handed_back xs s)
handed_rises xs s rising =
    rw (handed_count xs s) (IsNonDecreasingBy-insert start_of xs (count_by s.start xs) s rising (count_within s.start xs) (λ k d h. count_below s.start xs k d h) (λ k d low high. count_above s.start xs k d rising low high))
