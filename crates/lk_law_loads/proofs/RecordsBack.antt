-- Records of one width, one after another, are read back one by one.
use Rattle.std.specs.Prelude.{◌≡◌, ℕ, List, [], ◌∷◌, ◌++◌, ◌+◌, ◌*◌, flat_map, length, map, refl}
use Rattle.std.specs.List.{range_with_len}
use Rattle.std.proofs.Common.{ap, append_assoc, arith, length-append, sym, ◌∙◌}

-- as many bytes as records, each of one width
pub flat_length : {X : Type 0} (w : ℕ) (spelled : X → List ℕ) → ((x : X) → length (spelled x) ≡ w) → (xs : List X) → length (flat_map spelled xs) ≡ w * length xs
flat_length w spelled wide [] = grind (arith)
flat_length w spelled wide (x ∷ xs) = length-append (spelled x) (flat_map spelled xs) ∙ rw (wide x) (rw (flat_length w spelled wide xs) (grind (arith)))

module _ {X Y : Type 0} where
  -- each record behind a list and before another reads back as that
  abbrev pub ReadsAs : (X → List ℕ) → (List ℕ → ℕ → Y) → (X → Y) → Type 0
  ReadsAs spelled read shown = (at : ℕ) (pre post : List ℕ) (x : X) → length pre ≡ at → read (pre ++ spelled x ++ post) at ≡ shown x

  records_from :
      (w : ℕ) (spelled : X → List ℕ) (read : List ℕ → ℕ → Y) (shown : X → Y)
      → ((x : X) → length (spelled x) ≡ w)
      → ReadsAs spelled read shown
      → (pre : List ℕ) (xs : List X) (k : ℕ)
      → length pre ≡ w * k
      → map (λ j. read (pre ++ flat_map spelled xs) (w * j)) (range_with_len k (length xs)) ≡ map shown xs
  records_from w spelled read shown wide back pre [] k long = refl
  records_from w spelled read shown wide back pre (x ∷ xs) k long =
      let rest : List ℕ = flat_map spelled xs in
      let first : read ((pre ++ spelled x) ++ rest) (w * k) ≡ shown x = back (w * k) pre rest x long in
      let shape : pre ++ (spelled x ++ rest) ≡ (pre ++ spelled x) ++ rest = sym (append_assoc pre (spelled x) rest) in
      let here : length (spelled x) ≡ w = wide x in
      let sum = length-append pre (spelled x) in
      let more : w * (k + 1) ≡ w * k + w = grind (arith) in
      let longer : length (pre ++ spelled x) ≡ w * (k + 1) = omega (arith, sum, long, here, more) in
      let next = records_from w spelled read shown wide back (pre ++ spelled x) xs (k + 1) longer in
      ap (λ l. map (λ j. read l (w * j)) (range_with_len k (length (x ∷ xs)))) shape
      ∙ (ap (λ y. y ∷ map (λ j. read ((pre ++ spelled x) ++ rest) (w * j)) (range_with_len (k + 1) (length xs))) first
      ∙ ap (λ ys. shown x ∷ ys) next)

  -- all records of a table
  pub records_back :
      (w : ℕ) (spelled : X → List ℕ) (read : List ℕ → ℕ → Y) (shown : X → Y)
      → ((x : X) → length (spelled x) ≡ w)
      → ReadsAs spelled read shown
      → (xs : List X)
      → map (λ j. read (flat_map spelled xs) (w * j)) (range_with_len 0 (length xs)) ≡ map shown xs
  records_back w spelled read shown wide back xs = records_from w spelled read shown wide back [] xs 0 (grind (arith))
