-- A string table as a map from each text to its offset (gABI "String Table"): the texts in order of first
-- use, each with the number of bytes before it.
use Rattle.std.specs.Prelude.{◌≡◌, ℕ, ◌+◌, List, [], ◌∷◌, length, map}
use Rattle.std.specs.Borrow.{Bor}
use Rattle.lk_model.specs.Texts.{table_bytes}

-- the texts of entries
abbrev pub texts_in : List (Bor (List ℕ) × ℕ) → List (List ℕ)
texts_in entries = map (λ (e : Bor (List ℕ) × ℕ). e.0.now) entries

-- each text's offset is the number of bytes before it, where the first is here
abbrev pub OffsetsAre : ℕ → List (Bor (List ℕ) × ℕ) → Type 0
OffsetsAre at [] = Unit {0}
OffsetsAre at (e ∷ es) = (e.1 ≡ at) × OffsetsAre (at + length e.0.now + 1) es

-- each entry has its text's offset, and the texts have so many bytes
pub record IsStringTable (entries : List (Bor (List ℕ) × ℕ)) (size : ℕ) : Type 0 where
  pub offsets : OffsetsAre 0 entries
  pub size_is : size ≡ length (table_bytes (texts_in entries))
