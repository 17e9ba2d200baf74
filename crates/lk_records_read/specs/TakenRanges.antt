-- Ranges that are taken (this project's own): each by its end and its start, in rising order. None is empty, and no
-- two share a byte.
use Rattle.std.specs.Prelude.{◌≡◌, ℕ, ◌+◌, ◌<◌, ◌≤◌, ◌==◌, ◌&&◌, ◌||◌, Bool, true, false, List, [], ◌∷◌, Result, Ok, Err, nat_le, ⊤}
use Rattle.std.specs.List.{list_all}
use Rattle.lk_model.specs.Lawful.{share_nothing}
use Rattle.lk_report.specs.declared.memory.NoMemory.{NoMemory}

-- whether the bytes from a start to an end are apart from a range that is taken
abbrev pub is_apart : ℕ → ℕ → ℕ × ℕ → Bool
is_apart start end range = nat_le range.0 start || nat_le end range.1

-- whether they are apart from all that are taken
abbrev pub is_free : List (ℕ × ℕ) → ℕ → ℕ → Bool
is_free ranges start end = list_all (is_apart start end) ranges

-- the same of so many bytes
abbrev pub are_free : List (ℕ × ℕ) → ℕ → ℕ → Bool
are_free ranges start size = (size == 0) || is_free ranges start (start + size)

-- each range from the end of the one before it on
abbrev pub Rising : ℕ → List (ℕ × ℕ) → Type 0
Rising from [] = ⊤
Rising from (range ∷ ranges) = (from ≤ range.1) × (range.1 < range.0) × Rising range.0 ranges

-- these bytes are taken beside those that were before
abbrev pub AreTaken : List (ℕ × ℕ) → ℕ → ℕ → List (ℕ × ℕ) → Type 0
AreTaken old start size new = (s z : ℕ) → are_free new s z ≡ (are_free old s z && share_nothing s z start size)

-- whether so many bytes are apart from those that are taken, and are taken then; or out of memory
abbrev pub TakeAnswers : List (ℕ × ℕ) → ℕ → ℕ → Result Bool NoMemory → List (ℕ × ℕ) → Type 0
TakeAnswers old start size (Ok true) new = (are_free old start size ≡ true) × AreTaken old start size new
TakeAnswers old start size (Ok false) new = are_free old start size ≡ false
TakeAnswers old start size (Err e) new = ⊤

-- so many bytes are taken where they count at all
abbrev pub CountedAnswers : Bool → List (ℕ × ℕ) → ℕ → ℕ → Result Bool NoMemory → List (ℕ × ℕ) → Type 0
CountedAnswers true old start size result new = TakeAnswers old start size result new
CountedAnswers false old start size result new = (result ≡ Ok true) × (new ≡ old)

module _ {X : Type 0} where
  -- of all items that count, the bytes are taken
  abbrev pub AreNoted : (X → Bool) → (X → ℕ) → (X → ℕ) → (X → X → Bool) → List (ℕ × ℕ) → List X → Type 0
  AreNoted counts start size apart ranges before =
      (x : X) → counts x ≡ true → are_free ranges (start x) (size x) ≡ list_all (apart x) before
