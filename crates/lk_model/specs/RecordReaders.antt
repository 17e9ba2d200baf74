-- Readers of lists of records (this project's own): of records that are looked at beside those before
-- them, and what a head's counts say of the bytes after it. A count that does not fit is a fault of its
-- head, before any fault of the rows that follow.
use Rattle.std.specs.Prelude.{ℕ, zero, suc, ◌*◌, ◌==◌, Bool, true, false, List, [], ◌∷◌, ◌++◌, length, drop, Option, Some, None, Result, Ok, Err, nat_le, if◌then◌else◌}
use Rattle.lk_model.specs.RecordForms.{Given, given_then}

module _ {X : Type 0} where
  -- a row that passes a test
  abbrev pub passing : (X → Bool) → Option X → Option X
  passing test None = None
  passing test (Some x) = if test x then Some x else None

  -- these records and so many more, each read with those before it
  abbrev pub read_among : (List X → List ℕ → Given X) → List X → ℕ → List ℕ → Given (List X)
  read_among one before zero bytes = Ok (before, bytes)
  read_among one before (suc n) bytes =
      given_then (one before bytes) (λ x rest. read_among one (before ++ x ∷ []) n rest)

  -- all of a section's bytes are used; else the number of bytes left over
  abbrev pub finished : Given X → Result X ℕ
  finished (Err left) = Err left
  finished (Ok (x, [])) = Ok x
  finished (Ok (x, b ∷ bs)) = Err (length (b ∷ bs))

-- the bytes after a list, or the number of bytes left at the head whose counts do not fit
abbrev pub After : Type 0
After = Result (List ℕ) ℕ

abbrev pub after_then : After → (List ℕ → After) → After
after_then (Err left) f = Err left
after_then (Ok rest) f = f rest

-- after so many records of this width; `left` is the number of bytes left at their head
abbrev pub after_rows : ℕ → ℕ → ℕ → List ℕ → After
after_rows left width count bytes = if nat_le (count * width) (length bytes) then Ok (drop (count * width) bytes) else Err left

-- after so many records that have heads of this width
abbrev pub after_many : ℕ → ℕ → (List ℕ → After) → ℕ → List ℕ → After
after_many left width one zero bytes = Ok bytes
after_many left width one (suc n) bytes = elim (nat_le (suc n * width) (length bytes)) [
  | true ↦ after_then (one bytes) (λ rest. after_many left width one n rest)
  | false ↦ Err left
]

-- whether the fault is that of the head at which so many bytes are left
abbrev pub is_fault_at : ℕ → After → Bool
is_fault_at left (Ok rest) = false
is_fault_at left (Err other) = other == left

module _ {X : Type 0} where
  -- a record with a head whose counts fit
  abbrev pub counted : After → List ℕ → Given X → Given X
  counted after bytes given = if is_fault_at (length bytes) after then Err (length bytes) else given
