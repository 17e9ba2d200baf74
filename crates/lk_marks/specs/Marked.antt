-- Marks by number: which of the numbers 0, 1, 2 .. are marked (this project's own).
use Rattle.std.specs.Prelude.{ℕ, Bool, false, true, List, map, nat_eq, slice_get, slice_set, unwrap_or}
use Rattle.std.specs.List.{list_any, range_with_len}

-- whether a number is marked; one past the last mark is not
abbrev pub is_marked : List Bool → ℕ → Bool
is_marked marks n = unwrap_or (slice_get marks n) false

-- the marks with one number more; a number past the last mark is left out
abbrev pub with_mark : List Bool → ℕ → List Bool
with_mark marks n = slice_set marks n true

-- for each number below a count, whether it is one of these
abbrev pub marks_of : List ℕ → ℕ → List Bool
marks_of numbers count = map (λ n. list_any (nat_eq n) numbers) (range_with_len 0 count)
