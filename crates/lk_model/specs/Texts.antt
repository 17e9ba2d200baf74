-- Tables of texts, as string sections are (gABI "String Table"): each text ends with a zero, offset 0
-- is the empty text, and each distinct text is once in order of first use.
use Rattle.std.specs.Prelude.{ℕ, ◌+◌, Bool, List, [], ◌∷◌, ◌++◌, length, fold, take, drop, Option, Some, None, nat_lt, if◌then◌else◌, ◌==◌, position, slice_index, ◌-◌, ◌||◌}
use Rattle.std.specs.List.{list_any, flat_map}
use Rattle.std.specs.Str.{bytes_eq}

-- a table with one more text, where it does not have it
abbrev pub with_text : List (List ℕ) → List ℕ → List (List ℕ)
with_text table t = if list_any (bytes_eq t) table then table else table ++ t ∷ []

-- the table of these texts, which begins with the empty one
abbrev pub table_of : List (List ℕ) → List (List ℕ)
table_of texts = fold with_text ([] ∷ []) texts

-- where a text is in the bytes of a table; the end of the table for one that it does not have
abbrev pub offset_from : ℕ → List (List ℕ) → List ℕ → ℕ
offset_from at [] t = at
offset_from at (x ∷ xs) t = if bytes_eq t x then at else offset_from (at + length x + 1) xs t

abbrev pub offset_in : List (List ℕ) → List ℕ → ℕ
offset_in table t = offset_from 0 table t

-- the bytes of a table
abbrev pub ended : List ℕ → List ℕ
ended t = t ++ 0 ∷ []

unfoldable pub table_bytes : List (List ℕ) → List ℕ
table_bytes table = flat_map ended table

-- the text that begins at an offset of a string section: it begins the section or follows a zero, and
-- its closing zero is there
abbrev pub begins_text : List ℕ → ℕ → Bool
begins_text bytes offset = (offset == 0) || (slice_index bytes (offset - 1) == 0)

abbrev pub text_at : List ℕ → ℕ → Option (List ℕ)
text_at bytes offset =
    if nat_lt offset (length bytes) then
    (if begins_text bytes offset then
    (let rest = drop offset bytes in elim (position (λ b. b == 0) rest) [ None ↦ None | Some n ↦ Some (take n rest) ])
    else None)
    else None
