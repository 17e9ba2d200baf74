-- The reading of `.gnu_incremental_strtab` with its refusals (this project's own; gABI "String Table"):
-- a text for each zero; no text is twice, and nothing follows the last zero.
use Rattle.std.specs.Prelude.{ℕ, ◌+◌, ◌==◌, Bool, List, [], length, drop, Result, Ok, Err, if◌then◌else◌, bytes_eq, count_by}
use Rattle.std.specs.List.{list_any, before_first}
use Rattle.lk_model.specs.RecordForms.{Given}
use Rattle.lk_model.specs.RecordReaders.{read_among, finished}

-- whether a byte ends a text
abbrev pub is_end : ℕ → Bool
is_end b = b == 0

-- a text, after these
abbrev pub checked_text : List (List ℕ) → List ℕ → Given (List ℕ)
checked_text before bytes =
    let t = before_first is_end bytes in
    if list_any (bytes_eq t) before then Err (length bytes) else Ok (t, drop (length t + 1) bytes)

-- the texts in their order
unfoldable pub texts_read : List ℕ → Result (List (List ℕ)) ℕ
texts_read bytes = finished (read_among checked_text [] (count_by is_end bytes) bytes)
