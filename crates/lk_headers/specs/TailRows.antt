-- The tail of an image by the rows of its parts (own): the name, the file offset and the size of each.
-- The section headers follow the last part.
use Rattle.std.specs.Prelude.{ℕ, ◌+◌, List, [], ◌∷◌, length, map}
use Rattle.lk_model.specs.Amounts.{round_up}
use Rattle.lk_model.specs.FullPlace.{tail_start}
use Rattle.lk_model.specs.Tail.{Part, parts_from, part_row}
use Rattle.lk_model.specs.declared.layouts.Placement.{Placement}
use Rattle.lk_model.specs.declared.layouts.SectionRow.{SectionRow}

-- the rows of the parts of a tail, each at the next multiple of 8
abbrev pub rows_of_parts : Placement → List Part → List SectionRow
rows_of_parts place parts = map part_row (parts_from (tail_start place) parts)

-- where the last of these rows ends in the file; without a row, where the tail begins
abbrev pub last_end : ℕ → List SectionRow → ℕ
last_end begin [] = begin
last_end begin (row ∷ rows) = last_end (row.offset + row.size) rows

-- the file offset of the section headers
abbrev pub headers_at : Placement → List SectionRow → ℕ
headers_at place tail = round_up (last_end (tail_start place) tail) 8

-- the number of the last section, which holds the names; the null section comes first
abbrev pub last_number : Placement → List SectionRow → ℕ
last_number place tail = length place.sections + length tail
