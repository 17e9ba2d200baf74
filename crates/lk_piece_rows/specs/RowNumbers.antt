-- The rows of placed input sections by number (this project's own): the sections of all inputs are in one dense list,
-- one input after another, each with the number of its row.
use Rattle.std.specs.Prelude.{◌≡◌, ℕ, ◌+◌, ◌-◌, ◌<◌, ◌≤◌, ◌^◌, ◌==◌, nat_lt, cond, max, List, [], ◌∷◌, find, get_or, slice_get, Option, Some, None}
use Rattle.lk_model.specs.Keys.{piece_row_of, same_piece}
use Rattle.lk_model.specs.declared.layouts.PieceId.{PieceId}
use Rattle.lk_model.specs.declared.layouts.PieceId.TheVariants as id
use Rattle.lk_model.specs.declared.layouts.PieceRow.{PieceRow}
use Rattle.lk_model.specs.declared.layouts.Placement.{Placement}
use Rattle.lk_piece_rows.specs.declared.section_ranges.SectionRange.{SectionRange}

-- the row that a list has for a section of an input
abbrev pub row_among : List PieceRow → ℕ → ℕ → Option PieceRow
row_among rows input section = find (λ (row : PieceRow). same_piece row.piece (id.Section input section)) rows

-- how many sections an input has at least, where a piece is placed
abbrev pub sections_with : PieceId → ℕ → ℕ
sections_with (id.Section i s) n = cond (i == n) (s + 1) 0
sections_with (id.Common m) n = 0
sections_with (id.Copy m) n = 0

-- how many sections an input has, up to the last one that is placed
abbrev pub section_count : List PieceRow → ℕ → ℕ
section_count [] n = 0
section_count (row ∷ rows) n = max (sections_with row.piece n) (section_count rows n)

-- the ranges of inputs with these counts of sections, where the first begins at an index, and the end of the last
abbrev pub ranges_from : ℕ → List ℕ → List SectionRange
ranges_from at [] = []
ranges_from at (c ∷ cs) = record { start = at; count = c } ∷ ranges_from (at + c) cs

abbrev pub ranges_end : ℕ → List ℕ → ℕ
ranges_end at [] = at
ranges_end at (c ∷ cs) = ranges_end (at + c) cs

-- ranges are one after another, from an index to an end
abbrev pub AreConsecutive : ℕ → List SectionRange → ℕ → Type 0
AreConsecutive at [] end = at ≡ end
AreConsecutive at (r ∷ rs) end = (r.start ≡ at) × AreConsecutive (at + r.count) rs end

-- the indices in ranges are numbers of 64 bits
abbrev pub Fit : List SectionRange → Type 0
Fit ranges = (n : ℕ) (r : SectionRange) → slice_get ranges n ≡ Some r → r.start + r.count < 2 ^ 64

-- how many sections an input has in its range
abbrev pub count_of : Option SectionRange → ℕ
count_of None = 0
count_of (Some r) = r.count

abbrev pub count_in : List SectionRange → ℕ → ℕ
count_in ranges n = count_of (slice_get ranges n)

-- the ranges have each section that rows place
abbrev pub Reach : List SectionRange → List PieceRow → Type 0
Reach ranges rows = (n : ℕ) → section_count rows n ≤ count_in ranges n

-- the index of a section
abbrev pub index_of : Option SectionRange → ℕ → Option ℕ
index_of None section = None
index_of (Some r) section = cond (nat_lt section r.count) (Some (r.start + section)) None

abbrev pub index_in : List SectionRange → ℕ → ℕ → Option ℕ
index_in ranges input section = index_of (slice_get ranges input) section

-- the number at an index; 0 without one
abbrev pub number_at : List ℕ → Option ℕ → ℕ
number_at numbers None = 0
number_at numbers (Some index) = get_or numbers index 0

abbrev pub number_in : List SectionRange → List ℕ → ℕ → ℕ → ℕ
number_in ranges numbers input section = number_at numbers (index_in ranges input section)

-- the row with a number, counted from 1
abbrev pub row_numbered : List PieceRow → ℕ → Option PieceRow
row_numbered rows number = cond (number == 0) None (slice_get rows (number - 1))

-- the numbers give of each section the row that a placement has for it
pub record AreRowsOf (ranges : List SectionRange) (numbers : List ℕ) (place : Placement) : Type 0 where
  pub fit : Fit ranges
  pub found : (input section : ℕ) → row_numbered place.pieces (number_in ranges numbers input section) ≡ piece_row_of place (id.Section input section)
