-- The tail that is put together is lk_model's.
use Rattle.std.proofs.Common.{◌≡◌, refl, ap, ◌∙◌}
use Rattle.std.specs.Prelude.{ℕ, ◌+◌, List, [], ◌∷◌, ◌++◌, length, map}
use Rattle.std.specs.List.{flat_map}
use Rattle.lk_elf.specs.Records.{shdr_bytes}
use Rattle.lk_model.specs.Amounts.{round_up}
use Rattle.lk_model.specs.Answers.{length_with}
use Rattle.lk_model.specs.FullPlace.{file_end}
use Rattle.lk_model.specs.Tail.{Part, headers_offset, part_row, parts_end, parts_from, section_headers}
use Rattle.lk_model.specs.declared.layouts.Placement.{Placement}
use Rattle.lk_model.specs.declared.layouts.SectionRow.{SectionRow}
use Rattle.lk_headers.specs.SectionTable.{section_table_bytes}
use Rattle.lk_headers.specs.TailRows.{rows_of_parts}
use Rattle.lk_headers.proofs.ModelRows.{section_bytes}
use Rattle.lk_law_writes.proofs.TailRises.{length_section_headers}
use Rattle.lk_image.specs.declared.placed_tails.PlacedTail.{PlacedTail}
use Rattle.lk_image.specs.Tails.{placed_tail}

put_one : {A : Type 0} (xs : List A) (x : A) (zs : List A) → (xs ++ x ∷ []) ++ zs ≡ xs ++ x ∷ zs
put_one [] x zs = refl
put_one (y ∷ xs) x zs = ap (λ l. y ∷ l) (put_one xs x zs)

-- one part more
pub rows_more : (rows : List SectionRow) (row : SectionRow) (end offset next : ℕ) (part : Part) (parts : List Part)
    → offset ≡ round_up end 8
    → row ≡ part_row (record { part = part; offset = offset })
    → next ≡ offset + length part.bytes
    → (rows ++ row ∷ []) ++ map part_row (parts_from next parts) ≡ rows ++ map part_row (parts_from end (part ∷ parts))
rows_more rows row end offset next part parts at is more =
    let row_is : row ≡ part_row (record { part = part; offset = round_up end 8 }) = is ∙ ap (λ (k : ℕ). part_row (record { part = part; offset = k })) at in
    let next_is : next ≡ round_up end 8 + length part.bytes = more ∙ ap (λ (k : ℕ). k + length part.bytes) at in
    (λ i. (rows ++ row_is i ∷ []) ++ map part_row (parts_from (next_is i) parts))
    ∙ put_one rows (part_row (record { part = part; offset = round_up end 8 })) (map part_row (parts_from (round_up end 8 + length part.bytes) parts))

pub tail_placed : (place : Placement) (parts : List Part) (start end headers_at size : ℕ) (rows : List SectionRow) (headers : List ℕ)
    → start ≡ file_end place.sections
    → rows ≡ map part_row (parts_from start parts)
    → end ≡ parts_end start parts
    → headers ≡ section_table_bytes place rows
    → headers_at ≡ round_up end 8
    → size ≡ headers_at + length headers
    → ◌≡◌ {A = PlacedTail} (record { start = start; parts = parts; rows = rows; headers_at = headers_at; headers = headers; length = size }) (placed_tail place parts)
tail_placed place parts start end headers_at size rows headers start_is rows_are end_is headers_are at_is size_is =
    let rows_reported : rows ≡ rows_of_parts place parts = rows_are ∙ ap (λ (k : ℕ). map part_row (parts_from k parts)) start_is in
    let headers_reported : headers ≡ flat_map shdr_bytes (section_headers place parts) = headers_are ∙ ap (section_table_bytes place) rows_reported ∙ section_bytes place parts in
    let at_reported : headers_at ≡ headers_offset place parts = at_is ∙ ap (λ (k : ℕ). round_up k 8) (end_is ∙ ap (λ (k : ℕ). parts_end k parts) start_is) in
    let size_reported : size ≡ length_with place parts =
    size_is ∙ (λ i. at_reported i + length (headers_reported i)) ∙ ap (λ (k : ℕ). headers_offset place parts + k) (length_section_headers place parts) in
    λ i. record { start = start_is i; parts = parts; rows = rows_reported i; headers_at = at_reported i; headers = headers_reported i; length = size_reported i }
