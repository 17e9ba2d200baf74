-- The rows of the parts of a tail have the names and lengths of the parts.
use Rattle.std.proofs.Common.{◌≡◌, ℕ, suc, ◌+◌, List, [], ◌∷◌, ◌++◌, Option, None, Some, refl, ap, ◌∙◌, length, map}
use Rattle.std.specs.Prelude.{codes, cond, if◌then◌else◌, nat_lt, not}
use Rattle.std.specs.List.{flat_map, position_or_len}
use Rattle.std.specs.Str.{bytes_eq}
use Rattle.lk_elf.specs.Records.{shdr_bytes}
use Rattle.lk_model.specs.Amounts.{round_up}
use Rattle.lk_model.specs.FileHeader.{file_header, header_bytes}
use Rattle.lk_model.specs.FullPlace.{tail_start}
use Rattle.lk_model.specs.Tail.{Part, PlacedPart, null_header, part_header, part_name, part_number, part_row, parts_end, parts_from, row_header, row_name, section_headers}
use Rattle.lk_model.specs.Texts.{offset_in, table_of}
use Rattle.lk_model.specs.declared.layouts.Placement.{Placement}
use Rattle.lk_model.specs.declared.layouts.SectionRow.{SectionRow}
use Rattle.lk_headers.specs.Front.{front_bytes, front_header}
use Rattle.lk_headers.specs.HeaderLaws.{FrontIsTheModels, HeadersAreThere, SectionBytesAreTheModels, SectionsAreTheModels}
use Rattle.lk_headers.specs.SectionTable.{header_of_part, header_of_row, links_of, names_of, section_table, section_table_bytes, tail_number}
use Rattle.lk_headers.specs.declared.links.Links.{Links}
use Rattle.lk_headers.specs.TailRows.{last_end, rows_of_parts}

-- rows of parts from any place
abbrev rows_at : ℕ → List Part → List SectionRow
rows_at at parts = map part_row (parts_from at parts)

end_at : (at : ℕ) (parts : List Part) → last_end at (rows_at at parts) ≡ parts_end at parts
end_at at [] = refl
end_at at (p ∷ ps) = end_at (round_up at 8 + length p.bytes) ps

long_at : (at : ℕ) (parts : List Part) → length (rows_at at parts) ≡ length parts
long_at at [] = refl
long_at at (p ∷ ps) = ap suc (long_at (round_up at 8 + length p.bytes) ps)

names_at : (at : ℕ) (parts : List Part) → map row_name (rows_at at parts) ≡ map part_name parts
names_at at [] = refl
names_at at (p ∷ ps) = ap (λ l. p.name ∷ l) (names_at (round_up at 8 + length p.bytes) ps)

pub are_there : HeadersAreThere
are_there place parts = ap (λ n. round_up n 8) (end_at (tail_start place) parts)

first_at : (name : List ℕ) (at : ℕ) (parts : List Part) →
    position_or_len (λ (row : SectionRow). bytes_eq row.key.name name) (rows_at at parts) ≡ position_or_len (λ (part : Part). bytes_eq part.name name) parts
first_at name at [] = refl
first_at name at (p ∷ ps) =
    ap (λ (n : ℕ). if not (bytes_eq p.name name) then 1 + n else 0) (first_at name (round_up at 8 + length p.bytes) ps)

number_at : (place : Placement) (parts : List Part) (name : List ℕ) → tail_number place (rows_of_parts place parts) name ≡ part_number place parts name
number_at place parts name =
    let found : Option ℕ → ℕ = λ o. elim o [ None ↦ 0 | Some n ↦ length place.sections + n + 1 ] in
    ap (λ (n : ℕ). found (cond (nat_lt n (length (rows_of_parts place parts))) (Some n) None)) (first_at name (tail_start place) parts)
    ∙ ap (λ (long : ℕ). found (cond (nat_lt (position_or_len (λ (part : Part). bytes_eq part.name name) parts) long) (Some (position_or_len (λ (part : Part). bytes_eq part.name name) parts)) None)) (long_at (tail_start place) parts)

pub front : FrontIsTheModels
unfolding front_bytes front_header header_bytes file_header
front r place parts =
    rw (are_there place parts, long_at (tail_start place) parts) refl

-- the headers of placed parts
parts_headed : (place : Placement) (parts : List Part) (names : List (List ℕ)) (links : Links) (placed : List PlacedPart) → links.tail_texts ≡ part_number place parts (codes ".strtab")
    → map (header_of_part names links) (map part_row placed) ≡ map (λ p. part_header place parts (offset_in names) (part_row p)) placed
unfolding header_of_part
parts_headed place parts names links [] same = refl
parts_headed place parts names links (p ∷ ps) same =
    let more = parts_headed place parts names links ps same in
    rw (same, more) refl

-- the headers of the output sections
rows_headed : (place : Placement) (tail : List SectionRow) (names : List (List ℕ)) (rows : List SectionRow)
    → map (header_of_row names (links_of place tail)) rows ≡ map (row_header place (offset_in names)) rows
unfolding header_of_row links_of
rows_headed place tail names [] = refl
rows_headed place tail names (row ∷ rows) = ap (λ l. row_header place (offset_in names) row ∷ l) (rows_headed place tail names rows)

names_same : (place : Placement) (parts : List Part) → names_of place (rows_of_parts place parts) ≡ table_of (map row_name place.sections ++ map part_name parts)
names_same place parts = ap (λ l. table_of (map row_name place.sections ++ l)) (names_at (tail_start place) parts)

tail_texts_same : (place : Placement) (parts : List Part) → (links_of place (rows_of_parts place parts)).tail_texts ≡ part_number place parts (codes ".strtab")
unfolding links_of
tail_texts_same place parts = number_at place parts (codes ".strtab")

pub sections : SectionsAreTheModels
unfolding section_table section_headers
sections place parts =
    let tail : List SectionRow = rows_of_parts place parts in
    let names : List (List ℕ) = table_of (map row_name place.sections ++ map part_name parts) in
    ap (λ ns. null_header ∷ (map (header_of_row ns (links_of place tail)) place.sections ++ map (header_of_part ns (links_of place tail)) tail)) (names_same place parts)
    ∙ ap (λ l. null_header ∷ (l ++ map (header_of_part names (links_of place tail)) tail)) (rows_headed place tail names place.sections)
    ∙ ap (λ l. null_header ∷ (map (row_header place (offset_in names)) place.sections ++ l)) (parts_headed place parts names (links_of place tail) (parts_from (tail_start place) parts) (tail_texts_same place parts))

pub section_bytes : SectionBytesAreTheModels
unfolding section_table_bytes
section_bytes place parts = ap (flat_map shdr_bytes) (sections place parts)
