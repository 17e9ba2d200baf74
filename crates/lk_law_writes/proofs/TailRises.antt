-- The parts of a tail rise, and the section headers end the image.
use Rattle.std.specs.Prelude.{◌≡◌, ℕ, ◌+◌, ◌*◌, ◌≤◌, List, [], ◌∷◌, ◌++◌, flat_map, length, map, refl}
use Rattle.std.specs.List.{AllByRecursion}
use Rattle.std.proofs.Common.{ap, arith, ◌∙◌}
use Rattle.std.proofs.lemmas.List.{length-append, length-map}
use Rattle.lk_elf.specs.Fields.{bytes_of}
use Rattle.lk_elf.specs.Records.{ehdr_bytes, phdr_bytes, shdr_bytes}
use Rattle.lk_elf.specs.declared.program_header.Phdr.{Phdr}
use Rattle.lk_elf.specs.declared.section_header.Shdr.{Shdr}
use Rattle.lk_model.specs.Amounts.{round_up}
use Rattle.lk_model.specs.FileHeader.{exec_stack_of, file_header, header_bytes}
use Rattle.lk_model.specs.FullPlace.{tail_start}
use Rattle.lk_model.specs.Images.{part_stretch}
use Rattle.lk_model.specs.Segments.{program_headers}
use Rattle.lk_model.specs.Stretches.{Stretch}
use Rattle.lk_model.specs.Tail.{Part, PlacedPart, parts_end, parts_from, part_header, part_name, part_row, row_header, row_name, section_headers}
use Rattle.lk_model.specs.Texts.{offset_in, table_of}
use Rattle.lk_model.specs.Views.{Resolved}
use Rattle.lk_model.specs.declared.layouts.Placement.{Placement}
use Rattle.lk_model.proofs.Multiples.{round_up_above}
use Rattle.lk_model.proofs.Rising.{Rising}

abbrev pub at_of : Stretch → ℕ
at_of s = s.at

abbrev pub size_in : Stretch → ℕ
size_in s = length s.bytes

abbrev pub tail_parts_at : ℕ → List Part → List Stretch
tail_parts_at at parts = map part_stretch (parts_from at parts)

-- ---- parts

-- each is at or above the end of the one before
pub parts_rise : (at : ℕ) (parts : List Part) → Rising at_of size_in at (tail_parts_at at parts)
parts_rise at [] = tt
parts_rise at (p ∷ ps) = (round_up_above at 8 (omega arith), parts_rise (round_up at 8 + length p.bytes) ps)

pub end_above : (at : ℕ) (parts : List Part) → at ≤ parts_end at parts
end_above at [] = omega arith
end_above at (p ∷ ps) =
    let here = round_up_above at 8 (omega arith) in
    let more = end_above (round_up at 8 + length p.bytes) ps in
    omega (arith, here, more)

-- and ends at or below where they end
pub parts_below : (at : ℕ) (parts : List Part) → AllByRecursion (λ (s : Stretch). s.at + length s.bytes ≤ parts_end at parts) (tail_parts_at at parts)
parts_below at [] = tt
parts_below at (p ∷ ps) = (end_above (round_up at 8 + length p.bytes) ps, parts_below (round_up at 8 + length p.bytes) ps)

length_parts : (at : ℕ) (parts : List Part) → length (parts_from at parts) ≡ length parts
length_parts at [] = refl
length_parts at (p ∷ ps) = let rest = length_parts (round_up at 8 + length p.bytes) ps in omega (arith, rest)

-- ---- headers

flat_length : {A : Type 0} (f : A → List ℕ) (w : ℕ) → ((x : A) → length (f x) ≡ w) → (xs : List A) → length (flat_map f xs) ≡ w * length xs
flat_length f w each [] = omega arith
flat_length f w each (x ∷ xs) = length-append (f x) (flat_map f xs) ∙ rw (each x) (rw (flat_length f w each xs) (grind (arith)))

length_shdr : (h : Shdr) → length (shdr_bytes h) ≡ 64
unfolding shdr_bytes bytes_of
length_shdr h = refl

length_phdr : (h : Phdr) → length (phdr_bytes h) ≡ 56
unfolding phdr_bytes bytes_of
length_phdr h = refl

-- the section headers: null, the output sections, the parts
headers_with : (place : Placement) (parts : List Part) (offset : List ℕ → ℕ) → length (map (row_header place offset) place.sections ++ map (λ (p : PlacedPart). part_header place parts offset (part_row p)) (parts_from (tail_start place) parts)) ≡ length place.sections + length parts
headers_with place parts offset =
    let rows = length-map place.sections (row_header place offset) in
    let placed = length-map (parts_from (tail_start place) parts) (λ (p : PlacedPart). part_header place parts offset (part_row p)) in
    let count = length_parts (tail_start place) parts in
    let all = length-append (map (row_header place offset) place.sections) (map (λ (p : PlacedPart). part_header place parts offset (part_row p)) (parts_from (tail_start place) parts)) in
    omega (arith, rows, placed, count, all)

header_count : (place : Placement) (parts : List Part) → length (section_headers place parts) ≡ length place.sections + length parts + 1
unfolding section_headers
header_count place parts =
    let others = headers_with place parts (offset_in (table_of (map row_name place.sections ++ map part_name parts))) in
    omega (arith, others)

pub length_section_headers : (place : Placement) (parts : List Part) → length (flat_map shdr_bytes (section_headers place parts)) ≡ 64 * (length place.sections + length parts + 1)
length_section_headers place parts =
    flat_length shdr_bytes 64 length_shdr (section_headers place parts) ∙ ap (λ (n : ℕ). 64 * n) (header_count place parts)

length_file_header : (r : Resolved) (place : Placement) (parts : List Part) → length (ehdr_bytes (file_header r place parts)) ≡ 64
unfolding ehdr_bytes bytes_of file_header
length_file_header r place parts = refl

-- the headers at the front
pub length_header_bytes : (r : Resolved) (place : Placement) (parts : List Part) → length (header_bytes r place parts) ≡ 64 + 56 * length (program_headers place (exec_stack_of r))
unfolding header_bytes
length_header_bytes r place parts =
    let hs = program_headers place (exec_stack_of r) in
    let all = length-append (ehdr_bytes (file_header r place parts)) (flat_map phdr_bytes hs) in
    let one = length_file_header r place parts in
    let others = flat_length phdr_bytes 56 length_phdr hs in
    omega (arith, all, one, others)
