-- The front of an image reads back: it is an executable, and its program headers are behind the file header.
use Rattle.std.specs.Prelude.{◌≡◌, ℕ, true, List, [], ◌∷◌, ◌++◌, ◌+◌, ◌*◌, ◌<◌, ◌≤◌, ◌==◌, drop, flat_map, length, map, nat_le, refl}
use Rattle.std.proofs.Common.{ap, append_assoc, arith, subst, sym, ◌∙◌}
use Rattle.std.proofs.lemmas.Bool.Decides.{nat_tests}
use Rattle.std.proofs.lemmas.List.{length-drop, length-take, take-append-drop}
use Rattle.lk_elf.specs.Fields.{bytes_of, num, number_of}
use Rattle.lk_elf.specs.Records.{ehdr_at, ehdr_bytes, phdr_bytes, shdr_bytes}
use Rattle.lk_model.specs.FileHeader.{exec_stack_of, file_header, header_bytes}
use Rattle.lk_model.specs.FullPlace.{tail_start}
use Rattle.lk_model.specs.Images.{part_stretch, row_stretches, seal, seal_offset, stretch, stretches_with}
use Rattle.lk_model.specs.Kinds.{has_magic, is_known_class}
use Rattle.lk_model.specs.Loads.{is_executable_file}
use Rattle.lk_model.specs.Segments.{program_headers}
use Rattle.lk_model.specs.Stretches.{AllAreAt, IsAt, Stretch}
use Rattle.lk_model.specs.Tail.{Part, headers_offset, parts_end, parts_from, section_headers}
use Rattle.lk_model.specs.Views.{Resolved}
use Rattle.lk_model.specs.declared.layouts.Placement.{Placement}
use Rattle.lk_model.proofs.Multiples.{round_up_above}
use Rattle.lk_law_loading.proofs.PiecesAreAt.{headers_are_at}
use Rattle.lk_law_writes.proofs.TailRises.{end_above, length_header_bytes, length_section_headers}
use Rattle.std.specs.List.{enumerate_from}

-- a stretch with a byte ends in its image
stretch_inside : (image bytes : List ℕ) (at : ℕ) → IsAt image (stretch at bytes) → 0 < length bytes → at + length bytes ≤ length image
stretch_inside image bytes at is some =
    let size = ap length is in
    let one = length-take (length bytes) (drop at image) in
    let other = length-drop at image in
    omega (arith, size, one, other, some)

-- the headers at the front end in the image
pub front_inside : (r : Resolved) (place : Placement) (parts : List Part) (image : List ℕ) → AllAreAt image (stretches_with r place parts) → 64 + 56 * length (program_headers place (exec_stack_of r)) ≤ length image
front_inside r place parts image all =
    let size = length_header_bytes r place parts in
    let inside = stretch_inside image (header_bytes r place parts) 0 (headers_are_at r place parts image all) (omega (arith, size)) in
    omega (arith, size, inside)

are_at_back : (image : List ℕ) (xs ys : List Stretch) → AllAreAt image (xs ++ ys) → AllAreAt image ys
are_at_back image [] ys all = all
are_at_back image (x ∷ xs) ys all = are_at_back image xs ys all.1

-- the tail begins in the image
pub tail_inside : (r : Resolved) (place : Placement) (parts : List Part) (image : List ℕ) → AllAreAt image (stretches_with r place parts) → tail_start place ≤ length image
tail_inside r place parts image all =
    let rows = flat_map (row_stretches r place) (enumerate_from 0 place.sections) in
    let front = stretch 0 (header_bytes r place parts) ∷ stretch seal_offset seal ∷ rows in
    let tail = map part_stretch (parts_from (tail_start place) parts) in
    let bytes = flat_map shdr_bytes (section_headers place parts) in
    let last : List Stretch = stretch (headers_offset place parts) bytes ∷ [] in
    let is : AllAreAt image last = are_at_back image (front ++ tail) last all in
    let size = length_section_headers place parts in
    let inside = stretch_inside image bytes (headers_offset place parts) is.0 (omega (arith, size)) in
    let above = round_up_above (parts_end (tail_start place) parts) 8 (omega arith) in
    let up = end_above (tail_start place) parts in
    omega (arith, inside, above, up)

-- ---- the file header

magic_at_front : (r : Resolved) (place : Placement) (parts : List Part) (post : List ℕ) → has_magic (ehdr_bytes (file_header r place parts) ++ post) ≡ true
unfolding ehdr_bytes bytes_of file_header
magic_at_front r place parts post = refl

class_at_front : (r : Resolved) (place : Placement) (parts : List Part) (post : List ℕ) → is_known_class (ehdr_at (ehdr_bytes (file_header r place parts) ++ post) 0) ≡ true
unfolding ehdr_at ehdr_bytes bytes_of file_header
class_at_front r place parts post = refl

type_at_front : (r : Resolved) (place : Placement) (parts : List Part) (post : List ℕ) → ((ehdr_at (ehdr_bytes (file_header r place parts) ++ post) 0).e_type == 2) ≡ true
unfolding ehdr_at ehdr_bytes bytes_of file_header num number_of
type_at_front r place parts post = refl

place_at_front : (r : Resolved) (place : Placement) (parts : List Part) (post : List ℕ) → (ehdr_at (ehdr_bytes (file_header r place parts) ++ post) 0).e_phoff ≡ 64
unfolding ehdr_at ehdr_bytes bytes_of file_header num number_of
place_at_front r place parts post = refl

-- an image begins with its file header
begins : (r : Resolved) (place : Placement) (parts : List Part) (image : List ℕ) → AllAreAt image (stretches_with r place parts) → ehdr_bytes (file_header r place parts) ++ (flat_map phdr_bytes (program_headers place (exec_stack_of r)) ++ drop (length (header_bytes r place parts)) image) ≡ image
unfolding header_bytes
begins r place parts image all =
    let e = ehdr_bytes (file_header r place parts) in
    let hs = flat_map phdr_bytes (program_headers place (exec_stack_of r)) in
    let is : IsAt image (stretch 0 (e ++ hs)) = headers_are_at r place parts image all in
    sym (append_assoc e hs (drop (length (e ++ hs)) image))
    ∙ (ap (λ (l : List ℕ). l ++ drop (length (e ++ hs)) image) (sym is) ∙ take-append-drop (length (e ++ hs)) image)

-- where the program headers are
pub table_place : (r : Resolved) (place : Placement) (parts : List Part) (image : List ℕ) → AllAreAt image (stretches_with r place parts) → (ehdr_at image 0).e_phoff ≡ 64
table_place r place parts image all =
    subst (λ (l : List ℕ). (ehdr_at l 0).e_phoff ≡ 64) (begins r place parts image all)
    (place_at_front r place parts (flat_map phdr_bytes (program_headers place (exec_stack_of r)) ++ drop (length (header_bytes r place parts)) image))

all_four : (image : List ℕ) → 64 ≤ length image → has_magic image ≡ true → is_known_class (ehdr_at image 0) ≡ true → ((ehdr_at image 0).e_type == 2) ≡ true → is_executable_file image ≡ true
all_four image long magic known type =
    let size : nat_le 64 (length image) ≡ true = grind (arith, nat_tests) in
    rw (size, magic, known, type) refl

-- the image is an executable file
pub executable : (r : Resolved) (place : Placement) (parts : List Part) (image : List ℕ) → AllAreAt image (stretches_with r place parts) → is_executable_file image ≡ true
executable r place parts image all =
    let same = begins r place parts image all in
    let post = flat_map phdr_bytes (program_headers place (exec_stack_of r)) ++ drop (length (header_bytes r place parts)) image in
    let inside = front_inside r place parts image all in
    all_four image (omega (arith, inside))
    (subst (λ (l : List ℕ). has_magic l ≡ true) same (magic_at_front r place parts post))
    (subst (λ (l : List ℕ). is_known_class (ehdr_at l 0) ≡ true) same (class_at_front r place parts post))
    (subst (λ (l : List ℕ). ((ehdr_at l 0).e_type == 2) ≡ true) same (type_at_front r place parts post))
