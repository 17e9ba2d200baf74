-- The program headers that an image holds are read back from it.
use Rattle.std.specs.Prelude.{◌≡◌, ℕ, ◌+◌, ◌*◌, ◌^◌, ◌<◌, ◌≤◌, List, [], ◌∷◌, ◌++◌, drop, length, map, refl}
use Rattle.std.specs.List.{AllByRecursion, flat_map, range_with_len}
use Rattle.std.proofs.Common.{ap, append_assoc, arith, length-append, subst, sym, ◌∙◌}
use Rattle.std.proofs.lemmas.List.{take-append-drop}
use Rattle.lk_elf.specs.Fields.{bytes_of, num}
use Rattle.lk_elf.specs.Records.{ehdr_bytes, phdr_at, phdr_bytes}
use Rattle.lk_elf.specs.declared.program_header.Phdr.{Phdr}
use Rattle.lk_elf.proofs.PhdrBack.{phdr_at-phdr_bytes}
use Rattle.lk_model.specs.FileHeader.{exec_stack_of, file_header, header_bytes}
use Rattle.lk_model.specs.Images.{stretch}
use Rattle.lk_model.specs.Loading.{header_in, headers_in}
use Rattle.lk_model.specs.Segments.{program_headers}
use Rattle.lk_model.specs.Stretches.{IsAt}
use Rattle.lk_model.specs.Tail.{Part}
use Rattle.lk_model.specs.Views.{Resolved}
use Rattle.lk_model.specs.declared.layouts.Placement.{Placement}
use Rattle.lk_model.proofs.FileHeaderBack.{program-headers-back}

-- each number of a program header fits its field
pub record HeaderFits (h : Phdr) : Type 0 where
  pub type : h.p_type < 2 ^ 32
  pub flags : h.p_flags < 2 ^ 32
  pub offset : h.p_offset < 2 ^ 64
  pub vaddr : h.p_vaddr < 2 ^ 64
  pub paddr : h.p_paddr < 2 ^ 64
  pub filesz : h.p_filesz < 2 ^ 64
  pub memsz : h.p_memsz < 2 ^ 64
  pub align : h.p_align < 2 ^ 64

length_phdr : (h : Phdr) → length (phdr_bytes h) ≡ 56
unfolding phdr_bytes bytes_of
length_phdr h = refl

-- headers one after another, behind a list
headers_from :
    (pre post : List ℕ) (hs : List Phdr) (at k : ℕ)
    → length pre ≡ at + 56 * k
    → AllByRecursion HeaderFits hs
    → map (λ n. phdr_at (pre ++ (flat_map phdr_bytes hs ++ post)) (at + 56 * n)) (range_with_len k (length hs)) ≡ hs
headers_from pre post [] at k long fits = refl
headers_from pre post (h ∷ hs) at k long fits =
    let here : HeaderFits h = fits.0 in
    let rest = flat_map phdr_bytes hs ++ post in
    let shape : pre ++ ((phdr_bytes h ++ flat_map phdr_bytes hs) ++ post) ≡ (pre ++ phdr_bytes h) ++ rest =
    ap (λ l. pre ++ l) (append_assoc (phdr_bytes h) (flat_map phdr_bytes hs) post) ∙ sym (append_assoc pre (phdr_bytes h) rest) in
    let first : phdr_at ((pre ++ phdr_bytes h) ++ rest) (at + 56 * k) ≡ h =
    phdr_at-phdr_bytes (at + 56 * k) pre rest h long here.type here.flags here.offset here.vaddr here.paddr here.filesz here.memsz here.align in
    let wide = length_phdr h in
    let longer : length (pre ++ phdr_bytes h) ≡ at + 56 * (k + 1) = length-append pre (phdr_bytes h) ∙ omega (arith, long, wide) in
    let next : map (λ n. phdr_at ((pre ++ phdr_bytes h) ++ rest) (at + 56 * n)) (range_with_len (k + 1) (length hs)) ≡ hs =
    headers_from (pre ++ phdr_bytes h) post hs at (k + 1) longer fits.1 in
    subst (λ l. map (λ n. phdr_at l (at + 56 * n)) (range_with_len k (length (h ∷ hs))) ≡ h ∷ hs) (sym shape)
    (ap (λ x. x ∷ map (λ n. phdr_at ((pre ++ phdr_bytes h) ++ rest) (at + 56 * n)) (range_with_len (k + 1) (length hs))) first ∙ ap (λ xs. h ∷ xs) next)

-- ---- the file header

file_header_reported :
    (r : Resolved) (place : Placement) (parts : List Part) (post : List ℕ)
    → length (program_headers place (exec_stack_of r)) < 2 ^ 16
    → (num (ehdr_bytes (file_header r place parts) ++ post) 32 8 ≡ 64)
    × (num (ehdr_bytes (file_header r place parts) ++ post) 56 2 ≡ length (program_headers place (exec_stack_of r)))
    × (length (ehdr_bytes (file_header r place parts)) ≡ 64)
unfolding file_header
file_header_reported r place parts post few =
    let h = file_header r place parts in
    program-headers-back h.e_type h.e_machine h.e_version h.e_entry h.e_phoff h.e_shoff h.e_flags h.e_ehsize h.e_phentsize h.e_phnum h.e_shentsize h.e_shnum h.e_shstrndx post (omega arith) few

-- ---- an image

headers_are :
    (image : List ℕ) (hs : List Phdr)
    → num image 32 8 ≡ 64
    → num image 56 2 ≡ length hs
    → map (λ n. phdr_at image (64 + 56 * n)) (range_with_len 0 (length hs)) ≡ hs
    → headers_in image ≡ hs
unfolding headers_in
headers_are image hs offset count read =
    subst (λ c. map (header_in image) (range_with_len 0 c) ≡ hs) (sym count)
    (subst (λ o. map (λ n. phdr_at image (o + 56 * n)) (range_with_len 0 (length hs)) ≡ hs) (sym offset) read)

headers_behind :
    (r : Resolved) (place : Placement) (parts : List Part) (post : List ℕ) (hs : List Phdr)
    → program_headers place (exec_stack_of r) ≡ hs
    → length hs ≤ 64
    → AllByRecursion HeaderFits hs
    → headers_in (ehdr_bytes (file_header r place parts) ++ (flat_map phdr_bytes hs ++ post)) ≡ hs
headers_behind r place parts post hs same few fits =
    let e = ehdr_bytes (file_header r place parts) in
    let rest = flat_map phdr_bytes hs ++ post in
    let reported = file_header_reported r place parts rest (let count = ap length same in omega (arith, few, count)) in
    headers_are (e ++ rest) hs reported.0 (reported.1 ∙ ap length same) (headers_from e post hs 64 0 (reported.2 ∙ omega arith) fits)

-- an image is the stretch at its start, and the rest
from_start : (image bytes : List ℕ) → IsAt image (stretch 0 bytes) → image ≡ bytes ++ drop (length bytes) image
from_start image bytes is_at = sym (take-append-drop (length bytes) image) ∙ ap (λ l. l ++ drop (length bytes) image) is_at

-- the program headers of an image that begins with the headers of a placement
pub headers_back :
    (r : Resolved) (place : Placement) (parts : List Part) (image : List ℕ)
    → IsAt image (stretch 0 (header_bytes r place parts))
    → length (program_headers place (exec_stack_of r)) ≤ 64
    → AllByRecursion HeaderFits (program_headers place (exec_stack_of r))
    → headers_in image ≡ program_headers place (exec_stack_of r)
unfolding header_bytes
headers_back r place parts image is_at few fits =
    let hs = program_headers place (exec_stack_of r) in
    let e = ehdr_bytes (file_header r place parts) in
    let bytes = e ++ flat_map phdr_bytes hs in
    let post = drop (length bytes) image in
    let whole : image ≡ e ++ (flat_map phdr_bytes hs ++ post) = from_start image bytes is_at ∙ append_assoc e (flat_map phdr_bytes hs) post in
    ap headers_in whole ∙ headers_behind r place parts post hs refl few fits
