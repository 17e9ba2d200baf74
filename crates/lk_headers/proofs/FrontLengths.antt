-- The headers have room before the seal, and zeros follow up to it.
use Rattle.std.proofs.Common.{◌≡◌, ℕ, ◌+◌, ◌*◌, ◌≤◌, Bool, List, [], ◌∷◌, ◌++◌, refl, ap, ◌∙◌, arith, length, length-append, append_assoc}
use Rattle.std.specs.List.{flat_map}
use Rattle.lk_elf.specs.Fields.{bytes_of}
use Rattle.lk_elf.specs.Records.{ehdr_bytes, phdr_bytes}
use Rattle.lk_elf.specs.declared.program_header.Phdr.{Phdr}
use Rattle.lk_model.specs.Segments.{program_headers}
use Rattle.lk_model.specs.declared.layouts.Placement.{Placement}
use Rattle.lk_model.specs.declared.layouts.SectionRow.{SectionRow}
use Rattle.lk_headers.specs.Front.{front_bytes, front_header, up_to_seal}

length-phdr : (h : Phdr) → length (phdr_bytes h) ≡ 56
unfolding phdr_bytes bytes_of
length-phdr h = refl

length-phdrs : (hs : List Phdr) → length (flat_map phdr_bytes hs) ≡ 56 * length hs
length-phdrs [] = refl
length-phdrs (h ∷ hs) =
    let a = length-append (phdr_bytes h) (flat_map phdr_bytes hs) in
    let b = length-phdr h in
    let d = length-phdrs hs in omega (arith, a, b, d)

length-ehdr : (place : Placement) (tail : List SectionRow) (entry : ℕ) (exec_stack : Bool) → length (ehdr_bytes (front_header place tail entry exec_stack)) ≡ 64
unfolding ehdr_bytes front_header bytes_of
length-ehdr place tail entry exec_stack = refl

pub front_long : (place : Placement) (tail : List SectionRow) (entry : ℕ) (exec_stack : Bool)
    → length (front_bytes place tail entry exec_stack) ≡ 64 + 56 * length (program_headers place exec_stack)
unfolding front_bytes
front_long place tail entry exec_stack =
    let a = length-append (ehdr_bytes (front_header place tail entry exec_stack)) (flat_map phdr_bytes (program_headers place exec_stack)) in
    let b = length-ehdr place tail entry exec_stack in
    let d = length-phdrs (program_headers place exec_stack) in omega (arith, a, b, d)

pub front_put : (a b c e : List ℕ) (place : Placement) (tail : List SectionRow) (entry : ℕ) (exec_stack : Bool) → b ≡ a ++ e
    → e ≡ ehdr_bytes (front_header place tail entry exec_stack) → c ≡ b ++ flat_map phdr_bytes (program_headers place exec_stack)
    → c ≡ a ++ front_bytes place tail entry exec_stack
unfolding front_bytes
front_put a b c e place tail entry exec_stack first is also =
    let f : List ℕ = ehdr_bytes (front_header place tail entry exec_stack) in
    let g : List ℕ = flat_map phdr_bytes (program_headers place exec_stack) in
    also ∙ ap (λ l. l ++ g) (first ∙ ap (λ l. a ++ l) is) ∙ append_assoc a f g

pub front_fits : (a b : List ℕ) (place : Placement) (tail : List SectionRow) (entry count : ℕ) (exec_stack : Bool) → a ≡ []
    → b ≡ a ++ front_bytes place tail entry exec_stack → count ≡ length (program_headers place exec_stack) → count ≤ 64 → length b ≤ 4088
front_fits a b place tail entry count exec_stack none is many few =
    let e = front_long place tail entry exec_stack in
    let f : length b ≡ length (front_bytes place tail entry exec_stack) = ap length (is ∙ ap (λ l. l ++ front_bytes place tail entry exec_stack) none) in
    omega (arith, e, f, many, few)

pub front_padded : (a b c : List ℕ) (place : Placement) (tail : List SectionRow) (entry : ℕ) (exec_stack : Bool) → a ≡ []
    → b ≡ a ++ front_bytes place tail entry exec_stack → c ≡ up_to_seal b → c ≡ up_to_seal (front_bytes place tail entry exec_stack)
front_padded a b c place tail entry exec_stack none is padded =
    padded ∙ ap up_to_seal (is ∙ ap (λ l. l ++ front_bytes place tail entry exec_stack) none)
