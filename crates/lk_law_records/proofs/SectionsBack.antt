-- What is in an image is found again: the fields of its file header that lead to the section
-- headers, the section headers, the names of the sections, and the bytes of a section by its name.
use Rattle.std.proofs.Common.{◌≡◌, ℕ, zero, suc, ◌+◌, ◌*◌, ◌^◌, ◌<◌, Bool, true, List, [], ◌∷◌, ◌++◌, length, take, drop, refl, sym, ap, ◌∙◌, arith, append_assoc, length-append, subst}
use Rattle.std.specs.Prelude.{Option, Some, None, map, filter, slice_get, nat_le, option_and_then}
use Rattle.std.specs.List.{flat_map, AllByRecursion, range_with_len, enumerate_from}
use Rattle.std.proofs.lemmas.Bool.{le-leb}
use Rattle.std.proofs.lemmas.List.{take-append-drop, length-take-le}
use Rattle.lk_elf.specs.Fields.{bytes_of}
use Rattle.lk_elf.specs.Records.{shdr_at, shdr_bytes}
use Rattle.lk_elf.specs.declared.file_header.Ehdr.{Ehdr}
use Rattle.lk_elf.specs.declared.section_header.Shdr.{Shdr}
use Rattle.lk_elf.proofs.ShdrBack.{shdr_at-shdr_bytes}
use Rattle.lk_model.specs.Elf.{section_headers_of, bytes_under, text_in, name_at, section_name}
use Rattle.lk_model.specs.RecordedPlace.{has_name, is_named_section, only_bytes, named_bytes}
use Rattle.lk_model.specs.Stretches.{Stretch, IsAt, AllAreAt, end_of_all}
use Rattle.lk_model.specs.Views.{Elf}

-- ---- stretches

pub are_at-second : (image : List ℕ) (xs ys : List Stretch) → AllAreAt image (xs ++ ys) → AllAreAt image ys
are_at-second image [] ys all = all
are_at-second image (x ∷ xs) ys (here, more) = are_at-second image xs ys more

pub are_at-first : (image : List ℕ) (xs ys : List Stretch) → AllAreAt image (xs ++ ys) → AllAreAt image xs
are_at-first image [] ys all = tt
are_at-first image (x ∷ xs) ys (here, more) = (here, are_at-first image xs ys more)

pub end-last : (xs : List Stretch) (s : Stretch) → end_of_all (xs ++ s ∷ []) ≡ s.at + length s.bytes
end-last [] s = refl
end-last (x ∷ []) s = refl
end-last (x ∷ y ∷ xs) s = end-last (y ∷ xs) s

-- a file is what is before a stretch, the stretch, and what is behind
pub around : (image : List ℕ) (s : Stretch) → IsAt image s → image ≡ take s.at image ++ (s.bytes ++ drop (length s.bytes) (drop s.at image))
around image s is_at =
    sym (take-append-drop s.at image)
    ∙ ap (λ l. take s.at image ++ l) (sym (take-append-drop (length s.bytes) (drop s.at image)) ∙ ap (λ l. l ++ drop (length s.bytes) (drop s.at image)) is_at)

-- ---- the section headers

abbrev pub ShdrFits : Shdr → Type 0
ShdrFits h =
    (h.sh_name < 2 ^ 32) × (h.sh_type < 2 ^ 32) × (h.sh_flags < 2 ^ 64) × (h.sh_addr < 2 ^ 64) × (h.sh_offset < 2 ^ 64)
    × (h.sh_size < 2 ^ 64) × (h.sh_link < 2 ^ 32) × (h.sh_info < 2 ^ 32) × (h.sh_addralign < 2 ^ 64) × (h.sh_entsize < 2 ^ 64)

length-shdr : (h : Shdr) → length (shdr_bytes h) ≡ 64
unfolding shdr_bytes bytes_of
length-shdr h = refl

pub length-shdrs : (hs : List Shdr) → length (flat_map shdr_bytes hs) ≡ 64 * length hs
length-shdrs [] = refl
length-shdrs (h ∷ hs) =
    let here = length-shdr h in
    let more = length-shdrs hs in
    length-append (shdr_bytes h) (flat_map shdr_bytes hs) ∙ omega (arith, here, more)

headers-from : (pre post : List ℕ) (hs : List Shdr) (at k : ℕ) → length pre ≡ at + 64 * k → AllByRecursion ShdrFits hs
    → map (λ n. shdr_at (pre ++ (flat_map shdr_bytes hs ++ post)) (at + 64 * n)) (range_with_len k (length hs)) ≡ hs
headers-from pre post [] at k long fits = refl
headers-from pre post (h ∷ hs) at k long (here, more) =
    let rest = flat_map shdr_bytes hs ++ post in
    let shape : pre ++ ((shdr_bytes h ++ flat_map shdr_bytes hs) ++ post) ≡ (pre ++ shdr_bytes h) ++ rest =
    ap (λ l. pre ++ l) (append_assoc (shdr_bytes h) (flat_map shdr_bytes hs) post) ∙ sym (append_assoc pre (shdr_bytes h) rest) in
    let first : shdr_at ((pre ++ shdr_bytes h) ++ rest) (at + 64 * k) ≡ h =
    shdr_at-shdr_bytes (at + 64 * k) pre rest h long here.0 here.1 here.2 here.3 here.4 here.5 here.6 here.7 here.8 here.9 in
    let wide = length-shdr h in
    let longer : length (pre ++ shdr_bytes h) ≡ at + 64 * (k + 1) = length-append pre (shdr_bytes h) ∙ omega (arith, long, wide) in
    let next : map (λ n. shdr_at ((pre ++ shdr_bytes h) ++ rest) (at + 64 * n)) (range_with_len (k + 1) (length hs)) ≡ hs =
    headers-from (pre ++ shdr_bytes h) post hs at (k + 1) longer more in
    subst (λ l. map (λ n. shdr_at l (at + 64 * n)) (range_with_len k (length (h ∷ hs))) ≡ h ∷ hs) (sym shape)
    (ap (λ x. x ∷ map (λ n. shdr_at ((pre ++ shdr_bytes h) ++ rest) (at + 64 * n)) (range_with_len (k + 1) (length hs))) first ∙ ap (λ xs. h ∷ xs) next)

-- the section headers that end a file are read back
pub headers-back : (image : List ℕ) (header : Ehdr) (at : ℕ) (hs : List Shdr) → header.e_shoff ≡ at → header.e_shnum ≡ length hs
    → AllByRecursion ShdrFits hs → IsAt image (record { at = at; bytes = flat_map shdr_bytes hs }) → length image ≡ at + length (flat_map shdr_bytes hs)
    → section_headers_of image header ≡ hs
unfolding section_headers_of
headers-back image header at hs place count fits is_at ends =
    let wide = length-shdrs hs in
    let long : length (take at image) ≡ at + 64 * 0 = length-take-le at image (omega (arith, ends)) ∙ omega arith in
    let whole = around image (record { at = at; bytes = flat_map shdr_bytes hs }) is_at in
    let inside : nat_le (at + 64 * length hs) (length image) ≡ true = le-leb (at + 64 * length hs) (length image) (omega (arith, ends, wide)) in
    let read : map (λ n. shdr_at image (at + 64 * n)) (range_with_len 0 (length hs)) ≡ hs =
    subst (λ l. map (λ n. shdr_at l (at + 64 * n)) (range_with_len 0 (length hs)) ≡ hs) (sym whole)
    (headers-from (take at image) (drop (length (flat_map shdr_bytes hs)) (drop at image)) hs at 0 long fits) in
    rw (place, count, inside) read

-- ---- the names of sections

abbrev pub name_among : List Shdr → List ℕ → ℕ → Option (List ℕ)
name_among hs strings zero = None
name_among hs strings (suc n) = option_and_then (λ (h : Shdr). text_in (drop h.sh_name strings)) (slice_get hs (suc n))

name-is : (elf : Elf) (strings : List ℕ) (k : ℕ) (table : Shdr) (n : ℕ) → elf.header.e_shstrndx ≡ suc k → slice_get elf.sections (suc k) ≡ Some table
    → bytes_under elf table ≡ strings → section_name elf n ≡ name_among elf.sections strings n
unfolding section_name name_at
name-is elf strings k table zero index there bytes = refl
name-is elf strings k table (suc n) index there bytes =
    rw (index, there, bytes) refl

filter-same : {X : Type 0} (f g : X → Bool) (xs : List X) → ((x : X) → f x ≡ g x) → filter f xs ≡ filter g xs
filter-same f g [] same = refl
filter-same f g (x ∷ xs) same = rw (same x, filter-same f g xs same) refl

abbrev pub is_named_among : List Shdr → List ℕ → List ℕ → ℕ × Shdr → Bool
is_named_among hs strings name (n, h) = has_name name (name_among hs strings n)

-- the bytes of a section by its name, where the section of names holds these bytes
pub named-is : (elf : Elf) (strings name : List ℕ) (k : ℕ) (table : Shdr) → elf.header.e_shstrndx ≡ suc k → slice_get elf.sections (suc k) ≡ Some table
    → bytes_under elf table ≡ strings
    → named_bytes elf name ≡ only_bytes elf (filter (is_named_among elf.sections strings name) (enumerate_from 0 elf.sections))
named-is elf strings name k table index there bytes =
    ap (only_bytes elf) (filter-same (is_named_section elf name) (is_named_among elf.sections strings name) (enumerate_from 0 elf.sections)
    (λ row. ap (has_name name) (name-is elf strings k table row.0 index there bytes)))
