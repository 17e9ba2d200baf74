-- The section table and its sections do not depend on the symbols: what holds of a file whose symbols are not read
-- yet holds of it with any symbols. And the file that bytes are, by its parts.
use Rattle.std.specs.Prelude.{◌≡◌, refl, ℕ, zero, suc, ◌++◌, List, [], ◌∷◌, flat_map, Option, Some, None, option_and_then}
use Rattle.std.proofs.Common.{ap, ◌∙◌}
use Rattle.lk_elf.specs.Numbers.{sht_symtab}
use Rattle.lk_elf.specs.Records.{ehdr_at}
use Rattle.lk_elf.specs.declared.file_header.Ehdr.{Ehdr}
use Rattle.lk_elf.specs.declared.section_header.Shdr.{Shdr}
use Rattle.lk_elf.specs.declared.symbol.Sym.{Sym}
use Rattle.lk_model.specs.Elf.{elf_of, elf_under, elf_with, first_of_type, name_at, section_at, section_headers_of, section_name, symbols_of}
use Rattle.lk_model.specs.ObjectChecks.{section_checks, section_checks_named, table_checks}
use Rattle.lk_obj_parts.specs.ElfViews.{elf_from}

-- the file that bytes are, by its parts
pub elf_parts : (bytes : List ℕ) → elf_of bytes ≡ elf_from bytes (ehdr_at bytes 0) (section_headers_of bytes (ehdr_at bytes 0)) (symbols_of bytes (first_of_type sht_symtab (section_headers_of bytes (ehdr_at bytes 0))))
unfolding elf_of elf_under elf_with
elf_parts bytes = refl

header_unread : (b : List ℕ) (h : Ehdr) (s : List Shdr) (ys : List Sym) (n : ℕ) → section_at (elf_from b h s ys) n ≡ section_at (elf_from b h s []) n
header_unread b h s ys zero = refl
header_unread b h s ys (suc n) = refl

pub name_unread : (b : List ℕ) (h : Ehdr) (s : List Shdr) (ys : List Sym) (strings offset : ℕ) → name_at (elf_from b h s ys) strings offset ≡ name_at (elf_from b h s []) strings offset
unfolding name_at
name_unread b h s ys zero offset = refl
name_unread b h s ys (suc n) offset = refl

then_same : (f g : Shdr → Option (List ℕ)) → ((x : Shdr) → f x ≡ g x) → (o : Option Shdr) → option_and_then f o ≡ option_and_then g o
then_same f g e None = refl
then_same f g e (Some x) = e x

pub section_name_unread : (b : List ℕ) (h : Ehdr) (s : List Shdr) (ys : List Sym) (n : ℕ) → section_name (elf_from b h s ys) n ≡ section_name (elf_from b h s []) n
unfolding section_name
section_name_unread b h s ys n =
    ap (option_and_then (λ (x : Shdr). name_at (elf_from b h s ys) h.e_shstrndx x.sh_name)) (header_unread b h s ys n)
    ∙ then_same (λ (x : Shdr). name_at (elf_from b h s ys) h.e_shstrndx x.sh_name) (λ (x : Shdr). name_at (elf_from b h s []) h.e_shstrndx x.sh_name) (λ (x : Shdr). name_unread b h s ys h.e_shstrndx x.sh_name) (section_at (elf_from b h s []) n)

pub table_unread : (b : List ℕ) (h : Ehdr) (s : List Shdr) (ys : List Sym) → table_checks (elf_from b h s ys) ≡ table_checks (elf_from b h s [])
unfolding table_checks
table_unread b h s ys = rw (header_unread b h s ys h.e_shstrndx) refl

pub section_unread : (b : List ℕ) (h : Ehdr) (s : List Shdr) (ys : List Sym) (row : ℕ × Shdr) → section_checks (elf_from b h s ys) row ≡ section_checks (elf_from b h s []) row
unfolding section_checks_named
section_unread b h s ys row =
    ap (section_checks_named (elf_from b h s []) row.0 row.1) (section_name_unread b h s ys row.0)

pub sections_unread : (b : List ℕ) (h : Ehdr) (s : List Shdr) (ys : List Sym) (rows : List (ℕ × Shdr)) → flat_map (section_checks (elf_from b h s ys)) rows ≡ flat_map (section_checks (elf_from b h s [])) rows
sections_unread b h s ys [] = refl
sections_unread b h s ys (row ∷ rows) =
    ap (λ cs. cs ++ flat_map (section_checks (elf_from b h s ys)) rows) (section_unread b h s ys row)
    ∙ ap (λ cs. section_checks (elf_from b h s []) row ++ cs) (sections_unread b h s ys rows)
