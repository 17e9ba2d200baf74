-- The parts of the file that bytes are.
use Rattle.std.proofs.Common.{◌≡◌, refl, ap, sym, ◌∙◌, ℕ, List}
use Rattle.lk_elf.specs.Records.{ehdr_at}
use Rattle.lk_model.specs.Elf.{elf_of, elf_under, elf_with, name_at, section_headers_of}
use Rattle.lk_elf.specs.declared.section_header.Shdr.{Shdr}
use Rattle.lk_obj_parts.specs.SymbolParts.{name_in}
use Rattle.lk_obj_parts.proofs.SymbolRows.{name_reported}

pub bytes_of_file : (bytes : List ℕ) → (elf_of bytes).bytes ≡ bytes
unfolding elf_of elf_under elf_with
bytes_of_file bytes = refl

pub header_of_file : (bytes : List ℕ) → (elf_of bytes).header ≡ ehdr_at bytes 0
unfolding elf_of elf_under elf_with
header_of_file bytes = refl

pub sections_of_file : (bytes : List ℕ) → (elf_of bytes).sections ≡ section_headers_of bytes (ehdr_at bytes 0)
unfolding elf_of elf_under elf_with
sections_of_file bytes = refl

-- a name of the file, by its section headers
pub name_of_file : (bytes : List ℕ) (sections : List Shdr) (strings offset : ℕ) → sections ≡ (elf_of bytes).sections → name_at (elf_of bytes) strings offset ≡ name_in bytes sections strings offset
name_of_file bytes sections strings offset read =
    name_reported (elf_of bytes) strings offset
    ∙ ap (λ b. name_in b (elf_of bytes).sections strings offset) (bytes_of_file bytes)
    ∙ ap (λ (s : List Shdr). name_in bytes s strings offset) (sym read)
