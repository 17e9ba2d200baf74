-- The bytes of a header are those of the header with the low bits of its numbers.
use Rattle.std.proofs.Common.{◌≡◌, ℕ, List, ap, ◌∙◌, refl}
use Rattle.lk_elf.proofs.LowBits.{low-half, low-long, low-word}
use Rattle.lk_elf.specs.Records.{ehdr_bytes, phdr_bytes, shdr_bytes}
use Rattle.lk_elf.specs.declared.file_header.Ehdr.{Ehdr}
use Rattle.lk_elf.specs.declared.program_header.Phdr.{Phdr}
use Rattle.lk_elf.specs.declared.section_header.Shdr.{Shdr}
use Rattle.lk_model.specs.Segments.{load_header}
use Rattle.lk_headers.specs.LowBits.{low_file_header, low_header, low_section_header}

pub low-phdr : (h : Phdr) → phdr_bytes (low_header h) ≡ phdr_bytes h
unfolding phdr_bytes
low-phdr h = rw (low-long h.p_offset, low-long h.p_vaddr, low-long h.p_paddr, low-long h.p_filesz, low-long h.p_memsz) refl

pub phdr_reported : (made whole : Phdr) → made ≡ low_header whole → phdr_bytes made ≡ phdr_bytes whole
phdr_reported made whole e = ap phdr_bytes e ∙ low-phdr whole

-- a load header from equal numbers
pub load_reported : (bytes : List ℕ) (flags rights address start stored file end memory : ℕ) → bytes ≡ phdr_bytes (load_header flags address stored end)
    → flags ≡ rights → address ≡ start → stored ≡ file → end ≡ memory → bytes ≡ phdr_bytes (load_header rights start file memory)
load_reported bytes flags rights address start stored file end memory e f a h m = rw (← f, ← a, ← h, ← m) e

low-ehdr : (h : Ehdr) → ehdr_bytes (low_file_header h) ≡ ehdr_bytes h
unfolding ehdr_bytes
low-ehdr h = rw (low-long h.e_shoff, low-half h.e_shnum, low-half h.e_shstrndx) refl

pub ehdr_reported : (made whole : Ehdr) → made ≡ low_file_header whole → ehdr_bytes made ≡ ehdr_bytes whole
ehdr_reported made whole e = ap ehdr_bytes e ∙ low-ehdr whole

low-shdr : (h : Shdr) → shdr_bytes (low_section_header h) ≡ shdr_bytes h
unfolding shdr_bytes
low-shdr h = rw (low-word h.sh_name, low-word h.sh_link) refl

pub shdr_reported : (made whole : Shdr) → made ≡ low_section_header whole → shdr_bytes made ≡ shdr_bytes whole
shdr_reported made whole e = ap shdr_bytes e ∙ low-shdr whole
