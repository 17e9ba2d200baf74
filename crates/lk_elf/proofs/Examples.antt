-- Worked examples: records of an object and of a shared object that a C compiler made, with the values that `readelf` shows.
use Rattle.std.specs.Prelude.{◌≡◌, ℕ, ◌+◌, ◌*◌, ◌-◌, ◌^◌, pos, negsuc, List, [], ◌∷◌, ◌++◌, refl}
use Rattle.lk_elf.specs.Fields.{number_of, bytes_of, num, signed64, unsigned64}
use Rattle.lk_elf.specs.Numbers.{dt_soname, em_x86_64, et_rel, pf_r, pf_w, pt_dynamic, shf_info_link, sht_rela}
use Rattle.lk_elf.specs.Records.{ehdr_at, ehdr_bytes, shdr_at, shdr_bytes, phdr_at, phdr_bytes, sym_at, sym_bytes, rela_at, rela_bytes, dyn_at, dyn_bytes}
use Rattle.lk_elf.specs.declared.file_header.Ehdr.{Ehdr}
use Rattle.lk_elf.specs.declared.section_header.Shdr.{Shdr}
use Rattle.lk_elf.specs.declared.program_header.Phdr.{Phdr}
use Rattle.lk_elf.specs.declared.symbol.Sym.{Sym}
use Rattle.lk_elf.specs.declared.relocation.Rela.{Rela}
use Rattle.lk_elf.specs.declared.dynamic_entry.Dyn.{Dyn}

-- the lowest byte is first
lowest_first : number_of (1 ∷ 2 ∷ 3 ∷ []) ≡ 197121
unfolding number_of
lowest_first = refl

-- the bytes of a number, and of one that is too great for them
four_bytes : bytes_of 4 305419896 ≡ 120 ∷ 86 ∷ 52 ∷ 18 ∷ []
unfolding bytes_of
four_bytes = refl

low_bytes_alone : bytes_of 1 511 ≡ 255 ∷ []
unfolding bytes_of
low_bytes_alone = refl

-- a field in the midst of bytes
field_within : num (9 ∷ 1 ∷ 2 ∷ 9 ∷ []) 1 2 ≡ 513
unfolding num number_of
field_within = refl

-- two's complement at its edges
signed_zero : signed64 0 ≡ pos 0
unfolding signed64
signed_zero = refl

signed_greatest : signed64 (2 ^ 63 - 1) ≡ pos 9223372036854775807
unfolding signed64
signed_greatest = refl

signed_least : signed64 (2 ^ 63) ≡ negsuc 9223372036854775807
unfolding signed64
signed_least = refl

signed_minus_one : signed64 (2 ^ 64 - 1) ≡ negsuc 0
unfolding signed64
signed_minus_one = refl

unsigned_greatest : unsigned64 (pos 9223372036854775807) ≡ 9223372036854775807
unfolding unsigned64
unsigned_greatest = refl

unsigned_least : unsigned64 (negsuc 9223372036854775807) ≡ 9223372036854775808
unfolding unsigned64
unsigned_least = refl

unsigned_minus_four : unsigned64 (negsuc 3) ≡ 18446744073709551612
unfolding unsigned64
unsigned_minus_four = refl

-- the header of an object for x86-64 with twelve sections, whose headers are at 632
abbrev object_header : List ℕ
object_header = 127 ∷ 69 ∷ 76 ∷ 70 ∷ 2 ∷ 1 ∷ 1 ∷ 0 ∷ 0 ∷ 0 ∷ 0 ∷ 0 ∷ 0 ∷ 0 ∷ 0 ∷ 0 ∷ 1 ∷ 0 ∷ 62 ∷ 0 ∷ 1 ∷ 0 ∷ 0 ∷ 0 ∷ 0 ∷ 0 ∷ 0 ∷ 0 ∷ 0 ∷ 0 ∷ 0 ∷ 0 ∷ 0 ∷ 0 ∷ 0 ∷ 0 ∷ 0 ∷ 0 ∷ 0 ∷ 0 ∷ 120 ∷ 2 ∷ 0 ∷ 0 ∷ 0 ∷ 0 ∷ 0 ∷ 0 ∷ 0 ∷ 0 ∷ 0 ∷ 0 ∷ 64 ∷ 0 ∷ 0 ∷ 0 ∷ 0 ∷ 0 ∷ 64 ∷ 0 ∷ 12 ∷ 0 ∷ 11 ∷ 0 ∷ []

abbrev object_header_record : Ehdr
object_header_record = record {
  e_ident = 127 ∷ 69 ∷ 76 ∷ 70 ∷ 2 ∷ 1 ∷ 1 ∷ 0 ∷ 0 ∷ 0 ∷ 0 ∷ 0 ∷ 0 ∷ 0 ∷ 0 ∷ 0 ∷ [];
  e_type = et_rel;
  e_machine = em_x86_64;
  e_version = 1;
  e_entry = 0;
  e_phoff = 0;
  e_shoff = 632;
  e_flags = 0;
  e_ehsize = 64;
  e_phentsize = 0;
  e_phnum = 0;
  e_shentsize = 64;
  e_shnum = 12;
  e_shstrndx = 11;
}

object_header-read : ehdr_at (9 ∷ 9 ∷ (object_header ++ (9 ∷ []))) 2 ≡ object_header_record
unfolding ehdr_at num number_of signed64
object_header-read = refl

object_header-bytes : ehdr_bytes object_header_record ≡ object_header
unfolding ehdr_bytes bytes_of unsigned64
object_header-bytes = refl

-- the header of `.rela.text`: 96 bytes at 0x1a0, of section 1, with the symbols of section 9
abbrev rela_section : List ℕ
rela_section = 27 ∷ 0 ∷ 0 ∷ 0 ∷ 4 ∷ 0 ∷ 0 ∷ 0 ∷ 64 ∷ 0 ∷ 0 ∷ 0 ∷ 0 ∷ 0 ∷ 0 ∷ 0 ∷ 0 ∷ 0 ∷ 0 ∷ 0 ∷ 0 ∷ 0 ∷ 0 ∷ 0 ∷ 160 ∷ 1 ∷ 0 ∷ 0 ∷ 0 ∷ 0 ∷ 0 ∷ 0 ∷ 96 ∷ 0 ∷ 0 ∷ 0 ∷ 0 ∷ 0 ∷ 0 ∷ 0 ∷ 9 ∷ 0 ∷ 0 ∷ 0 ∷ 1 ∷ 0 ∷ 0 ∷ 0 ∷ 8 ∷ 0 ∷ 0 ∷ 0 ∷ 0 ∷ 0 ∷ 0 ∷ 0 ∷ 24 ∷ 0 ∷ 0 ∷ 0 ∷ 0 ∷ 0 ∷ 0 ∷ 0 ∷ []

abbrev rela_section_record : Shdr
rela_section_record = record {
  sh_name = 27;
  sh_type = sht_rela;
  sh_flags = shf_info_link;
  sh_addr = 0;
  sh_offset = 416;
  sh_size = 96;
  sh_link = 9;
  sh_info = 1;
  sh_addralign = 8;
  sh_entsize = 24;
}

rela_section-read : shdr_at (9 ∷ 9 ∷ (rela_section ++ (9 ∷ []))) 2 ≡ rela_section_record
unfolding shdr_at num number_of signed64
rela_section-read = refl

rela_section-bytes : shdr_bytes rela_section_record ≡ rela_section
unfolding shdr_bytes bytes_of unsigned64
rela_section-bytes = refl

-- the program header of the dynamic section: 0x190 bytes at 0x2e30, loaded at 0x3e30
abbrev dynamic_segment : List ℕ
dynamic_segment = 2 ∷ 0 ∷ 0 ∷ 0 ∷ 6 ∷ 0 ∷ 0 ∷ 0 ∷ 48 ∷ 46 ∷ 0 ∷ 0 ∷ 0 ∷ 0 ∷ 0 ∷ 0 ∷ 48 ∷ 62 ∷ 0 ∷ 0 ∷ 0 ∷ 0 ∷ 0 ∷ 0 ∷ 48 ∷ 62 ∷ 0 ∷ 0 ∷ 0 ∷ 0 ∷ 0 ∷ 0 ∷ 144 ∷ 1 ∷ 0 ∷ 0 ∷ 0 ∷ 0 ∷ 0 ∷ 0 ∷ 144 ∷ 1 ∷ 0 ∷ 0 ∷ 0 ∷ 0 ∷ 0 ∷ 0 ∷ 8 ∷ 0 ∷ 0 ∷ 0 ∷ 0 ∷ 0 ∷ 0 ∷ 0 ∷ []

abbrev dynamic_segment_record : Phdr
dynamic_segment_record = record {
  p_type = pt_dynamic;
  p_flags = pf_r + pf_w;
  p_offset = 11824;
  p_vaddr = 15920;
  p_paddr = 15920;
  p_filesz = 400;
  p_memsz = 400;
  p_align = 8;
}

dynamic_segment-read : phdr_at (9 ∷ 9 ∷ (dynamic_segment ++ (9 ∷ []))) 2 ≡ dynamic_segment_record
unfolding phdr_at num number_of signed64
dynamic_segment-read = refl

dynamic_segment-bytes : phdr_bytes dynamic_segment_record ≡ dynamic_segment
unfolding phdr_bytes bytes_of unsigned64
dynamic_segment-bytes = refl

-- the symbol `main`: a global function of 38 bytes at the start of section 1
abbrev main_symbol : List ℕ
main_symbol = 9 ∷ 0 ∷ 0 ∷ 0 ∷ 18 ∷ 0 ∷ 1 ∷ 0 ∷ 0 ∷ 0 ∷ 0 ∷ 0 ∷ 0 ∷ 0 ∷ 0 ∷ 0 ∷ 38 ∷ 0 ∷ 0 ∷ 0 ∷ 0 ∷ 0 ∷ 0 ∷ 0 ∷ []

abbrev main_symbol_record : Sym
main_symbol_record = record {
  st_name = 9;
  st_info = 18;
  st_other = 0;
  st_shndx = 1;
  st_value = 0;
  st_size = 38;
}

main_symbol-read : sym_at (9 ∷ 9 ∷ (main_symbol ++ (9 ∷ []))) 2 ≡ main_symbol_record
unfolding sym_at num number_of signed64
main_symbol-read = refl

main_symbol-bytes : sym_bytes main_symbol_record ≡ main_symbol
unfolding sym_bytes bytes_of unsigned64
main_symbol-bytes = refl

-- a relocation of type 2 against symbol 5 at 6, with the addend -4
abbrev reference : List ℕ
reference = 6 ∷ 0 ∷ 0 ∷ 0 ∷ 0 ∷ 0 ∷ 0 ∷ 0 ∷ 2 ∷ 0 ∷ 0 ∷ 0 ∷ 5 ∷ 0 ∷ 0 ∷ 0 ∷ 252 ∷ 255 ∷ 255 ∷ 255 ∷ 255 ∷ 255 ∷ 255 ∷ 255 ∷ []

abbrev reference_record : Rela
reference_record = record {
  r_offset = 6;
  r_info = 5 * 2 ^ 32 + 2;
  r_addend = negsuc 3;
}

reference-read : rela_at (9 ∷ 9 ∷ (reference ++ (9 ∷ []))) 2 ≡ reference_record
unfolding rela_at num number_of signed64
reference-read = refl

reference-bytes : rela_bytes reference_record ≡ reference
unfolding rela_bytes bytes_of unsigned64
reference-bytes = refl

-- the entry that names the shared object, at 94 in its string table
abbrev soname_entry : List ℕ
soname_entry = 14 ∷ 0 ∷ 0 ∷ 0 ∷ 0 ∷ 0 ∷ 0 ∷ 0 ∷ 94 ∷ 0 ∷ 0 ∷ 0 ∷ 0 ∷ 0 ∷ 0 ∷ 0 ∷ []

abbrev soname_entry_record : Dyn
soname_entry_record = record {
  d_tag = pos dt_soname;
  d_un = 94;
}

soname_entry-read : dyn_at (9 ∷ 9 ∷ (soname_entry ++ (9 ∷ []))) 2 ≡ soname_entry_record
unfolding dyn_at num number_of signed64
soname_entry-read = refl

soname_entry-bytes : dyn_bytes soname_entry_record ≡ soname_entry
unfolding dyn_bytes bytes_of unsigned64
soname_entry-bytes = refl
