-- The numbers of a file's fields are below their widths (gABI "Data Representation"), and a file has no more headers
-- and symbols than its fields and its length have room for.
use Rattle.std.specs.Prelude.{◌≡◌, refl, ℕ, zero, suc, ◌+◌, ◌*◌, ◌/◌, ◌^◌, ◌<◌, ◌≤◌, Bool, true, false, if◌then◌else◌, List, [], ◌∷◌, drop, length, take, Option, Some, None}
use Rattle.std.specs.List.{AllByRecursion}
use Rattle.std.proofs.Common.{arith}
use Rattle.std.proofs.Math.Nat.{pow-suc}
use Rattle.std.proofs.lemmas.Bool.{leb-true}
use Rattle.lk_elf.specs.Fields.{num, number_of}
use Rattle.lk_elf.specs.Numbers.{shdr_size, sym_size}
use Rattle.lk_elf.specs.Records.{ehdr_at, shdr_at, sym_at}
use Rattle.lk_elf.specs.declared.file_header.Ehdr.{Ehdr}
use Rattle.lk_elf.specs.declared.section_header.Shdr.{Shdr}
use Rattle.lk_elf.specs.declared.symbol.Sym.{Sym}
use Rattle.lk_model.specs.Elf.{elf_of, elf_under, elf_with, first_of_type, lies_in, section_headers_of, symbols_of}
use Rattle.lk_model.specs.Views.{Elf}
use Rattle.lk_law_records.proofs.Lists.{all-drop, all-range, length-mapped}

-- ---- fields

abbrev pub AreBytes : List ℕ → Type 0
AreBytes bytes = AllByRecursion (λ b. b < 256) bytes

number-below : (w : ℕ) (bytes : List ℕ) → AreBytes bytes → number_of (take w bytes) < 256 ^ w
unfolding number_of
number-below zero bytes are = omega arith
number-below (suc w) [] are =
    let power = pow-suc 256 w in
    let some = number-below w [] tt in
    omega (arith, power, some)
number-below (suc w) (b ∷ bytes) (here, more) =
    let power = pow-suc 256 w in
    let rest = number-below w bytes more in
    omega (arith, power, rest, here)

pub num-below : (bytes : List ℕ) (at w : ℕ) → AreBytes bytes → num bytes at w < 256 ^ w
unfolding num
num-below bytes at w are = number-below w (drop at bytes) (all-drop (λ b. b < 256) at bytes are)

-- ---- headers and symbols

pub record IsLowShdr (h : Shdr) : Type 0 where
  pub size : h.sh_size < 2 ^ 64
  pub align : h.sh_addralign < 2 ^ 64

pub record IsLowSym (s : Sym) : Type 0 where
  pub info : s.st_info < 256
  pub section : s.st_shndx < 2 ^ 16
  pub value : s.st_value < 2 ^ 64
  pub size : s.st_size < 2 ^ 64

shdr-low : (bytes : List ℕ) (at : ℕ) → AreBytes bytes → IsLowShdr (shdr_at bytes at)
unfolding shdr_at
shdr-low bytes at are = record { size = num-below bytes (at + 32) 8 are; align = num-below bytes (at + 48) 8 are }

sym-low : (bytes : List ℕ) (at : ℕ) → AreBytes bytes → IsLowSym (sym_at bytes at)
unfolding sym_at
sym-low bytes at are = record {
  info = num-below bytes (at + 4) 1 are;
  section = num-below bytes (at + 6) 2 are;
  value = num-below bytes (at + 8) 8 are;
  size = num-below bytes (at + 16) 8 are;
}

-- as many as the file has room for
pub counted : (b : Bool) (n most : ℕ) → (b ≡ true → n ≤ most) → (if b then n else 0) ≤ most
counted true n most low = low refl
counted false n most low = omega arith

headers-low : (bytes : List ℕ) (header : Ehdr) → AreBytes bytes → AllByRecursion IsLowShdr (section_headers_of bytes header)
unfolding section_headers_of
headers-low bytes header are =
    all-range IsLowShdr (λ n. shdr_at bytes (header.e_shoff + shdr_size * n)) 0
    (if lies_in bytes header.e_shoff (shdr_size * header.e_shnum) then header.e_shnum else 0)
    (λ k. shdr-low bytes (header.e_shoff + shdr_size * k) are)

headers-few : (bytes : List ℕ) (header : Ehdr) → length (section_headers_of bytes header) ≤ header.e_shnum
unfolding section_headers_of
headers-few bytes header =
    let inside = lies_in bytes header.e_shoff (shdr_size * header.e_shnum) in
    let long = length-mapped (λ n. shdr_at bytes (header.e_shoff + shdr_size * n)) 0 (if inside then header.e_shnum else 0) in
    let most = counted inside header.e_shnum header.e_shnum (λ e. omega arith) in
    omega (arith, long, most)

pub symbols-low : (bytes : List ℕ) (table : Option (ℕ × Shdr)) → AreBytes bytes → AllByRecursion IsLowSym (symbols_of bytes table)
unfolding symbols_of
symbols-low bytes None are = tt
symbols-low bytes (Some table) are =
    all-range IsLowSym (λ k. sym_at bytes (table.1.sh_offset + sym_size * k)) 0
    (if lies_in bytes table.1.sh_offset table.1.sh_size then table.1.sh_size / sym_size else 0)
    (λ k. sym-low bytes (table.1.sh_offset + sym_size * k) are)

pub symbols-few : (bytes : List ℕ) (table : Option (ℕ × Shdr)) → length (symbols_of bytes table) ≤ length bytes
unfolding symbols_of
symbols-few bytes None = omega arith
symbols-few bytes (Some table) =
    let inside = lies_in bytes table.1.sh_offset table.1.sh_size in
    let n = table.1.sh_size / sym_size in
    let long = length-mapped (λ k. sym_at bytes (table.1.sh_offset + sym_size * k)) 0 (if inside then n else 0) in
    let most = counted inside n (length bytes) (λ e. let end = leb-true (table.1.sh_offset + table.1.sh_size) (length bytes) e in omega (arith, end)) in
    omega (arith, long, most)

-- ---- a file

pub record IsLowElf (elf : Elf) : Type 0 where
  pub are : AreBytes elf.bytes
  pub size : length elf.bytes < 2 ^ 32
  pub sections : AllByRecursion IsLowShdr elf.sections
  pub few : length elf.sections < 2 ^ 16
  pub symbols : AllByRecursion IsLowSym elf.symbols
  pub symbols_few : length elf.symbols < 2 ^ 32

count-low : (bytes : List ℕ) → AreBytes bytes → (ehdr_at bytes 0).e_shnum < 2 ^ 16
unfolding ehdr_at
count-low bytes are = num-below bytes 60 2 are

pub elf-low : (bytes : List ℕ) → AreBytes bytes → length bytes < 2 ^ 32 → IsLowElf (elf_of bytes)
unfolding elf_of elf_under elf_with
elf-low bytes are short =
    let header = ehdr_at bytes 0 in
    let headers = section_headers_of bytes header in
    let table = first_of_type 2 headers in
    let count = count-low bytes are in
    let few = headers-few bytes header in
    let symbols = symbols-few bytes table in
    record {
      are = are;
      size = short;
      sections = headers-low bytes header are;
      few = omega (arith, count, few);
      symbols = symbols-low bytes table are;
      symbols_few = omega (arith, symbols, short);
    }
