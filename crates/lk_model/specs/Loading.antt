-- What a loader makes of an image (gABI "Program Loading"): each LOAD header maps a range of the file
-- to addresses with its rights; the bytes of its memory past its file range are zeros. What a
-- loader refuses, and what DYNAMIC names, is reported in Loads.
use Rattle.std.specs.Prelude.{◌≡◌, ℕ, ◌+◌, ◌-◌, ◌*◌, ◌<◌, ◌==◌, ◌&&◌, Bool, List, length, map, find, nat_le, nat_lt, Option, Some, option_map, slice_index, if◌then◌else◌}
use Rattle.std.specs.List.{range_with_len}
use Rattle.lk_elf.specs.declared.program_header.Phdr.{Phdr}
use Rattle.lk_elf.specs.Fields.{num}
use Rattle.lk_elf.specs.Numbers.{pt_load, pt_tls}
use Rattle.lk_elf.specs.Records.{phdr_at}

-- the program headers of an image, by its file header
abbrev pub header_in : List ℕ → ℕ → Phdr
header_in image n = phdr_at image (num image 32 8 + 56 * n)

unfoldable pub headers_in : List ℕ → List Phdr
headers_in image = map (header_in image) (range_with_len 0 (num image 56 2))

-- whether a LOAD header maps an address
abbrev pub is_mapped_by : ℕ → Phdr → Bool
is_mapped_by address h = (h.p_type == pt_load) && (nat_le h.p_vaddr address && nat_lt address (h.p_vaddr + h.p_memsz))

-- a loaded byte with its rights
pub record LoadedByte : Type 0 where
  pub byte : ℕ
  pub rights : ℕ

abbrev pub byte_under : List ℕ → ℕ → Phdr → LoadedByte
byte_under image address h = record {
  byte = if nat_lt (address - h.p_vaddr) h.p_filesz then slice_index image (h.p_offset + (address - h.p_vaddr)) else 0;
  rights = h.p_flags;
}

-- what a loader puts at an address: by the first LOAD header that maps it
abbrev pub loaded_by : List ℕ → List Phdr → ℕ → Option LoadedByte
loaded_by image headers address = option_map (byte_under image address) (find (is_mapped_by address) headers)

unfoldable pub loaded : List ℕ → ℕ → Option LoadedByte
loaded image address = loaded_by image (headers_in image) address

-- the thread-local segment
abbrev pub is_tls : Phdr → Bool
is_tls h = h.p_type == pt_tls

unfoldable pub tls_in : List ℕ → Option Phdr
tls_in image = find is_tls (headers_in image)

-- these bytes are loaded from an address on, with these rights
abbrev pub IsLoaded : List ℕ → ℕ → ℕ → List ℕ → Type 0
IsLoaded image rights address bytes =
    (k : ℕ) → k < length bytes → loaded image (address + k) ≡ Some (record { byte = slice_index bytes k; rights = rights })

-- so many zeros are loaded from an address on, with these rights
abbrev pub IsLoadedZero : List ℕ → ℕ → ℕ → ℕ → Type 0
IsLoadedZero image rights address size =
    (k : ℕ) → k < size → loaded image (address + k) ≡ Some (record { byte = 0; rights = rights })
