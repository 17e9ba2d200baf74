-- The runs of bytes that a loader maps (gABI "Program Loading"): one for each LOAD header, in their order,
-- and what is at an address by them.
use Rattle.std.specs.Prelude.{ℕ, ◌+◌, ◌-◌, ◌≤◌, ◌==◌, ◌&&◌, Bool, nat_le, nat_lt, List, [], ◌∷◌, ◌++◌, drop, filter, find, length, map, replicate, slice_index, take, Option, option_map}
use Rattle.lk_elf.specs.Numbers.{pt_load}
use Rattle.lk_elf.specs.declared.program_header.Phdr.{Phdr}
use Rattle.lk_model.specs.Loading.{LoadedByte, headers_in}
use Rattle.lk_loader.specs.declared.loads.Run.{Run}

-- whether a header is that of a segment that is loaded
abbrev pub is_load : Phdr → Bool
is_load h = h.p_type == pt_load

-- the bytes of a segment in memory: those of its range of the file, at most as many as its memory has,
-- then zeros up to its size in memory
abbrev pub memory_under : List ℕ → Phdr → List ℕ
memory_under image h = take h.p_memsz (take h.p_filesz (drop h.p_offset image)) ++ replicate (h.p_memsz - h.p_filesz) 0

-- the run of a LOAD header
abbrev pub run_under : List ℕ → Phdr → Run
run_under image h = record { addr = h.p_vaddr; flags = h.p_flags; bytes = memory_under image h }

-- the runs of these headers
abbrev pub runs_of : List ℕ → List Phdr → List Run
runs_of image headers = map (run_under image) (filter is_load headers)

-- the runs of an image
unfoldable pub runs_in : List ℕ → List Run
runs_in image = runs_of image (headers_in image)

-- ---- what is at an address

abbrev pub has_address : ℕ → Run → Bool
has_address address run = nat_le run.addr address && nat_lt address (run.addr + length run.bytes)

abbrev pub byte_in_run : ℕ → Run → LoadedByte
byte_in_run address run = record { byte = slice_index run.bytes (address - run.addr); rights = run.flags }

-- the byte at an address with its rights, by the first run that has the address
abbrev pub mapped_by : List Run → ℕ → Option LoadedByte
mapped_by runs address = option_map (byte_in_run address) (find (has_address address) runs)

-- the byte at an address
abbrev pub run_memory : List Run → ℕ → Option ℕ
run_memory runs address = option_map (λ (b : LoadedByte). b.byte) (mapped_by runs address)

-- each run begins at or above the end of the one before, the first at or above this address
abbrev pub RiseFrom : ℕ → List Run → Type 0
RiseFrom end [] = Unit {0}
RiseFrom end (run ∷ runs) = (end ≤ run.addr) × RiseFrom (run.addr + length run.bytes) runs
