-- What a loader takes of an image beside the bytes that it maps, and what it refuses (gABI "Program
-- Header", "Program Loading", "Dynamic Section", "Hash Table"). The refusals and their order are this
-- project's own.
use Rattle.std.specs.Prelude.{ℕ, ◌+◌, ◌*◌, ◌/◌, ◌==◌, Bool, not, ◌&&◌, nat_lt, nat_le, List, [], ◌∷◌, ◌++◌, map, filter, flat_map, filter_map, find, length, drop, is_some, is_none, Option, Some, None, unwrap_or, option_map}
use Rattle.std.specs.Bool.{then_some}
use Rattle.std.specs.List.{list_any, list_all, range_with_len, enumerate_from}
use Rattle.lk_elf.specs.Fields.{num}
use Rattle.lk_elf.specs.Numbers.{et_exec, pt_load, pt_dynamic, shn_undef, dt_needed, dt_hash, dt_strtab, dt_symtab, dt_rela, dt_relasz, dt_strsz, dt_jmprel, dt_pltrelsz, ehdr_size, phdr_size, sym_size, rela_size}
use Rattle.lk_elf.specs.Records.{ehdr_at, sym_at, rela_at}
use Rattle.lk_elf.specs.declared.dynamic_entry.Dyn.{Dyn}
use Rattle.lk_elf.specs.declared.program_header.Phdr.{Phdr}
use Rattle.lk_elf.specs.declared.relocation.Rela.{Rela}
use Rattle.lk_elf.specs.declared.symbol.Sym.{Sym}
use Rattle.lk_model.specs.Checks.{first_fault}
use Rattle.lk_model.specs.DynamicEntries.{counted_entries, all_with_tag, first_with_tag}
use Rattle.lk_model.specs.Elf.{lies_in, text_in}
use Rattle.lk_model.specs.InputsReading.{with_value}
use Rattle.lk_model.specs.Kinds.{has_magic, is_known_class}
use Rattle.lk_model.specs.Loading.{LoadedByte, loaded_by, headers_in}

-- why a loader takes no image: it is no executable ELF64 file; the header of this number, or the range of
-- the file that it names, does not lie in the file; the LOAD at the header of this number begins below the
-- end of an earlier one; what DYNAMIC names is not there
pub data LoadRefusal : Type 0 where
  NotElf : LoadRefusal
  BadTable : (header : ℕ) → LoadRefusal
  Overlap : (header : ℕ) → LoadRefusal
  BadDynamic : LoadRefusal

-- ---- the headers

-- an executable ELF64 file of this byte order: a whole header with the magic bytes, class, byte order,
-- version and type; machine and other fields are not looked at
abbrev pub is_executable_file : List ℕ → Bool
is_executable_file image =
    nat_le ehdr_size (length image)
    && has_magic image
    && is_known_class (ehdr_at image 0)
    && (ehdr_at image 0).e_type == et_exec

-- the checks of a program header, of any type: its own bytes and its range of the file lie in the file; a
-- range without a byte, as thread-local zeros alone have it, may be anywhere
abbrev pub header_refusals : List ℕ → ℕ × Phdr → List (Bool × LoadRefusal)
header_refusals image row =
    (not (lies_in image ((ehdr_at image 0).e_phoff + phdr_size * row.0) phdr_size), LoadRefusal.BadTable row.0)
    ∷ (not (row.1.p_filesz == 0) && not (lies_in image row.1.p_offset row.1.p_filesz), LoadRefusal.BadTable row.0)
    ∷ []

-- the LOAD headers with their numbers among all headers, from 0
abbrev pub numbered_loads : List Phdr → List (ℕ × Phdr)
numbered_loads headers = filter (λ (row : ℕ × Phdr). row.1.p_type == pt_load) (enumerate_from 0 headers)

-- an earlier LOAD that ends above the beginning of this one
abbrev pub reaches_into : ℕ × Phdr → ℕ × Phdr → Bool
reaches_into row earlier = nat_lt earlier.0 row.0 && nat_lt row.1.p_vaddr (earlier.1.p_vaddr + earlier.1.p_memsz)

-- the checks of each LOAD against those before it
abbrev pub overlap_refusals : List (ℕ × Phdr) → List (Bool × LoadRefusal)
overlap_refusals loads = map (λ (row : ℕ × Phdr). (list_any (reaches_into row) loads, LoadRefusal.Overlap row.0)) loads

-- the checks of an image that look at its headers, in their order
unfoldable pub load_checks : List ℕ → List (Bool × LoadRefusal)
load_checks image =
    (not (is_executable_file image), LoadRefusal.NotElf)
    ∷ flat_map (header_refusals image) (enumerate_from 0 (headers_in image))
    ++ overlap_refusals (numbered_loads (headers_in image))

-- where the program begins
unfoldable pub entry_in : List ℕ → ℕ
entry_in image = (ehdr_at image 0).e_entry

-- ---- bytes in memory

-- what is at an address in memory
abbrev pub byte_in_memory : List ℕ → List Phdr → ℕ → Option ℕ
byte_in_memory image headers address = option_map (λ (b : LoadedByte). b.byte) (loaded_by image headers address)

module _ {X : Type 0} where
  -- all of these; none where one is missing
  abbrev pub all_of : List (Option X) → Option (List X)
  all_of xs = then_some (list_all is_some xs) (filter_map (λ x. x) xs)

-- so many bytes in memory from an address on; none where one of them is not loaded
abbrev pub bytes_in_memory : (ℕ → Option ℕ) → ℕ → ℕ → Option (List ℕ)
bytes_in_memory memory address size = all_of (map memory (range_with_len address size))

-- the bytes of the DYNAMIC segment: of the first header of that type, and none are asked for without it
abbrev pub segment_bytes : (ℕ → Option ℕ) → Option Phdr → Option (List ℕ)
segment_bytes memory None = Some []
segment_bytes memory (Some h) = bytes_in_memory memory h.p_vaddr h.p_memsz

-- ---- the tables that DYNAMIC names by address

-- the bytes of a table: it is empty where its address is not named
abbrev pub table_at : (ℕ → Option ℕ) → Option ℕ → ℕ → Option (List ℕ)
table_at memory None size = Some []
table_at memory (Some address) size = bytes_in_memory memory address size

-- a size: 0 where it is not named
abbrev pub named_size : ℕ → List Dyn → ℕ
named_size tag entries = unwrap_or (first_with_tag tag entries) 0

-- the size of a hash table, by its first two words nbucket and nchain (gABI "Hash Table")
abbrev pub hash_size : List ℕ → ℕ
hash_size head = 4 * (2 + num head 0 4 + num head 4 4)

-- the bytes of the hash table
abbrev pub hash_at : (ℕ → Option ℕ) → Option ℕ → Option (List ℕ)
hash_at memory None = Some []
hash_at memory (Some address) = with_value (bytes_in_memory memory address 8) (λ head. bytes_in_memory memory address (hash_size head))

-- how many symbols there are: nchain, and none without a hash table (gABI "Hash Table")
abbrev pub symbol_count : List ℕ → ℕ
symbol_count hash = num hash 4 4

-- ---- what the tables say

-- a symbol by which an image and its shared objects find each other; `info` has binding and type
pub record LoadedSymbol : Type 0 where
  pub name : List ℕ
  pub value : ℕ
  pub size : ℕ
  pub info : ℕ
  pub defined : Bool

-- a text of the string table: its closing zero lies in the table
abbrev pub text_of_table : List ℕ → ℕ → Option (List ℕ)
text_of_table strings offset = text_in (drop offset strings)

-- a symbol with its name; none where its name does not end in the string table
abbrev pub loaded_symbol : List ℕ → Sym → Option LoadedSymbol
loaded_symbol strings symbol =
    option_map (λ name. record { name = name; value = symbol.st_value; size = symbol.st_size; info = symbol.st_info; defined = not (symbol.st_shndx == shn_undef) })
    (text_of_table strings symbol.st_name)

-- all records of a symbol table, number k at place k; none where a name does not end in the string table
abbrev pub loaded_symbols : List ℕ → List ℕ → Option (List LoadedSymbol)
loaded_symbols strings bytes =
    all_of (map (λ k. loaded_symbol strings (sym_at bytes (sym_size * k))) (range_with_len 0 (length bytes / sym_size)))

-- the whole records of a table of relocations
abbrev pub loaded_relas : List ℕ → List Rela
loaded_relas bytes = map (λ k. rela_at bytes (rela_size * k)) (range_with_len 0 (length bytes / rela_size))

-- what DYNAMIC names: the shared objects that are needed, the symbols, the relocations
pub record NamedParts : Type 0 where
  pub needed : List (List ℕ)
  pub symbols : List LoadedSymbol
  pub relocations : List Rela

-- what these entries name; none where a byte of it is not loaded or a text does not end
unfoldable pub named_by : (ℕ → Option ℕ) → List Dyn → Option NamedParts
named_by memory entries =
    with_value (hash_at memory (first_with_tag dt_hash entries)) (λ hash.
    with_value (table_at memory (first_with_tag dt_symtab entries) (sym_size * symbol_count hash)) (λ records.
    with_value (table_at memory (first_with_tag dt_strtab entries) (named_size dt_strsz entries)) (λ strings.
    with_value (table_at memory (first_with_tag dt_rela entries) (named_size dt_relasz entries)) (λ relas.
    with_value (table_at memory (first_with_tag dt_jmprel entries) (named_size dt_pltrelsz entries)) (λ jumps.
    with_value (all_of (map (text_of_table strings) (all_with_tag dt_needed entries))) (λ needed.
    with_value (loaded_symbols strings records) (λ symbols.
    Some (record { needed = needed; symbols = symbols; relocations = loaded_relas relas ++ loaded_relas jumps }))))))))

-- what the DYNAMIC segment of an image with these headers names
abbrev pub named_under : List ℕ → List Phdr → Option NamedParts
named_under image headers =
    with_value (segment_bytes (byte_in_memory image headers) (find (λ (h : Phdr). h.p_type == pt_dynamic) headers))
    (λ bytes. named_by (byte_in_memory image headers) (counted_entries bytes 0 (length bytes)))

-- what the DYNAMIC segment of an image names; none where it is refused
unfoldable pub named_in : List ℕ → Option NamedParts
named_in image = named_under image (headers_in image)

-- the shared objects that an image needs, by name; where what DYNAMIC names is not all loaded there are none
unfoldable pub needed_in : List ℕ → List (List ℕ)
needed_in image = elim (named_in image) [ None ↦ [] | Some named ↦ named.needed ]

-- the symbols of an image, number k at place k; where what DYNAMIC names is not all loaded there are none
unfoldable pub dynamic_symbols_in : List ℕ → List LoadedSymbol
dynamic_symbols_in image = elim (named_in image) [ None ↦ [] | Some named ↦ named.symbols ]

-- the relocations of an image, those of RELA and then those of JMPREL; of an image that is refused there
-- are none
unfoldable pub dynamic_relocations_in : List ℕ → List Rela
dynamic_relocations_in image = elim (named_in image) [ None ↦ [] | Some named ↦ named.relocations ]

-- ---- the refusal

-- the refusal of an image whose headers have this one
abbrev pub load_refusal_after : Option LoadRefusal → List ℕ → Option LoadRefusal
load_refusal_after (Some refusal) image = Some refusal
load_refusal_after None image = then_some (is_none (named_in image)) LoadRefusal.BadDynamic

-- why a loader refuses an image: the first refusal that holds
unfoldable pub load_refusal : List ℕ → Option LoadRefusal
load_refusal image = load_refusal_after (first_fault (load_checks image)) image
