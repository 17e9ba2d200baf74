-- What an object holds (gABI "Symbol Table", "Relocation", "Section Groups"): the pieces, symbols and
-- groups of its summary, its LOCAL symbols, the bytes and the relocations of its sections.
use Rattle.std.specs.Prelude.{ℕ, zero, suc, ◌+◌, ◌*◌, ◌/◌, ◌%◌, ◌==◌, Bool, true, false, not, ◌&&◌, if◌then◌else◌, List, [], ◌∷◌, map, filter, flat_map, filter_map, length, take, drop, slice_get, codes, bytes_eq, Option, Some, None, unwrap_or, option_map, option_to_list, option_and_then, is_some}
use Rattle.std.specs.List.{list_any, range_with_len, enumerate_from}
use Rattle.lk_elf.specs.Fields.{num}
use Rattle.lk_elf.specs.Numbers.{sht_rela, sht_nobits, sht_group, shf_execinstr, stb_local, stt_notype, shn_undef, shn_abs, shn_common, rela_size}
use Rattle.lk_elf.specs.Records.{rela_at}
use Rattle.lk_elf.specs.declared.section_header.Shdr.{Shdr}
use Rattle.lk_elf.specs.declared.symbol.Sym.{Sym}
use Rattle.lk_elf.specs.declared.relocation.Rela.{Rela}
use Rattle.lk_model.specs.declared.layouts.Class.TheVariants.{R}
use Rattle.lk_model.specs.declared.layouts.Class.{Class}
use Rattle.lk_model.specs.declared.layouts.SectionKey.{SectionKey}
use Rattle.lk_model.specs.declared.summaries.Kind.TheVariants.{Object}
use Rattle.lk_model.specs.declared.summaries.InputSummary.{InputSummary}
use Rattle.lk_model.specs.declared.summaries.PieceInfo.{PieceInfo}
use Rattle.lk_model.specs.declared.summaries.Global.{Global}
use Rattle.lk_model.specs.declared.summaries.Group.{Group}
use Rattle.lk_model.specs.declared.summaries.Local.{Local}
use Rattle.lk_model.specs.declared.summaries.Home.{Home}
use Rattle.lk_model.specs.declared.summaries.Home.TheVariants.{Undefined, Section, Absolute, Common}
use Rattle.lk_model.specs.Amounts.{has_flag}
use Rattle.lk_model.specs.Checks.{is_some_with}
use Rattle.lk_model.specs.Elf.{lies_in, numbered, section_at, bytes_under, section_name, symbol_name}
use Rattle.lk_model.specs.Pieces.{key_of}
use Rattle.lk_model.specs.Views.{Elf}

-- the binding of a symbol (gABI "Symbol Table", st_info)
abbrev pub binding_of : Sym → ℕ
binding_of symbol = symbol.st_info / 16

-- the type of a symbol (gABI "Symbol Table", st_info)
abbrev pub type_of : Sym → ℕ
type_of symbol = symbol.st_info % 16

-- the visibility of a symbol (gABI "Symbol Table", st_other)
abbrev pub visibility_of_symbol : Sym → ℕ
visibility_of_symbol symbol = symbol.st_other % 4

-- how many entries of 24 bytes a section has in the file; none where its bytes do not lie in it
abbrev pub rela_count : Elf → Shdr → ℕ
rela_count elf header = if lies_in elf.bytes header.sh_offset header.sh_size then header.sh_size / rela_size else 0

-- the entries of a section of relocations
unfoldable pub relas_under : Elf → Shdr → List Rela
relas_under elf header = map (λ k. rela_at elf.bytes (header.sh_offset + rela_size * k)) (range_with_len 0 (rela_count elf header))

-- the sections of relocations that name a target, by number
abbrev pub rela_sections_of : Elf → ℕ → List (ℕ × Shdr)
rela_sections_of elf target =
    filter (λ (row : ℕ × Shdr). row.1.sh_type == sht_rela && row.1.sh_info == target) (numbered elf.sections)

-- all relocations of a target, by section and entry
unfoldable pub relocations_in : Elf → ℕ → List Rela
relocations_in elf target = flat_map (λ (row : ℕ × Shdr). relas_under elf row.1) (rela_sections_of elf target)

-- the bytes of a section in the file; a NOBITS section has none there
unfoldable pub piece_bytes_in : Elf → ℕ → List ℕ
piece_bytes_in elf n =
    flat_map (λ (header : Shdr). if header.sh_type == sht_nobits then [] else bytes_under elf header)
    (option_to_list (section_at elf n))

-- four zero bytes
abbrev pub four_zeros : List ℕ
four_zeros = 0 ∷ 0 ∷ 0 ∷ 0 ∷ []

-- the class in which frames are looked for
abbrev pub is_class_r : Class → Bool
is_class_r R = true
is_class_r other = false

-- the section of frames: (.eh_frame, R)
abbrev pub is_frames : SectionKey → Bool
is_frames key = is_class_r key.class && bytes_eq key.name (codes ".eh_frame")

-- a terminator, where the section is one of frames: exactly four zero bytes without relocations
unfoldable pub is_terminator_where : Bool → Elf → ℕ → Bool
is_terminator_where false elf n = false
is_terminator_where true elf n = bytes_eq (piece_bytes_in elf n) four_zeros && length (relocations_in elf n) == 0

-- a terminator: a piece of .eh_frame of exactly four zero bytes without relocations
abbrev pub is_terminator : Elf → ℕ → SectionKey → Bool
is_terminator elf n key = is_terminator_where (is_frames key) elf n

-- an alignment of 0 means 1
abbrev pub alignment_of : Shdr → ℕ
alignment_of header = if header.sh_addralign == 0 then 1 else header.sh_addralign

-- the output section of a section of an object; none where it is no piece
abbrev pub key_in : Elf → ℕ → Shdr → Option SectionKey
key_in elf n header =
    option_and_then (λ name. key_of name header.sh_type header.sh_flags) (section_name elf n)

-- whether a section, by number, is a piece
abbrev pub is_piece_in : Elf → ℕ → Bool
is_piece_in elf n = is_some_with (λ (header : Shdr). is_some (key_in elf n header)) (section_at elf n)

-- what the summary says of a piece
unfoldable pub piece_with : ℕ → Shdr → List ℕ → Bool → SectionKey → PieceInfo
piece_with n header name terminator key = record {
  section = n;
  name = name;
  key = key;
  size = if terminator then 0 else header.sh_size;
  align = alignment_of header;
  terminator = terminator;
}

-- a section as a piece, by its name
unfoldable pub piece_named : Elf → ℕ → Shdr → List ℕ → Option PieceInfo
piece_named elf n header name =
    option_map (λ (key : SectionKey). piece_with n header name (is_terminator elf n key) key)
    (key_of name header.sh_type header.sh_flags)

-- the pieces by rising section number
unfoldable pub pieces_in : Elf → List PieceInfo
pieces_in elf =
    filter_map (λ (row : ℕ × Shdr). option_and_then (piece_named elf row.0 row.1) (section_name elf row.0))
    (numbered elf.sections)

-- where a symbol is defined, by its section number (gABI "Symbol Table", st_shndx)
abbrev pub home_of : ℕ → Home
home_of number =
    if number == shn_undef then Undefined
    else if number == shn_abs then Absolute
    else if number == shn_common then Common
    else Section number

-- a symbol that is not LOCAL, by its number and name
unfoldable pub global_with : ℕ → Sym → List ℕ → Global
global_with k symbol name = record {
  symbol = k;
  name = name;
  binding = binding_of symbol;
  code = type_of symbol;
  visibility = visibility_of_symbol symbol;
  home = home_of symbol.st_shndx;
  value = symbol.st_value;
  size = symbol.st_size;
}

-- the symbols from entry 1, with their numbers; entry 0 is the null symbol whatever its bytes are
abbrev pub numbered_symbols : Elf → List (ℕ × Sym)
numbered_symbols elf = enumerate_from 1 (drop 1 elf.symbols)

-- a symbol with this binding is LOCAL
abbrev pub is_local : Sym → Bool
is_local symbol = binding_of symbol == stb_local

-- the symbols that are not LOCAL, by rising number
unfoldable pub globals_in : Elf → List Global
globals_in elf =
    filter_map (λ (row : ℕ × Sym). option_map (global_with row.0 row.1) (symbol_name elf row.0))
    (filter (λ (row : ℕ × Sym). not (is_local row.1)) (numbered_symbols elf))

-- the words of four bytes of a section in the file
unfoldable pub words_under : Elf → Shdr → List ℕ
words_under elf header =
    map (λ k. num elf.bytes (header.sh_offset + 4 * k) 4)
    (range_with_len 0 (if lies_in elf.bytes header.sh_offset header.sh_size then header.sh_size / 4 else 0))

-- the sections that are groups, with their numbers (gABI "Section Groups")
abbrev pub group_sections : Elf → List (ℕ × Shdr)
group_sections elf = filter (λ (row : ℕ × Shdr). row.1.sh_type == sht_group) (numbered elf.sections)

-- the members of a group
abbrev pub members_under : Elf → Shdr → List ℕ
members_under elf header = drop 1 (words_under elf header)

-- the first word of a group says COMDAT
abbrev pub is_comdat : Elf → Shdr → Bool
is_comdat elf header = list_any (λ word. word == 1) (take 1 (words_under elf header))

-- the name of the section in which a symbol is defined
abbrev pub section_name_of : Elf → Home → Option (List ℕ)
section_name_of elf (Section n) = section_name elf n
section_name_of elf other = None

-- a name, or where it is empty the name of the section in which the symbol is defined
abbrev pub name_or_section : Elf → Home → List ℕ → Option (List ℕ)
name_or_section elf home [] = section_name_of elf home
name_or_section elf home (b ∷ bs) = Some (b ∷ bs)

-- the signature of a group with this symbol
abbrev pub signature_with : Elf → ℕ → Sym → Option (List ℕ)
signature_with elf k symbol = option_and_then (name_or_section elf (home_of symbol.st_shndx)) (symbol_name elf k)

-- the signature of a group; none for the null symbol
unfoldable pub signature_of : Elf → ℕ → Option (List ℕ)
signature_of elf zero = None
signature_of elf (suc k) = option_and_then (signature_with elf (suc k)) (slice_get elf.symbols (suc k))

-- the COMDAT groups by rising section number
unfoldable pub groups_in : Elf → List Group
groups_in elf =
    filter_map (λ (row : ℕ × Shdr). option_map (λ signature. record { signature = signature; members = members_under elf row.1 }) (signature_of elf row.1.sh_info))
    (filter (λ (row : ℕ × Shdr). is_comdat elf row.1) (group_sections elf))

-- a section that asks for an executable stack
unfoldable pub asks_exec_stack : Elf → ℕ × Shdr → Bool
asks_exec_stack elf row =
    has_flag row.1.sh_flags shf_execinstr && is_some_with (bytes_eq (codes ".note.GNU-stack")) (section_name elf row.0)

-- what a link keeps of an object
unfoldable pub summary_in : Elf → InputSummary
summary_in elf = record {
  kind = Object;
  soname = [];
  exec_stack = list_any (asks_exec_stack elf) (numbered elf.sections);
  pieces = pieces_in elf;
  globals = globals_in elf;
  groups = groups_in elf;
}

-- a symbol as a LOCAL one
abbrev pub local_with : Sym → Local
local_with symbol = record {
  home = home_of symbol.st_shndx;
  value = symbol.st_value;
  size = symbol.st_size;
  code = type_of symbol;
}

-- the null symbol
abbrev pub null_symbol : Local
null_symbol = record { home = Undefined; value = 0; size = 0; code = stt_notype }

-- a LOCAL symbol by its number; number 0 is the null symbol, and no other number is asked for that has no symbol
unfoldable pub local_in : Elf → ℕ → Local
local_in elf zero = null_symbol
local_in elf (suc k) = unwrap_or (option_map local_with (slice_get elf.symbols (suc k))) null_symbol
