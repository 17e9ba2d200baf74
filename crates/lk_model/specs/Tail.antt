-- The tail of an image (this project's own; gABI "Sections" for the headers): the parts after the
-- last byte of the loaded part and of class N, each at the next multiple of 8, then the section
-- headers. This is its first form: of the record sections it has the inputs and the texts.
use Rattle.std.specs.Prelude.{ℕ, ◌+◌, Bool, List, [], ◌∷◌, ◌++◌, length, map, Some, None, position, if◌then◌else◌, codes, find, option_map, unwrap_or}
use Rattle.std.specs.List.{list_any}
use Rattle.std.specs.Str.{bytes_eq}
use Rattle.lk_elf.specs.declared.section_header.Shdr.{Shdr}
use Rattle.lk_elf.specs.Numbers.{sht_null, sht_progbits, sht_symtab, sht_strtab, sym_size, rela_size, dyn_size}
use Rattle.lk_model.specs.Amounts.{round_up}
use Rattle.lk_model.specs.FullPlace.{tail_start}
use Rattle.lk_model.specs.InputsSection.{inputs_fields}
use Rattle.lk_model.specs.SectionKeys.{named, same_key, header_type, header_flags}
use Rattle.lk_model.specs.RecordFields.{spelled, texts_of}
use Rattle.lk_model.specs.RecordsOf.{records_of}
use Rattle.lk_model.specs.Texts.{table_of, table_bytes, offset_in}
use Rattle.lk_model.specs.Views.{Resolved}
use Rattle.lk_model.specs.declared.layouts.Class.TheVariants.{R, W, N}
use Rattle.lk_model.specs.declared.layouts.Placement.{Placement}
use Rattle.lk_model.specs.declared.layouts.SectionKey.{SectionKey}
use Rattle.lk_model.specs.declared.layouts.SectionRow.{SectionRow}
use Rattle.lk_model.specs.declared.records.Records.{Records}

-- a part of the tail: a section by its name, with its bytes
pub record Part : Type 0 where
  pub name : List ℕ
  pub bytes : List ℕ

-- the record sections in their first form: the inputs, and the texts in order of first use in them
unfoldable pub record_parts : Records → List Part
record_parts records =
    let fields = inputs_fields records in
    let table = table_of (texts_of fields) in
    record { name = codes ".gnu_incremental_inputs"; bytes = spelled (offset_in table) fields }
    ∷ record { name = codes ".gnu_incremental_strtab"; bytes = table_bytes table } ∷ []

-- the names of the sections of an image, in header order
abbrev pub row_name : SectionRow → List ℕ
row_name row = row.key.name

abbrev pub part_name : Part → List ℕ
part_name part = part.name

abbrev pub header_names : Placement → List Part → List (List ℕ)
header_names place parts = map row_name place.sections ++ map part_name parts ++ codes ".shstrtab" ∷ []

-- the parts of the tail: the record sections and the table of section names
unfoldable pub tail_parts : Resolved → Placement → List Part
tail_parts r place =
    let parts = record_parts (records_of r place) in
    parts ++ record { name = codes ".shstrtab"; bytes = table_bytes (table_of (header_names place parts)) } ∷ []

-- a part with the place in the file where it is
pub record PlacedPart : Type 0 where
  pub part : Part
  pub offset : ℕ

-- the parts, each at the next multiple of 8
abbrev pub parts_from : ℕ → List Part → List PlacedPart
parts_from at [] = []
parts_from at (p ∷ ps) = let start = round_up at 8 in record { part = p; offset = start } ∷ parts_from (start + length p.bytes) ps

-- where the parts end
abbrev pub parts_end : ℕ → List Part → ℕ
parts_end at [] = at
parts_end at (p ∷ ps) = parts_end (round_up at 8 + length p.bytes) ps

-- where the section headers are
abbrev pub headers_offset : Placement → List Part → ℕ
headers_offset place parts = round_up (parts_end (tail_start place) parts) 8

-- the row of a part of the tail
abbrev pub part_row : PlacedPart → SectionRow
part_row p = record {
  key = named p.part.name N;
  addr = 0;
  offset = p.offset;
  size = length p.part.bytes;
  room = length p.part.bytes;
  align = 8;
}

-- whether a part is the table of symbols
abbrev pub is_symtab_part : List ℕ → Bool
is_symtab_part name = bytes_eq name (codes ".symtab")

-- the type of a part's header
abbrev pub part_type : List ℕ → ℕ
part_type name =
    if is_symtab_part name then sht_symtab
    else (if list_any (bytes_eq name) (codes ".strtab" ∷ codes ".shstrtab" ∷ []) then sht_strtab else sht_progbits)

-- the number of the header of an output section, 0 without it: the null header comes first
abbrev pub header_number : Placement → SectionKey → ℕ
header_number place key =
    elim (position (λ (row : SectionRow). same_key row.key key) place.sections) [ None ↦ 0 | Some n ↦ n + 1 ]

-- the number of the header of a part, 0 without it
abbrev pub part_number : Placement → List Part → List ℕ → ℕ
part_number place parts name =
    elim (position (λ (part : Part). bytes_eq part.name name) parts) [ None ↦ 0 | Some n ↦ length place.sections + n + 1 ]

-- the sections whose entries name symbols, and those that name texts (gABI "Sections", sh_link)
abbrev pub names_symbols : SectionKey → Bool
names_symbols key = list_any (same_key key) (named (codes ".hash") R ∷ named (codes ".rela.dyn") R ∷ named (codes ".rela.plt") R ∷ [])

abbrev pub names_texts : SectionKey → Bool
names_texts key = list_any (same_key key) (named (codes ".dynsym") R ∷ named (codes ".dynamic") W ∷ [])

-- the section that a section's entries name things in
abbrev pub link_of : Placement → SectionKey → ℕ
link_of place key =
    if names_symbols key then header_number place (named (codes ".dynsym") R)
    else (if names_texts key then header_number place (named (codes ".dynstr") R) else 0)

-- the number of the first symbol of a table that is not LOCAL (gABI "Sections", sh_info)
abbrev pub info_of : SectionKey → ℕ
info_of key = if same_key key (named (codes ".dynsym") R) then 1 else 0

-- the size of an entry of a table (gABI "Sections", sh_entsize)
abbrev pub entry_sizes : List (SectionKey × ℕ)
entry_sizes =
    (named (codes ".dynsym") R, sym_size)
    ∷ (named (codes ".rela.dyn") R, rela_size)
    ∷ (named (codes ".rela.plt") R, rela_size)
    ∷ (named (codes ".dynamic") W, dyn_size)
    ∷ (named (codes ".hash") R, 4)
    ∷ []

abbrev pub entry_size_of : SectionKey → ℕ
entry_size_of key =
    unwrap_or (option_map (λ (entry : SectionKey × ℕ). entry.1) (find (λ (entry : SectionKey × ℕ). same_key key entry.0) entry_sizes)) 0

-- the header of an output section
abbrev pub row_header : Placement → (List ℕ → ℕ) → SectionRow → Shdr
row_header place name_offset row = record {
  sh_name = name_offset row.key.name;
  sh_type = header_type row.key;
  sh_flags = header_flags row.key.class;
  sh_addr = row.addr;
  sh_offset = row.offset;
  sh_size = row.size;
  sh_link = link_of place row.key;
  sh_info = info_of row.key;
  sh_addralign = row.align;
  sh_entsize = entry_size_of row.key;
}

-- the header of a part of the tail
abbrev pub part_header : Placement → List Part → (List ℕ → ℕ) → SectionRow → Shdr
part_header place parts name_offset row = record {
  sh_name = name_offset row.key.name;
  sh_type = part_type row.key.name;
  sh_flags = 0;
  sh_addr = 0;
  sh_offset = row.offset;
  sh_size = row.size;
  sh_link = if is_symtab_part row.key.name then part_number place parts (codes ".strtab") else 0;
  sh_info = if is_symtab_part row.key.name then 1 else 0;
  sh_addralign = row.align;
  sh_entsize = if is_symtab_part row.key.name then sym_size else 0;
}

abbrev pub null_header : Shdr
null_header = record { sh_name = 0; sh_type = sht_null; sh_flags = 0; sh_addr = 0; sh_offset = 0; sh_size = 0; sh_link = 0; sh_info = 0; sh_addralign = 0; sh_entsize = 0 }

-- the section headers in order: null, output sections, the tail's parts
unfoldable pub section_headers : Placement → List Part → List Shdr
section_headers place parts =
    let names = table_of (map row_name place.sections ++ map part_name parts) in
    null_header ∷ map (row_header place (offset_in names)) place.sections
    ++ map (λ p. part_header place parts (offset_in names) (part_row p)) (parts_from (tail_start place) parts)
