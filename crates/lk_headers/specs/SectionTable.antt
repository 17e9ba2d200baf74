-- The section headers of an image (gABI "Sections", "Section Header"), by the rows of its sections and of
-- its tail's parts.
use Rattle.std.specs.Prelude.{ℕ, ◌+◌, List, ◌∷◌, ◌++◌, length, map, Some, None, position, if◌then◌else◌, codes}
use Rattle.std.specs.List.{flat_map}
use Rattle.std.specs.Str.{bytes_eq}
use Rattle.lk_elf.specs.declared.section_header.Shdr.{Shdr}
use Rattle.lk_elf.specs.Numbers.{sym_size}
use Rattle.lk_elf.specs.Records.{shdr_bytes}
use Rattle.lk_model.specs.SectionKeys.{named, header_type, header_flags}
use Rattle.lk_model.specs.Tail.{row_name, is_symtab_part, part_type, header_number, names_symbols, names_texts, info_of, entry_size_of, null_header}
use Rattle.lk_model.specs.Texts.{table_of, offset_in}
use Rattle.lk_model.specs.declared.layouts.Class.TheVariants.{R}
use Rattle.lk_model.specs.declared.layouts.Placement.{Placement}
use Rattle.lk_model.specs.declared.layouts.SectionKey.{SectionKey}
use Rattle.lk_model.specs.declared.layouts.SectionRow.{SectionRow}
use Rattle.lk_headers.specs.declared.links.Links.{Links}

-- the number of the header of a part by its name, 0 without it; those of the output sections come first
abbrev pub tail_number : Placement → List SectionRow → List ℕ → ℕ
tail_number place tail name =
    elim (position (λ (row : SectionRow). bytes_eq row.key.name name) tail) [ None ↦ 0 | Some n ↦ length place.sections + n + 1 ]

-- the sections that others link to
unfoldable pub links_of : Placement → List SectionRow → Links
links_of place tail = record {
  symbols = header_number place (named (codes ".dynsym") R);
  texts = header_number place (named (codes ".dynstr") R);
  tail_texts = tail_number place tail (codes ".strtab");
}

-- the section that a section links to
abbrev pub linked : Links → SectionKey → ℕ
linked links key = if names_symbols key then links.symbols else (if names_texts key then links.texts else 0)

-- the part that a part links to: the string table of its symbols
abbrev pub linked_part : Links → List ℕ → ℕ
linked_part links name = if is_symtab_part name then links.tail_texts else 0

-- the number of the first symbol of a part that is not LOCAL, and the size of an entry
abbrev pub part_info : List ℕ → ℕ
part_info name = if is_symtab_part name then 1 else 0

abbrev pub part_entry_size : List ℕ → ℕ
part_entry_size name = if is_symtab_part name then sym_size else 0

-- the header of an output section
unfoldable pub header_of_row : List (List ℕ) → Links → SectionRow → Shdr
header_of_row names links row = record {
  sh_name = offset_in names row.key.name;
  sh_type = header_type row.key;
  sh_flags = header_flags row.key.class;
  sh_addr = row.addr;
  sh_offset = row.offset;
  sh_size = row.size;
  sh_link = linked links row.key;
  sh_info = info_of row.key;
  sh_addralign = row.align;
  sh_entsize = entry_size_of row.key;
}

-- the header of a part of the tail, of which the row has the name, the file offset and the size
unfoldable pub header_of_part : List (List ℕ) → Links → SectionRow → Shdr
header_of_part names links row = record {
  sh_name = offset_in names row.key.name;
  sh_type = part_type row.key.name;
  sh_flags = 0;
  sh_addr = 0;
  sh_offset = row.offset;
  sh_size = row.size;
  sh_link = linked_part links row.key.name;
  sh_info = part_info row.key.name;
  sh_addralign = 8;
  sh_entsize = part_entry_size row.key.name;
}

-- the names in header order, each once
abbrev pub names_of : Placement → List SectionRow → List (List ℕ)
names_of place tail = table_of (map row_name place.sections ++ map row_name tail)

-- the headers in order: null, the output sections, the parts of the tail
unfoldable pub section_table : Placement → List SectionRow → List Shdr
section_table place tail =
    null_header ∷ (map (header_of_row (names_of place tail) (links_of place tail)) place.sections
    ++ map (header_of_part (names_of place tail) (links_of place tail)) tail)

-- their bytes
unfoldable pub section_table_bytes : Placement → List SectionRow → List ℕ
section_table_bytes place tail = flat_map shdr_bytes (section_table place tail)
