-- The headers made of rows are those of lk_model, which are made of the parts of a tail with their bytes and of the
-- resolved inputs.
use Rattle.std.specs.Prelude.{◌≡◌, List}
use Rattle.std.specs.List.{flat_map}
use Rattle.lk_elf.specs.Records.{shdr_bytes}
use Rattle.lk_model.specs.FileHeader.{entry_value, exec_stack_of, header_bytes}
use Rattle.lk_model.specs.Tail.{Part, headers_offset, section_headers}
use Rattle.lk_model.specs.Views.{Resolved}
use Rattle.lk_model.specs.declared.layouts.Placement.{Placement}
use Rattle.lk_headers.specs.Front.{front_bytes}
use Rattle.lk_headers.specs.SectionTable.{section_table, section_table_bytes}
use Rattle.lk_headers.specs.TailRows.{headers_at, rows_of_parts}

-- the section headers are where lk_model has them
abbrev pub HeadersAreThere : Type 0
HeadersAreThere = (place : Placement) (parts : List Part) → headers_at place (rows_of_parts place parts) ≡ headers_offset place parts

-- the file header and the program headers are lk_model's, for the entry's value and the stack that the
-- added objects ask for
abbrev pub FrontIsTheModels : Type 0
FrontIsTheModels = (r : Resolved) (place : Placement) (parts : List Part) →
    front_bytes place (rows_of_parts place parts) (entry_value r place) (exec_stack_of r) ≡ header_bytes r place parts

-- the section headers are lk_model's
abbrev pub SectionsAreTheModels : Type 0
SectionsAreTheModels = (place : Placement) (parts : List Part) → section_table place (rows_of_parts place parts) ≡ section_headers place parts

-- and so are their bytes
abbrev pub SectionBytesAreTheModels : Type 0
SectionBytesAreTheModels = (place : Placement) (parts : List Part) →
    section_table_bytes place (rows_of_parts place parts) ≡ flat_map shdr_bytes (section_headers place parts)
