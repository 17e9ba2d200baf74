-- A section of an object of a link, with its bytes and its relocations (gABI "Relocation").
use Rattle.std.specs.Prelude.{◌≡◌, true, List, ℕ, length}
use Rattle.lk_elf.specs.declared.relocation.Rela.{Rela}
use Rattle.lk_model.specs.declared.layouts.PieceRow.{PieceRow}
use Rattle.lk_model.specs.Elf.{elf_of}
use Rattle.lk_model.specs.Objects.{piece_bytes_in, relocations_in, summary_in}
use Rattle.lk_model.specs.Views.{Ref, Resolved}
use Rattle.lk_symbol_values.specs.SymbolNumbering.{piece_start}
use Rattle.lk_relocate.specs.declared.object_sections.ObjectSection.{ObjectSection}
use Rattle.lk_relocate.specs.Fields.{all_filled}
use Rattle.lk_relocate.specs.Links.{IsLinkOf}
use Rattle.lk_relocate.specs.ObjectsOfInputs.{IsObjectOf}
use Rattle.lk_relocate.specs.ObjectTables.{AreTablesOf}
use Rattle.lk_relocate.specs.PieceLists.{is_listed}
use Rattle.lk_relocate.specs.Places.{place_in, written_at}
use Rattle.lk_relocate.specs.References.{reference_in, references_by}

-- the section can be linked: its tables are those of its object, and its address is the one that it is placed at
pub record IsReady (s : ObjectSection) : Type 0 where
  pub tables_are : AreTablesOf s.values.now s.input s.object.now s.tables.now
  pub begins : s.start ≡ piece_start s.values.now.place s.input s.section

-- the section is a piece of an input of a link
pub record IsSectionOf (s : ObjectSection) (r : Resolved) : Type 0 where
  pub link : IsLinkOf s.values.now r
  pub object : IsObjectOf r.inputs s.input s.object.now
  pub listed : is_listed s.section (summary_in (elf_of s.object.now)).pieces ≡ true

-- a relocation of the section as a reference of the link, and relocations
abbrev pub section_reference : Resolved → ObjectSection → Rela → Ref
section_reference r s rela = reference_in r s.input s.object.now s.section rela

abbrev pub references_among : Resolved → ObjectSection → List Rela → List Ref
references_among r s relas = references_by r s.input s.object.now s.section relas

-- the bytes of the section in its object, and all its relocations
abbrev pub section_bytes : ObjectSection → List ℕ
section_bytes s = piece_bytes_in (elf_of s.object.now) s.section

abbrev pub section_relocations : ObjectSection → List Rela
section_relocations s = relocations_in (elf_of s.object.now) s.section

-- a file with the linked bytes of the section, which is this placed piece
abbrev pub with_section : Resolved → ObjectSection → PieceRow → List ℕ → List ℕ
with_section r s p image =
    written_at image (place_in s.values.now.place (length image) p (length (section_bytes s)))
    (all_filled r s.values.now.place (section_bytes s) (references_among r s (section_relocations s)))
