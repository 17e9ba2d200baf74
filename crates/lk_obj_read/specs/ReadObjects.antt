-- The parts that are read for an object, and what an object holds of its bytes (gABI "Sections", "Symbol
-- Table", "Relocation").
use Rattle.std.specs.Prelude.{◌≡◌, ℕ, ◌+◌, ◌*◌, ◌^◌, ◌<◌, ◌≤◌, List, [], length, map, slice_index_or, None}
use Rattle.std.specs.List.{range_with_len}
use Rattle.lk_elf.specs.Numbers.{sym_size}
use Rattle.lk_elf.specs.Records.{sym_at}
use Rattle.lk_elf.specs.declared.section_header.Shdr.{Shdr}
use Rattle.lk_elf.specs.declared.symbol.Sym.{Sym}
use Rattle.lk_elf.specs.declared.relocation.Rela.{Rela}
use Rattle.lk_model.specs.declared.summaries.InputSummary.{InputSummary}
use Rattle.lk_model.specs.Elf.{elf_of}
use Rattle.lk_model.specs.ObjectChecks.{object_fault}
use Rattle.lk_model.specs.Objects.{relocations_in, summary_in}
use Rattle.lk_obj_parts.specs.ElfViews.{elf_from}
use Rattle.lk_obj_read.specs.declared.file_parts.FileParts.{FileParts}
use Rattle.lk_obj_read.specs.declared.symbol_places.SymbolPlace.{SymbolPlace}

-- the parts of the file that bytes are
pub record ArePartsOf (bytes : List ℕ) (parts : FileParts) : Type 0 where
  pub elf : elf_of bytes ≡ elf_from bytes parts.header parts.sections.items parts.symbols.items
  pub few_sections : length parts.sections.items < 2 ^ 32
  pub few_symbols : length parts.symbols.items < 2 ^ 32

-- the entries of 24 bytes that are in a file at this place
abbrev pub symbols_at : List ℕ → SymbolPlace → List Sym
symbols_at bytes place = map (λ k. sym_at bytes (place.at + sym_size * k)) (range_with_len 0 place.count)

-- these symbols are in a file at this place
pub record AreAt (bytes : List ℕ) (symbols : List Sym) (place : SymbolPlace) : Type 0 where
  pub within : place.at + sym_size * place.count ≤ length bytes
  pub each : symbols ≡ symbols_at bytes place

-- what an object holds of its bytes, which have no fault
pub record IsRead (bytes : List ℕ) (headers : List Shdr) (place : SymbolPlace) (kept : InputSummary) (lists : List (List Rela)) : Type 0 where
  pub sound : object_fault bytes ≡ None
  pub sections : headers ≡ (elf_of bytes).sections
  pub symbols : AreAt bytes (elf_of bytes).symbols place
  pub summary : kept ≡ summary_in (elf_of bytes)
  pub count : length lists ≡ length (elf_of bytes).sections
  pub relocations : (n : ℕ) → n < length (elf_of bytes).sections → slice_index_or lists n [] ≡ relocations_in (elf_of bytes) n
