-- What the definitions speak of and no code holds: a parsed file, an input, a kept piece, a
-- reference, and what resolution finds.
use Rattle.std.specs.Prelude.{ℕ, ℤ, Bool, List, Option}
use Rattle.lk_elf.specs.declared.file_header.Ehdr.{Ehdr}
use Rattle.lk_elf.specs.declared.section_header.Shdr.{Shdr}
use Rattle.lk_elf.specs.declared.symbol.Sym.{Sym}
use Rattle.lk_report.specs.declared.causes.OptionRecord.{OptionRecord}
use Rattle.lk_report.specs.declared.stamps.Stamp.{Stamp}
use Rattle.lk_model.specs.declared.commands.Mark.{Mark}
use Rattle.lk_model.specs.declared.layouts.Needs.{Needs}
use Rattle.lk_model.specs.declared.layouts.PieceId.{PieceId}
use Rattle.lk_model.specs.declared.layouts.SectionKey.{SectionKey}
use Rattle.lk_model.specs.declared.summaries.Contributions.{Contributions}
use Rattle.lk_model.specs.declared.summaries.InputSummary.{InputSummary}
use Rattle.lk_model.specs.declared.summaries.Winner.{Winner}

-- a file with the parts that its header names (gABI "ELF Header", "Sections", "Symbol Table"): its
-- section headers, number n at place n, and the entries of its first symbol table, number k at place
-- k. A part that does not fit in the file has no entries.
pub record Elf : Type 0 where
  pub bytes : List ℕ
  pub header : Ehdr
  pub sections : List Shdr
  pub symbols : List Sym

-- an input of a command: its path, the number of earlier inputs with that path, the number of its
-- lib group from 1 (0 outside one), its mark, its stamp and what it holds
pub record Input : Type 0 where
  pub path : List ℕ
  pub occurrence : ℕ
  pub lib : ℕ
  pub mark : Mark
  pub stamp : Option Stamp
  pub elf : Elf
  pub summary : InputSummary

-- a piece that the link keeps, with the output section that it goes to; a common block or a copy has
-- the empty name
pub record KeptPiece : Type 0 where
  pub piece : PieceId
  pub key : SectionKey
  pub name : List ℕ
  pub size : ℕ
  pub align : ℕ
  pub terminator : Bool

-- through what a reference goes: a name by its number, with the weak flag of its symbol, or a LOCAL
-- symbol (or none, symbol 0) of its own input
pub data Through : Type 0 where
  ByName : (name : ℕ) (weak : Bool) → Through
  ByLocal : (symbol : ℕ) → Through

-- a relocation of a kept piece (gABI "Relocation"): its site, its type, its addend
pub record Ref : Type 0 where
  pub input : ℕ
  pub section : ℕ
  pub offset : ℕ
  pub code : ℕ
  pub addend : ℤ
  pub through : Through

-- what resolution finds of the inputs of a command: the inputs by number, the added ones in adding
-- order, each name with its symbols, winner and visibility in order of names, the kept pieces (those
-- of inputs in adding order and by section, then commons and copies in order of names), the
-- references in adding order, by section and entry, and the needs. In the options `dynamic` is set
-- as the link is.
pub record Resolved : Type 0 where
  pub options : OptionRecord
  pub inputs : List Input
  pub added : List ℕ
  pub names : List Contributions
  pub winners : List Winner
  pub visibilities : List ℕ
  pub kept : List KeptPiece
  pub references : List Ref
  pub needs : Needs
