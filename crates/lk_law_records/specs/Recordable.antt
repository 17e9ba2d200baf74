-- What the numbers and texts of a link keep to so that its records are read back (this project's own):
-- a number is below what its field holds, and no text holds a zero byte, which would end it.
use Rattle.std.specs.Prelude.{◌≡◌, ℕ, nat_eq, ◌+◌, ◌^◌, ◌<◌, ◌==◌, ◌||◌, Bool, false, List, length, map, codes, bytes_eq, Option, Some, None}
use Rattle.std.specs.List.{AllByRecursion, IsDistinct, list_any}
use Rattle.lk_report.specs.declared.causes.OptionRecord.{OptionRecord}
use Rattle.lk_report.specs.declared.stamps.Stamp.{Stamp}
use Rattle.lk_model.specs.Answers.{image_length}
use Rattle.lk_model.specs.Pieces.{output_name}
use Rattle.lk_model.specs.Views.{Input, Resolved}
use Rattle.lk_model.specs.declared.layouts.PieceRow.{PieceRow}
use Rattle.lk_model.specs.declared.layouts.Placement.{Placement}
use Rattle.lk_model.specs.declared.layouts.SectionRow.{SectionRow}
use Rattle.lk_model.specs.declared.summaries.Global.{Global}
use Rattle.lk_model.specs.declared.summaries.Group.{Group}
use Rattle.lk_model.specs.declared.summaries.Home.{Home}
use Rattle.lk_model.specs.declared.summaries.Home.TheVariants as home
use Rattle.lk_model.specs.declared.summaries.InputSummary.{InputSummary}
use Rattle.lk_model.specs.declared.summaries.PieceInfo.{PieceInfo}
use mir.Syntax.{w64}
use mir.Val.{SFits}

-- whether a text holds a zero byte
abbrev pub has_zero : List ℕ → Bool
has_zero text = list_any (λ b. b == 0) text

-- ---- inputs

abbrev pub HomeFits : Home → Type 0
HomeFits home.Undefined = Unit {0}
HomeFits (home.Section n) = n < 2 ^ 32
HomeFits home.Absolute = Unit {0}
HomeFits home.Common = Unit {0}
HomeFits home.Shared = Unit {0}

-- a symbol; its binding, its type and its visibility share a field
pub record GlobalFits (g : Global) : Type 0 where
  pub symbol : g.symbol < 2 ^ 32
  pub name : has_zero g.name ≡ false
  pub binding : g.binding < 256
  pub code : g.code < 256
  pub visibility : g.visibility < 65536
  pub home : HomeFits g.home
  pub value : g.value < 2 ^ 64
  pub size : g.size < 2 ^ 64

pub record GroupFits (g : Group) : Type 0 where
  pub signature : has_zero g.signature ≡ false
  pub count : length g.members < 2 ^ 32
  pub members : AllByRecursion (λ n. n < 2 ^ 32) g.members

-- a piece; of one that is not kept the class is recorded and the name of its output section is not
pub record PieceFits (p : PieceInfo) : Type 0 where
  pub section : p.section < 2 ^ 32
  pub name : has_zero p.name ≡ false
  pub key : p.key.name ≡ output_name p.key.class p.name
  pub size : p.size < 2 ^ 64
  pub align : p.align < 2 ^ 64

abbrev pub StampFits : Option Stamp → Type 0
StampFits None = Unit {0}
StampFits (Some s) = (s.length < 2 ^ 64) × SFits w64 s.modified

-- the section numbers of pieces
abbrev pub numbers_of : List PieceInfo → List ℕ
numbers_of pieces = map (λ (p : PieceInfo). p.section) pieces

pub record SummaryFits (s : InputSummary) : Type 0 where
  pub soname : has_zero s.soname ≡ false
  pub piece_count : length s.pieces < 2 ^ 32
  pub pieces : AllByRecursion PieceFits s.pieces
  pub sections : IsDistinct nat_eq (numbers_of s.pieces)
  pub global_count : length s.globals < 2 ^ 32
  pub globals : AllByRecursion GlobalFits s.globals
  pub group_count : length s.groups < 2 ^ 32
  pub groups : AllByRecursion GroupFits s.groups

pub record InputFits (i : Input) : Type 0 where
  pub path : has_zero i.path ≡ false
  pub occurrence : i.occurrence < 2 ^ 32
  pub lib : i.lib < 2 ^ 32
  pub stamp : StampFits i.stamp
  pub summary : SummaryFits i.summary

-- ---- options and placement

pub record OptionsFit (o : OptionRecord) : Type 0 where
  pub entry : has_zero o.entry ≡ false
  pub interp : has_zero o.interp ≡ false
  pub runpath : has_zero o.runpath ≡ false
  pub patch : o.patch < 2 ^ 32

-- the names of the two sections that hold the records
abbrev pub is_record_name : List ℕ → Bool
is_record_name name = bytes_eq name (codes ".gnu_incremental_inputs") || bytes_eq name (codes ".gnu_incremental_strtab")

-- an output section, which is not named as a section of records
pub record RowFits (row : SectionRow) : Type 0 where
  pub name : has_zero row.key.name ≡ false
  pub other : is_record_name row.key.name ≡ false
  pub addr : row.addr < 2 ^ 64
  pub offset : row.offset < 2 ^ 64
  pub size : row.size < 2 ^ 64
  pub room : row.room < 2 ^ 64
  pub align : row.align < 2 ^ 64

-- a link at a placement whose records can be read back: every number and text fits its field, there are
-- no more sections than a file header counts, and the places in the image fit four bytes
pub record IsRecordable (r : Resolved) (place : Placement) : Type 0 where
  pub options : OptionsFit r.options
  pub input_count : length r.inputs < 2 ^ 32
  pub inputs : AllByRecursion InputFits r.inputs
  pub section_count : length place.sections + 4 < 2 ^ 16
  pub sections : AllByRecursion RowFits place.sections
  pub pieces : AllByRecursion (λ (p : PieceRow). p.addr < 2 ^ 64) place.pieces
  pub image : image_length r place < 2 ^ 32

-- ---- what is known before anything is placed

-- the pieces of an input are not named as the sections of records
abbrev pub HasOtherNames : Input → Type 0
HasOtherNames i = AllByRecursion (λ (p : PieceInfo). is_record_name p.name ≡ false) i.summary.pieces

-- options and inputs whose numbers and texts fit
pub record InputsFit (o : OptionRecord) (xs : List Input) : Type 0 where
  pub options : OptionsFit o
  pub count : length xs < 2 ^ 32
  pub inputs : AllByRecursion InputFits xs
  pub names : AllByRecursion HasOtherNames xs
