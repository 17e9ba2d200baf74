-- This project's own: inputs in which no fault is found, and what is known of their summaries.
use Rattle.std.specs.Prelude.{◌≡◌, None, List, true, false}
use Rattle.std.specs.List.{AllByRecursion}
use Rattle.lk_model.specs.declared.summaries.Global.{Global}
use Rattle.lk_model.specs.declared.summaries.Home.TheVariants as home
use Rattle.lk_model.specs.declared.summaries.InputSummary.{InputSummary}
use Rattle.lk_model.specs.declared.summaries.PieceInfo.{PieceInfo}
use Rattle.lk_model.specs.Elf.{elf_of}
use Rattle.lk_model.specs.Inputs.{input_fault_in, reads_as_shared, summary_by}
use Rattle.lk_model.specs.SectionKeys.{eh_frame, is_table}
use Rattle.lk_model.specs.Views.{Input}
use Rattle.lk_law_placement.specs.SoundPieces.{IsPower}

-- a piece of a summary is sound, as a kept piece is
pub record SoundInfo (piece : PieceInfo) : Type 0 where
  pub aligned : IsPower piece.align
  pub empty : piece.terminator ≡ true → piece.size ≡ 0
  pub framed : piece.terminator ≡ true → piece.key ≡ eh_frame
  pub no_table : is_table piece.key ≡ false

-- the alignment that a common block asks for is a power of two (gABI "Symbol Table", SHN_COMMON)
abbrev pub SoundGlobal : Global → Type 0
SoundGlobal g = g.home ≡ home.Common → IsPower g.value

-- a summary is sound: so are its pieces and its symbols
pub record SoundSummary (summary : InputSummary) : Type 0 where
  pub pieces : AllByRecursion SoundInfo summary.pieces
  pub globals : AllByRecursion SoundGlobal summary.globals

-- an input that holds what was read of its file, in which no fault is found
pub record SoundInput (input : Input) : Type 0 where
  pub file : input.elf ≡ elf_of input.elf.bytes
  pub summary : input.summary ≡ summary_by (reads_as_shared input) input.path input.elf
  pub no_fault : input_fault_in input ≡ None

-- all inputs are such ones
abbrev pub SoundInputs : List Input → Type 0
SoundInputs inputs = AllByRecursion SoundInput inputs
