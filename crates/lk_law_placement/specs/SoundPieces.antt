-- This project's own: what is known of every kept piece of a link whose inputs have no fault.
use Rattle.std.specs.Prelude.{◌≡◌, ℕ, ◌^◌, true, false}
use Rattle.std.specs.List.{AllByRecursion}
use Rattle.lk_model.specs.SectionKeys.{eh_frame, is_table}
use Rattle.lk_model.specs.Views.{KeptPiece, Resolved}

-- a power of two, which alignments are
pub record IsPower (n : ℕ) : Type 0 where
  pub exponent : ℕ
  pub power : n ≡ 2 ^ exponent

-- a kept piece is sound
pub record SoundPiece (piece : KeptPiece) : Type 0 where
  -- its alignment is a power of two
  pub aligned : IsPower piece.align
  -- a terminator has no bytes and goes to the frame table
  pub empty : piece.terminator ≡ true → piece.size ≡ 0
  pub framed : piece.terminator ≡ true → piece.key ≡ eh_frame
  -- it goes to no table that a link makes
  pub no_table : is_table piece.key ≡ false

-- all kept pieces are sound
abbrev pub SoundPieces : Resolved → Type 0
SoundPieces r = AllByRecursion SoundPiece r.kept
