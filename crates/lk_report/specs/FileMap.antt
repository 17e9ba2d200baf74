-- This project's own: the input files as a map from paths to bytes and stamps.
use Rattle.std.specs.Prelude.{ℕ, List, Option}
use Rattle.lk_report.specs.declared.stamps.Stamp.{Stamp}

-- a file: its bytes, and its stamp where it has one
pub record FileRow : Type 0 where
  pub bytes : List ℕ
  pub stamp : Option Stamp

-- the files by their paths; a path that is not in the map has no row
abbrev pub FileMap : Type 0
FileMap = List ℕ → Option FileRow
