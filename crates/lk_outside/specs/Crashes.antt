-- This project's own: what a crash of the machine may leave of the output file. Between two syncs each range that is
-- written, and the part past the old end, may hold any bytes after a crash, and the length may be the old one, a later
-- one, or one between them (POSIX.1 `fsync` alone says what is on the disk).
use Rattle.std.specs.Prelude.{◌≡◌, ◌≤◌, ◌+◌, ◌∷◌, [], ◌⊎◌, ℕ, List, length, take, drop, max, min}
use Rattle.std.specs.List.{AllByRecursion}

-- the file as the last sync left it; the start and length of each range written since then; the least and the greatest
-- length that the file may have had since then
pub record CrashState : Type 0 where
  pub kept : List ℕ
  pub ranges : List (ℕ × ℕ)
  pub least : ℕ
  pub greatest : ℕ

-- a stretch of bytes has none of a range
abbrev pub IsApart : ℕ → ℕ → ℕ × ℕ → Type 0
IsApart at size range = (at + size ≤ range.0) ⊎ (range.0 + range.1 ≤ at)

-- a crash may leave this file: each stretch of it that is in the file that was kept, and has no byte of a range written
-- since then, is as it was kept
pub record MayLeave (state : CrashState) (file : List ℕ) : Type 0 where
  pub not_shorter : state.least ≤ length file
  pub not_longer : length file ≤ state.greatest
  pub beside : (at size : ℕ) → at + size ≤ length file → at + size ≤ length state.kept → AllByRecursion (IsApart at size) state.ranges → take size (drop at file) ≡ take size (drop at state.kept)

-- each file that a crash may leave has a property
abbrev pub CrashLeaves : (List ℕ → Type 0) → CrashState → Type 0
CrashLeaves P state = (file : List ℕ) → MayLeave state file → P file

-- after a sync; after a write of a range, done or not; after a cut to a length
abbrev pub kept_whole : List ℕ → CrashState
kept_whole file = record { kept = file; ranges = []; least = length file; greatest = length file }

abbrev pub after_write : ℕ → ℕ → CrashState → CrashState
after_write at size state =
    record state { ranges = (at, size) ∷ state.ranges; greatest = max state.greatest (at + size) }

abbrev pub after_cut : ℕ → CrashState → CrashState
after_cut n state = record state { least = min state.least n }
