-- The stages of a commit: the old seal is broken, the contents are written, the seal is written. Between them the
-- file is kept, so that a crash leaves it as it is.
use Rattle.std.specs.Prelude.{◌≡◌, ◌≤◌, ◌++◌, ◌⊎◌, ℕ, List, false, drop, length, replicate, take}
use Rattle.std.specs.List.{AllByRecursion}
use Rattle.lk_model.specs.Bases.{is_sealed}
use Rattle.lk_outside.specs.Crashes.{CrashLeaves, CrashState, IsApart, MayLeave, kept_whole}
use Rattle.lk_outside.specs.Disk.{Stored}
use Rattle.lk_ranges.specs.Stretches.{Stretch, with_stretches}
use Rattle.lk_commit.specs.CrashStates.{BeginInTurn, IsBesideSeal, IsOpen, sealed, updated}

-- the moments between two states, and the last: a crash at each leaves a file with a property
pub record Went (P : List ℕ → Type 0) (before after : Stored) : Type 0 where
  pub added : List CrashState
  pub past : after.past ≡ before.past ++ added
  pub each : AllByRecursion (CrashLeaves P) added
  pub now : CrashLeaves P after.now

-- a sync was the last that was done
abbrev pub IsKept : Stored → Type 0
IsKept s = s.now ≡ kept_whole s.bytes

-- the headers and the place of the seal are there, and no seal
abbrev pub HasNoSeal : List ℕ → Type 0
HasNoSeal file = (4096 ≤ length file) × (is_sealed file ≡ false)

-- the file has no seal, and no crash leaves one
pub record IsUnsealed (s : Stored) : Type 0 where
  pub file : HasNoSeal s.bytes
  pub kept : HasNoSeal s.now.kept
  pub apart : AllByRecursion (IsApart 4088 8) s.now.ranges

-- the file is too short for a base, and so is what a crash leaves
pub record IsShort (s : Stored) : Type 0 where
  pub file : length s.bytes ≤ 4096
  pub left : s.now.greatest ≤ 4096

-- ---- the old seal is broken

-- a file shorter than the headers was made zeros of their length
pub record IsMadeZeros (before after : Stored) : Type 0 where
  pub moments : Went IsOpen before after
  pub kept : IsKept after
  pub zeros : after.bytes ≡ replicate 4096 0

pub record IsLeftShort (before after : Stored) : Type 0 where
  pub moments : Went IsOpen before after
  pub file : IsOpen after.bytes

-- the old file, or an open one
abbrev pub IsOldOrOpen : List ℕ → List ℕ → Type 0
IsOldOrOpen old file = (file ≡ old) ⊎ IsOpen file

-- the bytes beside the seal's place are as they were
pub record SameBesideSeal (old new : List ℕ) : Type 0 where
  pub size : length new ≡ length old
  pub before : take 4088 new ≡ take 4088 old
  pub after : drop 4096 new ≡ drop 4096 old

-- the seal of a longer file was broken, where it had one
pub record IsBroken (before after : Stored) : Type 0 where
  pub moments : Went (IsOldOrOpen before.bytes) before after
  pub kept : IsKept after
  pub file : HasNoSeal after.bytes
  pub beside : SameBesideSeal before.bytes after.bytes

pub record IsUnbroken (before after : Stored) : Type 0 where
  pub moments : Went (IsOldOrOpen before.bytes) before after
  pub file : IsOldOrOpen before.bytes after.bytes

-- the file was opened: it is kept and has no seal; one longer than the headers has its other bytes
pub record IsOpened (P : List ℕ → Type 0) (before after : Stored) : Type 0 where
  pub moments : Went P before after
  pub kept : IsKept after
  pub file : HasNoSeal after.bytes
  pub beside : 4096 ≤ length before.bytes → SameBesideSeal before.bytes after.bytes

pub record IsUnopened (P : List ℕ → Type 0) (before after : Stored) : Type 0 where
  pub moments : Went P before after
  pub file : IsOldOrOpen before.bytes after.bytes

abbrev pub IsKeptOpened : Stored → Stored → Type 0
IsKeptOpened before after = IsOpened (IsOldOrOpen before.bytes) before after

abbrev pub IsKeptUnopened : Stored → Stored → Type 0
IsKeptUnopened before after = IsUnopened (IsOldOrOpen before.bytes) before after

-- the same where the file was not kept: a crash before the sync leaves what one left before
abbrev pub LeftOldOrOpen : Stored → List ℕ → Type 0
LeftOldOrOpen before file = MayLeave before.now file ⊎ IsOldOrOpen before.bytes file

abbrev pub IsFileOpened : Stored → Stored → Type 0
IsFileOpened before after = IsOpened (LeftOldOrOpen before) before after

abbrev pub IsFileUnopened : Stored → Stored → Type 0
IsFileUnopened before after = IsUnopened (LeftOldOrOpen before) before after

-- ---- the contents are written

-- the file stays open at each moment
pub record StaysOpen (before after : Stored) : Type 0 where
  pub moments : Went IsOpen before after
  pub unsealed : IsUnsealed after

-- an image with other bytes at the place of the seal
abbrev pub with_seal : List ℕ → List ℕ → List ℕ
with_seal bytes image = take 4088 image ++ (bytes ++ drop 4096 image)

-- the bytes at the place of the seal
abbrev pub at_seal : List ℕ → List ℕ
at_seal file = take 8 (drop 4088 file)

-- the file begins with an image, but for the bytes at the place of the seal, which stay
pub record IsPartWritten (image : List ℕ) (before after : Stored) : Type 0 where
  pub stays : StaysOpen before after
  pub bytes : take (length image) after.bytes ≡ with_seal (at_seal before.bytes) image

-- the first ranges were written, and these are left
pub record IsPartUpdated (left all : List Stretch) (before after : Stored) : Type 0 where
  pub stays : StaysOpen before after
  pub bytes : with_stretches after.bytes left ≡ with_stretches before.bytes all
  pub apart : AllByRecursion IsBesideSeal left
  pub in_turn : BeginInTurn (length after.bytes) left

-- all of them were
pub record AreWritten (writes : List Stretch) (before after : Stored) : Type 0 where
  pub stays : StaysOpen before after
  pub bytes : after.bytes ≡ with_stretches before.bytes writes

-- the file is kept, and is the one before with the ranges written, at a length
pub record IsUpdateWritten (writes : List Stretch) (n : ℕ) (before after : Stored) : Type 0 where
  pub stays : StaysOpen before after
  pub kept : IsKept after
  pub bytes : after.bytes ≡ updated writes n before.bytes

-- a longer file was cut
pub record IsCutTo (n : ℕ) (before after : Stored) : Type 0 where
  pub stays : StaysOpen before after
  pub bytes : after.bytes ≡ take n before.bytes

-- the file is kept, and is an image but for the bytes at the place of the seal, which stay
pub record IsImageWritten (image : List ℕ) (before after : Stored) : Type 0 where
  pub stays : StaysOpen before after
  pub kept : IsKept after
  pub bytes : after.bytes ≡ with_seal (at_seal before.bytes) image

-- ---- the seal is written

abbrev pub IsSealedOrOpen : List ℕ → List ℕ → Type 0
IsSealedOrOpen contents file = (file ≡ sealed contents) ⊎ IsOpen file

pub record IsSealed (before after : Stored) : Type 0 where
  pub moments : Went (IsSealedOrOpen before.bytes) before after
  pub kept : IsKept after
  pub bytes : after.bytes ≡ sealed before.bytes

pub record IsUnfinished (before after : Stored) : Type 0 where
  pub moments : Went (IsSealedOrOpen before.bytes) before after
  pub file : IsSealedOrOpen before.bytes after.bytes
