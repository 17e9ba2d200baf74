-- This project's own: what a commit leaves of the output file, whatever moment the machine stops at.
use Rattle.std.specs.Prelude.{◌≡◌, ◌≤◌, ◌+◌, ◌++◌, ◌∷◌, [], ◌⊎◌, ℕ, List, Option, Some, None, Err, false, drop, length, max, take}
use Rattle.std.specs.List.{AllByRecursion}
use Rattle.lk_report.specs.Spoken.{Rose}
use Rattle.lk_report.specs.declared.sinks.Answer.{Answer}
use Rattle.lk_report.specs.declared.sinks.Answer.TheVariants as answer
use Rattle.lk_report.specs.declared.causes.Cause.TheVariants.{BaseOpen, NoBase}
use Rattle.lk_model.specs.Bases.{base_of, is_sealed}
use Rattle.lk_model.specs.Images.{seal, seal_offset}
use Rattle.lk_ranges.specs.Stretches.{Stretch, end_of, with_stretches}
use Rattle.lk_outside.specs.Crashes.{CrashLeaves, MayLeave}
use Rattle.lk_outside.specs.Disk.{Disk, Stored, clock, moments_since}

-- bytes with the seal at its place
abbrev pub sealed : List ℕ → List ℕ
sealed bytes = take seal_offset bytes ++ (seal ++ drop (seal_offset + length seal) bytes)

-- a file with ranges written one after another, and then cut to a length
abbrev pub updated : List Stretch → ℕ → List ℕ → List ℕ
updated writes n old = take n (with_stretches old writes)

-- a range has no byte of the seal
abbrev pub IsBesideSeal : Stretch → Type 0
IsBesideSeal w = (end_of w ≤ seal_offset) ⊎ (seal_offset + length seal ≤ w.start)

-- each range begins in a file of this length, with those before it written, or where it ends
abbrev pub BeginInTurn : ℕ → List Stretch → Type 0
BeginInTurn n [] = Unit {0}
BeginInTurn n (w ∷ ws) = (w.start ≤ n) × BeginInTurn (max n (end_of w)) ws

-- a file that no link takes as a base: it ends where the headers end, or has no seal
abbrev pub IsOpen : List ℕ → Type 0
IsOpen file = (length file ≤ 4096) ⊎ (is_sealed file ≡ false)

-- the file as it was, or as it is to be, or an open one
abbrev pub IsOldNewOrOpen : List ℕ → List ℕ → List ℕ → Type 0
IsOldNewOrOpen old new file = (file ≡ old) ⊎ ((file ≡ new) ⊎ IsOpen file)

-- what a crash before the commit might have left, or one of these
abbrev pub LeftBy : List ℕ → Stored → List ℕ → Type 0
LeftBy new before file = MayLeave before.now file ⊎ IsOldNewOrOpen before.bytes new file

-- whatever moment since the commit began the machine stops at, the file is one of these
abbrev pub AtEachMoment : (List ℕ → Type 0) → Stored → Stored → Type 0
AtEachMoment P before after = AllByRecursion (CrashLeaves P) (moments_since (clock before) after)

-- a commit that a failed call ended
pub record IsStopped (new : List ℕ) (before after : Stored) : Type 0 where
  pub at_each_moment : AtEachMoment (LeftBy new before) before after
  pub file : IsOldNewOrOpen before.bytes new after.bytes

-- a commit that is done: the file is the new one, and stays so after a crash
pub record IsFinished (new : List ℕ) (before after : Stored) : Type 0 where
  pub at_each_moment : AtEachMoment (LeftBy new before) before after
  pub file : after.bytes ≡ new
  pub lasting : CrashLeaves (λ file. file ≡ new) after.now

-- a relation of the files before and after, where the device reports them
abbrev pub WhereReported : (Stored → Stored → Type 0) → Option Stored → Option Stored → Type 0
WhereReported R None None = Unit {0}
WhereReported R (Some before) (Some after) = R before after
WhereReported R None (Some after) = ⊥
WhereReported R (Some before) None = ⊥

-- calls that are done leave the count as it was; one fails only where the count rose
abbrev pub StageGives : (Stored → Stored → Type 0) → (Stored → Stored → Type 0) → Disk → Answer → Disk → Type 0
StageGives IfDone IfFailed old answer.Done new = (new.faults ≡ old.faults) × WhereReported IfDone old.stored new.stored
StageGives IfDone IfFailed old answer.Failed new = Rose old.faults new.faults × WhereReported IfFailed old.stored new.stored

-- a commit of a file that depends on the old one
abbrev pub CommitGives : (List ℕ → List ℕ) → Disk → Answer → Disk → Type 0
CommitGives new = StageGives (λ before after. IsFinished (new before.bytes) before after) (λ before after. IsStopped (new before.bytes) before after)

-- an open file is never taken as a base
abbrev pub OpenIsNoBase : Type 0
OpenIsNoBase = (file : List ℕ) → IsOpen file → (base_of (Some file) ≡ Err NoBase) ⊎ (base_of (Some file) ≡ Err BaseOpen)
