-- This project's own: what a commit makes of the output device, as a status.
use Rattle.std.specs.Prelude.{◌≡◌, ◌<◌, ℕ, List, Result, Ok, Err, None, length, true}
use Rattle.lk_report.specs.declared.sinks.Answer.TheVariants as answer
use Rattle.lk_report.specs.declared.statuses.Outcome.TheVariants as outcome
use Rattle.lk_report.specs.declared.statuses.Status.{Status}
use Rattle.lk_report.specs.declared.statuses.Status.TheVariants as status
use Rattle.lk_model.specs.Bases.{is_sealed}
use Rattle.lk_outside.specs.Disk.{Disk}
use Rattle.lk_commit.specs.CrashStates.{CommitGives}

-- an image that can be committed: it has the seal, and more than its headers
abbrev pub IsSealedImage : List ℕ → Type 0
IsSealedImage image = (4096 < length image) × (is_sealed image ≡ true)

-- where there is an image, it can be
abbrev pub SealedImage : Result (List ℕ) Status → Type 0
SealedImage (Ok image) = IsSealedImage image
SealedImage (Err s) = Unit {0}

-- an image is put on the device in place of what was there, or the device failed
abbrev pub IsCommitted : Disk → List ℕ → Status → Disk → Type 0
IsCommitted old image (status.Done (outcome.Full None)) new = CommitGives (λ file. image) old answer.Done new
IsCommitted old image status.DeviceFault new = CommitGives (λ file. image) old answer.Failed new
IsCommitted old image other new = ⊥
