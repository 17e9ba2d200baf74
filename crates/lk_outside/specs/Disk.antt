-- This project's own: the state of the output device, and what each of its calls makes of it.
use Rattle.std.specs.Prelude.{◌≡◌, ◌≤◌, ◌+◌, ◌++◌, ◌∷◌, [], ◌⊎◌, ℕ, List, length, take, drop, max, Option, Some, None, option_map, IfSome}
use Rattle.std.specs.Option.{ForSome}
use Rattle.lk_report.specs.Spoken.{Rose}
use Rattle.lk_report.specs.declared.sinks.Answer.{Answer}
use Rattle.lk_report.specs.declared.sinks.Answer.TheVariants as answer
use Rattle.lk_outside.specs.declared.devices.LengthAnswer.{LengthAnswer}
use Rattle.lk_outside.specs.declared.devices.LengthAnswer.TheVariants as known
use Rattle.lk_outside.specs.Crashes.{CrashState, kept_whole, after_cut, after_write}

-- the file's bytes; the start and length of each range written, in order; what a crash might have left at each earlier
-- moment, in order, and what one may leave now
pub record Stored : Type 0 where
  pub bytes : List ℕ
  pub written : List (ℕ × ℕ)
  pub past : List CrashState
  pub now : CrashState

-- a device: what it reports of its file, which may be nothing, and its count of faults
pub record Disk : Type 0 where
  pub stored : Option Stored
  pub faults : ℕ

-- where the file is reported: a range lies in it; a place or a length is at most its end
abbrev pub RangeLiesIn : ℕ → ℕ → Disk → Type 0
RangeLiesIn at size d = ForSome d.stored (λ s. at + size ≤ length s.bytes)

abbrev pub IsAtMostEnd : ℕ → Disk → Type 0
IsAtMostEnd at d = ForSome d.stored (λ s. at ≤ length s.bytes)

-- the bytes with a range of them replaced; a range that goes past the end makes them longer
abbrev pub patched : ℕ → List ℕ → List ℕ → List ℕ
patched at bytes old = take at old ++ bytes ++ drop (at + length bytes) old

-- a file that no call has changed yet, and that a crash leaves as it is
abbrev pub stored_whole : List ℕ → Stored
stored_whole bytes = record { bytes = bytes; written = []; past = []; now = kept_whole bytes }

-- the time: how often what a crash may leave has changed
abbrev pub clock : Stored → ℕ
clock s = length s.past

-- what a crash might have left at each moment since a time, up to now
abbrev pub moments_since : ℕ → Stored → List CrashState
moments_since time s = drop time s.past ++ s.now ∷ []

-- the file after a write, after a cut, after a sync
abbrev pub stored_patched : ℕ → List ℕ → Stored → Stored
stored_patched at bytes s = record {
  bytes = patched at bytes s.bytes;
  written = s.written ++ (at, length bytes) ∷ [];
  past = s.past ++ s.now ∷ [];
  now = after_write at (length bytes) s.now;
}

abbrev pub stored_cut : ℕ → Stored → Stored
stored_cut n s = record s { bytes = take n s.bytes; past = s.past ++ s.now ∷ []; now = after_cut n s.now }

abbrev pub stored_synced : Stored → Stored
stored_synced s = record s { past = s.past ++ s.now ∷ []; now = kept_whole s.bytes }

-- after a write that failed: its range may hold any bytes, the file may have grown up to the range's end, and the
-- range counts as written; all other bytes stay
pub record PartlyPatched (at size : ℕ) (old new : Stored) : Type 0 where
  pub before : take at new.bytes ≡ take at old.bytes
  pub after : drop (at + size) new.bytes ≡ drop (at + size) old.bytes
  pub not_shorter : length old.bytes ≤ length new.bytes
  pub not_longer : length new.bytes ≤ max (length old.bytes) (at + size)
  pub written : new.written ≡ old.written ++ (at, size) ∷ []
  pub past : new.past ≡ old.past ++ old.now ∷ []
  pub now : new.now ≡ after_write at size old.now

-- the same of a device that may report no bytes; or nothing was written
abbrev pub MaybePatched : ℕ → ℕ → Option Stored → Option Stored → Type 0
MaybePatched at size None None = Unit {0}
MaybePatched at size (Some old) (Some new) = (new ≡ old) ⊎ PartlyPatched at size old new
MaybePatched at size None (Some new) = ⊥
MaybePatched at size (Some old) None = ⊥

-- the file stays as it was, and so does the count, or the count rose
abbrev pub Untouched : Disk → Disk → Type 0
Untouched old new = (new.stored ≡ old.stored) × (new.faults ≡ old.faults)

abbrev pub OnlyFailed : Disk → Disk → Type 0
OnlyFailed old new = (new.stored ≡ old.stored) × Rose old.faults new.faults

-- the file's length was asked for
abbrev pub LengthGives : Disk → LengthAnswer → Disk → Type 0
LengthGives old (known.Known n) new =
    Untouched old new × IfSome old.stored (λ s. n ≡ length s.bytes)
LengthGives old known.Failed new = OnlyFailed old new

-- a range was read: `into` is what the reader's slice was, `got` is what it is
abbrev pub ReadAtGives : Disk → ℕ → List ℕ → List ℕ → Answer → Disk → Type 0
ReadAtGives old at into got answer.Done new =
    Untouched old new × IfSome old.stored (λ s. got ≡ take (length into) (drop at s.bytes))
ReadAtGives old at into got answer.Failed new =
    OnlyFailed old new × (length got ≡ length into)

-- bytes were written at a place
abbrev pub WriteAtGives : Disk → ℕ → List ℕ → Answer → Disk → Type 0
WriteAtGives old at bytes answer.Done new =
    (new.stored ≡ option_map (stored_patched at bytes) old.stored) × (new.faults ≡ old.faults)
WriteAtGives old at bytes answer.Failed new =
    MaybePatched at (length bytes) old.stored new.stored × Rose old.faults new.faults

-- the file was cut to a length
abbrev pub CutGives : Disk → ℕ → Answer → Disk → Type 0
CutGives old n answer.Done new =
    (new.stored ≡ option_map (stored_cut n) old.stored) × (new.faults ≡ old.faults)
CutGives old n answer.Failed new =
    ((new.stored ≡ old.stored) ⊎ (new.stored ≡ option_map (stored_cut n) old.stored))
    × Rose old.faults new.faults

-- what was written and cut was asked to last
abbrev pub SyncGives : Disk → Answer → Disk → Type 0
SyncGives old answer.Done new = (new.stored ≡ option_map stored_synced old.stored) × (new.faults ≡ old.faults)
SyncGives old answer.Failed new = OnlyFailed old new
