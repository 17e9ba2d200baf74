-- This project's own: the output file kept in memory, exactly.
use Rattle.std.specs.Prelude.{◌≡◌, ℕ, List, Some, length, take, drop}
use Rattle.std.specs.List.{fold}
use Rattle.lk_report.specs.declared.sinks.Answer.{Answer}
use Rattle.lk_report.specs.declared.sinks.Answer.TheVariants as answer
use Rattle.lk_outside.specs.declared.devices.LengthAnswer.{LengthAnswer}
use Rattle.lk_outside.specs.declared.devices.LengthAnswer.TheVariants as known
use Rattle.lk_outside.specs.declared.calls.Calls.{Calls}
use Rattle.lk_outside.specs.declared.file_changes.FileChange.{FileChange}
use Rattle.lk_outside.specs.declared.file_changes.FileChange.TheVariants as change
use Rattle.lk_outside.specs.Counts.{counted, FailsNext, call_made, call_failed}
use Rattle.lk_outside.specs.Disk.{Disk, Stored, stored_cut, stored_patched, stored_synced, stored_whole}

-- the file after one of the calls that are kept on record, and after all of them in order
abbrev pub stored_changed : Stored → FileChange → Stored
stored_changed s (change.Wrote at bytes) = stored_patched at bytes s
stored_changed s (change.Cut n) = stored_cut n s
stored_changed s change.Synced = stored_synced s

unfoldable pub stored_after : List ℕ → List FileChange → Stored
stored_after begun changes = fold stored_changed (stored_whole begun) changes

-- the file, what a crash may leave of it and might have left, and the calls
pub record DeviceInMemory : Type 0 where
  pub stored : Stored
  pub calls : Calls

-- a device that no test sets to fail: its file, and the calls that found no memory
pub record SureDeviceInMemory : Type 0 where
  pub stored : Stored
  pub faults : ℕ

abbrev pub disk_of : DeviceInMemory → Disk
disk_of m = record { stored = Some m.stored; faults = m.calls.faults }

abbrev pub sure_disk_of : SureDeviceInMemory → Disk
sure_disk_of m = record { stored = Some m.stored; faults = m.faults }

-- a call that changes no byte: it is Done where it is not the call that is to fail
abbrev pub OnlyLooks : DeviceInMemory → Answer → DeviceInMemory → Type 0
OnlyLooks old answer.Done new =
    (FailsNext old.calls → ⊥) × (new ≡ record old { calls = call_made old.calls })
OnlyLooks old answer.Failed new =
    FailsNext old.calls × (new ≡ record old { calls = call_failed old.calls })

-- the length, where this is not the call that is to fail
abbrev pub LengthInMemory : DeviceInMemory → LengthAnswer → DeviceInMemory → Type 0
LengthInMemory old (known.Known n) new = OnlyLooks old answer.Done new × (n ≡ length old.stored.bytes)
LengthInMemory old known.Failed new = OnlyLooks old answer.Failed new

-- a read that fails leaves the reader's slice as it was
abbrev pub ReadAtInMemory : DeviceInMemory → ℕ → List ℕ → List ℕ → Answer → DeviceInMemory → Type 0
ReadAtInMemory old at into got answer.Done new =
    OnlyLooks old answer.Done new × (got ≡ take (length into) (drop at old.stored.bytes))
ReadAtInMemory old at into got answer.Failed new =
    OnlyLooks old answer.Failed new × (got ≡ into)

-- a write that fails, by its number or for out of memory, changes nothing but the counts
abbrev pub WriteAtInMemory : DeviceInMemory → ℕ → List ℕ → Answer → DeviceInMemory → Type 0
WriteAtInMemory old at bytes answer.Done new =
    (FailsNext old.calls → ⊥)
    × (new ≡ record old { stored = stored_patched at bytes old.stored; calls = call_made old.calls })
WriteAtInMemory old at bytes answer.Failed new = new ≡ record old { calls = call_failed old.calls }

-- and so does a cut, and a sync, that fails
abbrev pub CutInMemory : DeviceInMemory → ℕ → Answer → DeviceInMemory → Type 0
CutInMemory old n answer.Done new =
    (FailsNext old.calls → ⊥)
    × (new ≡ record old { stored = stored_cut n old.stored; calls = call_made old.calls })
CutInMemory old n answer.Failed new = new ≡ record old { calls = call_failed old.calls }

abbrev pub SyncInMemory : DeviceInMemory → Answer → DeviceInMemory → Type 0
SyncInMemory old answer.Done new =
    (FailsNext old.calls → ⊥)
    × (new ≡ record old { stored = stored_synced old.stored; calls = call_made old.calls })
SyncInMemory old answer.Failed new = new ≡ record old { calls = call_failed old.calls }

-- the same calls of a device that no test sets to fail
abbrev pub SureLength : SureDeviceInMemory → LengthAnswer → SureDeviceInMemory → Type 0
SureLength old (known.Known n) new = (new ≡ old) × (n ≡ length old.stored.bytes)
SureLength old known.Failed new = ⊥

abbrev pub SureReadAt : SureDeviceInMemory → ℕ → List ℕ → List ℕ → Answer → SureDeviceInMemory → Type 0
SureReadAt old at into got answer.Done new = (new ≡ old) × (got ≡ take (length into) (drop at old.stored.bytes))
SureReadAt old at into got answer.Failed new = ⊥

abbrev pub SureWriteAt : SureDeviceInMemory → ℕ → List ℕ → Answer → SureDeviceInMemory → Type 0
SureWriteAt old at bytes answer.Done new =
    new ≡ record old { stored = stored_patched at bytes old.stored }
SureWriteAt old at bytes answer.Failed new = new ≡ record old { faults = counted old.faults }

abbrev pub SureCut : SureDeviceInMemory → ℕ → Answer → SureDeviceInMemory → Type 0
SureCut old n answer.Done new = new ≡ record old { stored = stored_cut n old.stored }
SureCut old n answer.Failed new = new ≡ record old { faults = counted old.faults }

abbrev pub SureSync : SureDeviceInMemory → Answer → SureDeviceInMemory → Type 0
SureSync old answer.Done new = new ≡ record old { stored = stored_synced old.stored }
SureSync old answer.Failed new = new ≡ record old { faults = counted old.faults }
