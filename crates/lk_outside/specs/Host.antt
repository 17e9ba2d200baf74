-- This project's own: what the host's objects report, which is their counts alone.
use Rattle.std.specs.Prelude.{ℕ, ℤ, pos, ◌*ℤ◌, ◌+ℤ◌, None}
use Rattle.lk_report.specs.Spoken.{Spoken}
use Rattle.lk_outside.specs.FilesState.{FilesState}
use Rattle.lk_outside.specs.Disk.{Disk}

abbrev pub unknown_state : ℕ → ℕ → FilesState
unknown_state faults misses = record { known = None; faults = faults; misses = misses }

abbrev pub unknown_disk : ℕ → Disk
unknown_disk faults = record { stored = None; faults = faults }

abbrev pub unknown_spoken : ℕ → Spoken
unknown_spoken faults = record { said = None; faults = faults }

-- the nanoseconds since 1970 of a time given in seconds and nanoseconds
abbrev pub nanoseconds : ℤ → ℤ → ℤ
nanoseconds seconds nanos = (seconds *ℤ pos 1000000000) +ℤ nanos
