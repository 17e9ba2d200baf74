-- This project's own: the map of the input files, where they report it, and what single calls report of it.
use Rattle.std.specs.Prelude.{◌≡◌, ◌++◌, ◌∷◌, [], ℕ, List, Option, Some, None, option_map, IfSome, Result, Ok, Err}
use Rattle.lk_report.specs.FileMap.{FileMap, FileRow}
use Rattle.lk_report.specs.Spoken.{Rose}
use Rattle.lk_report.specs.declared.stamps.Stamp.{Stamp}
use Rattle.lk_report.specs.declared.statuses.Status.{Status}
use Rattle.lk_report.specs.declared.statuses.Status.TheVariants as status
use Rattle.lk_outside.specs.FilesState.{FilesState, Known}
use Rattle.lk_outside.specs.declared.files.StatAnswer.{StatAnswer}
use Rattle.lk_outside.specs.declared.files.StatAnswer.TheVariants as stat
use Rattle.lk_outside.specs.declared.files.ReadAnswer.{ReadAnswer}
use Rattle.lk_outside.specs.declared.files.ReadAnswer.TheVariants as read
use Rattle.lk_inputs.specs.declared.unread.Unread.{Unread}
use Rattle.lk_inputs.specs.declared.unread.Unread.TheVariants as unread

-- the map of the files, where they report it
abbrev pub known_map : FilesState → Option FileMap
known_map state = option_map (λ (k : Known). k.map) state.known

-- a file's stamp and its bytes, where the map has the path
abbrev pub stamp_at : FileMap → List ℕ → Option (Option Stamp)
stamp_at there path = option_map (λ (row : FileRow). row.stamp) (there path)

abbrev pub content_at : FileMap → List ℕ → Option (List ℕ)
content_at there path = option_map (λ (row : FileRow). row.bytes) (there path)

-- a look-up of a path, and a read of it, by the map
abbrev pub StatReported : FileMap → List ℕ → StatAnswer → Type 0
StatReported there path (stat.Found stamp) = stamp_at there path ≡ Some stamp
StatReported there path stat.Absent = there path ≡ None
StatReported there path stat.Failed = Unit {0}
StatReported there path stat.NoMemory = Unit {0}

abbrev pub ReadReported : FileMap → List ℕ → ReadAnswer → Type 0
ReadReported there path (read.Got bytes) = content_at there path ≡ Some bytes
ReadReported there path read.Absent = there path ≡ None
ReadReported there path read.Failed = Unit {0}
ReadReported there path read.NoMemory = Unit {0}

-- the count of faults rose, and where the files report it the last call that failed was of this path
abbrev pub Failed : FilesState → List ℕ → FilesState → Type 0
Failed old path new = Rose old.faults new.faults × IfSome new.known (λ (k : Known). k.failed ≡ Some path)

-- a call that failed counts a fault, and any other leaves the count as it was
abbrev pub StatCounts : FilesState → List ℕ → StatAnswer → FilesState → Type 0
StatCounts old path (stat.Found stamp) new = new.faults ≡ old.faults
StatCounts old path stat.Absent new = new.faults ≡ old.faults
StatCounts old path stat.Failed new = Failed old path new
StatCounts old path stat.NoMemory new = new.faults ≡ old.faults

abbrev pub ReadCounts : FilesState → List ℕ → ReadAnswer → FilesState → Type 0
ReadCounts old path (read.Got bytes) new = new.faults ≡ old.faults
ReadCounts old path read.Absent new = new.faults ≡ old.faults
ReadCounts old path read.Failed new = Failed old path new
ReadCounts old path read.NoMemory new = new.faults ≡ old.faults

-- the same of calls in a row: a failure is reported only where a call failed, of its path; any other answer but
-- out of memory leaves the count as it was
abbrev pub UnreadCounts : {X : Type 0} → FilesState → Result X Unread → FilesState → Type 0
UnreadCounts old (Ok x) new = new.faults ≡ old.faults
UnreadCounts old (Err (unread.Failed path)) new = Failed old path new
UnreadCounts old (Err unread.NoMemory) new = Unit {0}

abbrev pub StatusCounts : {X : Type 0} → FilesState → Result X Status → FilesState → Type 0
StatusCounts old (Ok x) new = new.faults ≡ old.faults
StatusCounts old (Err (status.ReadFault path)) new = Failed old path new
StatusCounts old (Err status.NoMemory) new = Unit {0}
StatusCounts old (Err s) new = new.faults ≡ old.faults

-- the paths that were given to `read`, where the files report them
abbrev pub known_reads : FilesState → Option (List (List ℕ))
known_reads state = option_map (λ (k : Known). k.reads) state.known

-- the paths, and then these
abbrev pub reads_with : List (List ℕ) → Option (List (List ℕ)) → Option (List (List ℕ))
reads_with more reported = option_map (λ (paths : List (List ℕ)). paths ++ more) reported

-- one read notes its path, but maybe for out of memory
abbrev pub ReadNoted : FilesState → List ℕ → ReadAnswer → FilesState → Type 0
ReadNoted old path (read.Got bytes) new = known_reads new ≡ reads_with (path ∷ []) (known_reads old)
ReadNoted old path read.Absent new = known_reads new ≡ reads_with (path ∷ []) (known_reads old)
ReadNoted old path read.Failed new = known_reads new ≡ reads_with (path ∷ []) (known_reads old)
ReadNoted old path read.NoMemory new = Unit {0}

-- a call of this path failed, or there was no memory for the path
abbrev pub IsFailed : List ℕ → Unread → Type 0
IsFailed path (unread.Failed reported) = reported ≡ path
IsFailed path unread.NoMemory = Unit {0}
