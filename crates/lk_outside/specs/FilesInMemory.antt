-- This project's own: input files kept in memory, exactly.
use Rattle.std.specs.Prelude.{◌≡◌, ◌++◌, ◌∷◌, [], ◌⊎◌, ℕ, List, Option, Some, None, option_map, find}
use Rattle.std.specs.Str.{bytes_eq}
use Rattle.lk_report.specs.FileMap.{FileRow, FileMap}
use Rattle.lk_outside.specs.declared.files.StatAnswer.{StatAnswer}
use Rattle.lk_outside.specs.declared.files.StatAnswer.TheVariants as stat
use Rattle.lk_outside.specs.declared.files.ReadAnswer.{ReadAnswer}
use Rattle.lk_outside.specs.declared.files.ReadAnswer.TheVariants as read
use Rattle.lk_outside.specs.declared.calls.Calls.{Calls}
use Rattle.lk_outside.specs.declared.file_entries.FileEntry.{FileEntry}
use Rattle.lk_outside.specs.Counts.{counted, FailsNext, call_made, call_failed}
use Rattle.lk_outside.specs.FilesState.{FilesState}

-- the files, the paths given to `stat` and to `read`, the path of the last call that failed, the
-- calls, and the count of misses
pub record FilesInMemory : Type 0 where
  pub entries : List FileEntry
  pub stats : List (List ℕ)
  pub reads : List (List ℕ)
  pub failed : Option (List ℕ)
  pub calls : Calls
  pub misses : ℕ

-- files that never fail
pub record SureFilesInMemory : Type 0 where
  pub entries : List FileEntry
  pub stats : List (List ℕ)
  pub reads : List (List ℕ)
  pub misses : ℕ

-- the files as a map
abbrev pub row_of : FileEntry → FileRow
row_of e = record { bytes = e.bytes; stamp = e.stamp }

abbrev pub entry_at : List ℕ → List FileEntry → Option FileEntry
entry_at path entries = find (λ e. bytes_eq e.path path) entries

abbrev pub map_of : List FileEntry → FileMap
map_of entries path = option_map row_of (entry_at path entries)

abbrev pub slot_content_of : FilesInMemory → FilesState
slot_content_of m =
    record {
      known = Some (record { map = map_of m.entries; stats = m.stats; reads = m.reads; failed = m.failed });
      faults = m.calls.faults;
      misses = m.misses;
    }

abbrev pub sure_state_of : SureFilesInMemory → FilesState
sure_state_of m =
    record {
      known = Some (record { map = map_of m.entries; stats = m.stats; reads = m.reads; failed = None });
      faults = 0;
      misses = m.misses;
    }

-- a call was made, of which the path was noted
abbrev pub stat_made : List ℕ → FilesInMemory → FilesInMemory
stat_made path m = record m { stats = m.stats ++ path ∷ []; calls = call_made m.calls }

abbrev pub read_made : List ℕ → FilesInMemory → FilesInMemory
read_made path m = record m { reads = m.reads ++ path ∷ []; calls = call_made m.calls }

-- one look-up, exactly; the call that is to fail fails, and no other
abbrev pub StatInMemory : FilesInMemory → List ℕ → StatAnswer → FilesInMemory → Type 0
StatInMemory old path (stat.Found stamp) new =
    (FailsNext old.calls → ⊥) × (new ≡ stat_made path old)
    × (option_map (λ row. row.stamp) (map_of old.entries path) ≡ Some stamp)
StatInMemory old path stat.Absent new =
    (FailsNext old.calls → ⊥) × (new ≡ record (stat_made path old) { misses = counted old.misses })
    × (map_of old.entries path ≡ None)
StatInMemory old path stat.Failed new =
    FailsNext old.calls
    × (new ≡ record (stat_made path old) { failed = Some path; calls = call_failed old.calls })
StatInMemory old path stat.NoMemory new =
    (new ≡ record old { calls = call_made old.calls }) ⊎ (new ≡ stat_made path old)

-- one read, exactly
abbrev pub ReadInMemory : FilesInMemory → List ℕ → ReadAnswer → FilesInMemory → Type 0
ReadInMemory old path (read.Got bytes) new =
    (FailsNext old.calls → ⊥) × (new ≡ read_made path old)
    × (option_map (λ row. row.bytes) (map_of old.entries path) ≡ Some bytes)
ReadInMemory old path read.Absent new =
    (FailsNext old.calls → ⊥) × (new ≡ record (read_made path old) { misses = counted old.misses })
    × (map_of old.entries path ≡ None)
ReadInMemory old path read.Failed new =
    FailsNext old.calls
    × (new ≡ record (read_made path old) { failed = Some path; calls = call_failed old.calls })
ReadInMemory old path read.NoMemory new =
    (new ≡ record old { calls = call_made old.calls }) ⊎ (new ≡ read_made path old)

-- the same calls of files that never fail
abbrev pub SureStat : SureFilesInMemory → List ℕ → StatAnswer → SureFilesInMemory → Type 0
SureStat old path (stat.Found stamp) new =
    (new ≡ record old { stats = old.stats ++ path ∷ [] })
    × (option_map (λ row. row.stamp) (map_of old.entries path) ≡ Some stamp)
SureStat old path stat.Absent new =
    (new ≡ record old { stats = old.stats ++ path ∷ []; misses = counted old.misses })
    × (map_of old.entries path ≡ None)
SureStat old path stat.Failed new = ⊥
SureStat old path stat.NoMemory new =
    (new ≡ old) ⊎ (new ≡ record old { stats = old.stats ++ path ∷ [] })

abbrev pub SureRead : SureFilesInMemory → List ℕ → ReadAnswer → SureFilesInMemory → Type 0
SureRead old path (read.Got bytes) new =
    (new ≡ record old { reads = old.reads ++ path ∷ [] })
    × (option_map (λ row. row.bytes) (map_of old.entries path) ≡ Some bytes)
SureRead old path read.Absent new =
    (new ≡ record old { reads = old.reads ++ path ∷ []; misses = counted old.misses })
    × (map_of old.entries path ≡ None)
SureRead old path read.Failed new = ⊥
SureRead old path read.NoMemory new =
    (new ≡ old) ⊎ (new ≡ record old { reads = old.reads ++ path ∷ [] })

-- one path's row was set, and every other path has the row that it had
abbrev pub SetsRow : List FileEntry → List FileEntry → List ℕ → FileRow → Type 0
SetsRow old new path row =
    (map_of new path ≡ Some row) × ((other : List ℕ) → (other ≡ path → ⊥) → map_of new other ≡ map_of old other)
