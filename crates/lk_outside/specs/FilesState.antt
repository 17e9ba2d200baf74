-- This project's own: the state of the input files, and what a look-up and a read make of it.
use Rattle.std.specs.Prelude.{◌≡◌, ◌++◌, ◌∷◌, [], ◌⊎◌, ℕ, List, Option, Some, None, option_map, IfSome}
use Rattle.lk_report.specs.FileMap.{FileMap}
use Rattle.lk_report.specs.Spoken.{Rose}
use Rattle.lk_outside.specs.declared.files.StatAnswer.{StatAnswer}
use Rattle.lk_outside.specs.declared.files.StatAnswer.TheVariants as stat
use Rattle.lk_outside.specs.declared.files.ReadAnswer.{ReadAnswer}
use Rattle.lk_outside.specs.declared.files.ReadAnswer.TheVariants as read

-- the files by their paths, the paths given to `stat` and to `read` in order, and the path of the
-- last call that answered Failed
pub record Known : Type 0 where
  pub map : FileMap
  pub stats : List (List ℕ)
  pub reads : List (List ℕ)
  pub failed : Option (List ℕ)

-- an object of files: what it reports of its content, which may be nothing, and its two counts
pub record FilesState : Type 0 where
  pub known : Option Known
  pub faults : ℕ
  pub misses : ℕ

-- the path was given to `stat`, to `read`; the call of this path failed
abbrev pub stat_noted : List ℕ → Known → Known
stat_noted path k = record k { stats = k.stats ++ path ∷ [] }

abbrev pub read_noted : List ℕ → Known → Known
read_noted path k = record k { reads = k.reads ++ path ∷ [] }

abbrev pub failure_noted : List ℕ → Known → Known
failure_noted path k = record k { failed = Some path }

-- the counts are as they were
abbrev pub SameCounts : FilesState → FilesState → Type 0
SameCounts old new = (new.faults ≡ old.faults) × (new.misses ≡ old.misses)

-- one look-up of the path: a stamp that the map has, no row, a failure, or no memory
abbrev pub StatGives : FilesState → List ℕ → StatAnswer → FilesState → Type 0
StatGives old path (stat.Found stamp) new =
    (new.known ≡ option_map (stat_noted path) old.known) × SameCounts old new
    × IfSome old.known (λ k. option_map (λ row. row.stamp) (k.map path) ≡ Some stamp)
StatGives old path stat.Absent new =
    (new.known ≡ option_map (stat_noted path) old.known) × (new.faults ≡ old.faults)
    × Rose old.misses new.misses × IfSome old.known (λ k. k.map path ≡ None)
StatGives old path stat.Failed new =
    (new.known ≡ option_map (λ k. failure_noted path (stat_noted path k)) old.known)
    × Rose old.faults new.faults × (new.misses ≡ old.misses)
StatGives old path stat.NoMemory new =
    ((new.known ≡ old.known) ⊎ (new.known ≡ option_map (stat_noted path) old.known))
    × SameCounts old new

-- one read of the path: the bytes that the map has, no row, a failure, or no memory
abbrev pub ReadGives : FilesState → List ℕ → ReadAnswer → FilesState → Type 0
ReadGives old path (read.Got bytes) new =
    (new.known ≡ option_map (read_noted path) old.known) × SameCounts old new
    × IfSome old.known (λ k. option_map (λ row. row.bytes) (k.map path) ≡ Some bytes)
ReadGives old path read.Absent new =
    (new.known ≡ option_map (read_noted path) old.known) × (new.faults ≡ old.faults)
    × Rose old.misses new.misses × IfSome old.known (λ k. k.map path ≡ None)
ReadGives old path read.Failed new =
    (new.known ≡ option_map (λ k. failure_noted path (read_noted path k)) old.known)
    × Rose old.faults new.faults × (new.misses ≡ old.misses)
ReadGives old path read.NoMemory new =
    ((new.known ≡ old.known) ⊎ (new.known ≡ option_map (read_noted path) old.known))
    × SameCounts old new
