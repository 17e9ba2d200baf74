-- What a look-up and a read of one path make of what files report, by the map alone.
use Rattle.std.proofs.Common.{◌≡◌, ◌⊎◌, refl, sym, ap, ◌∙◌, subst, inl, inr, ℕ, List, [], ◌∷◌, ◌++◌, append_assoc, Option, Some, None}
use Rattle.std.proofs.lemmas.List.{append-nil}
use Rattle.std.specs.Prelude.{IfSome, option_map}
use Rattle.lk_report.specs.FileMap.{FileMap, FileRow}
use Rattle.lk_outside.specs.FilesState.{FilesState, Known, StatGives, ReadGives, failure_noted, read_noted, stat_noted}
use Rattle.lk_outside.specs.declared.files.StatAnswer.{StatAnswer}
use Rattle.lk_outside.specs.declared.files.StatAnswer.TheVariants as stat
use Rattle.lk_outside.specs.declared.files.ReadAnswer.{ReadAnswer}
use Rattle.lk_outside.specs.declared.files.ReadAnswer.TheVariants as read
use Rattle.lk_inputs.specs.FileAnswers.{ReadCounts, ReadNoted, ReadReported, StatCounts, StatReported, known_map, known_reads, reads_with}

abbrev map_of : Known → FileMap
map_of k = k.map

-- a note leaves the map
noted_leaves : (note : Known → Known) (o : Option Known) → ((k : Known) → (note k).map ≡ k.map) → option_map map_of (option_map note o) ≡ option_map map_of o
noted_leaves note None h = refl
noted_leaves note (Some k) h = ap (λ m. Some m) (h k)

keeps : (note : Known → Known) (o n : Option Known) → ((k : Known) → (note k).map ≡ k.map) → n ≡ option_map note o → option_map map_of n ≡ option_map map_of o
keeps note o n h e = ap (option_map map_of) e ∙ noted_leaves note o h

keeps_or : (note : Known → Known) (o n : Option Known) → ((k : Known) → (note k).map ≡ k.map) → (n ≡ o) ⊎ (n ≡ option_map note o) → option_map map_of n ≡ option_map map_of o
keeps_or note o n h (inl e) = ap (option_map map_of) e
keeps_or note o n h (inr e) = keeps note o n h e

pub stat_keeps : (old new : FilesState) (path : List ℕ) (a : StatAnswer) → StatGives old path a new → known_map new ≡ known_map old
stat_keeps old new path (stat.Found stamp) g = keeps (stat_noted path) old.known new.known (λ k. refl) g.0
stat_keeps old new path stat.Absent g = keeps (stat_noted path) old.known new.known (λ k. refl) g.0
stat_keeps old new path stat.Failed g = keeps (λ k. failure_noted path (stat_noted path k)) old.known new.known (λ k. refl) g.0
stat_keeps old new path stat.NoMemory g = keeps_or (stat_noted path) old.known new.known (λ k. refl) g.0

pub read_keeps : (old new : FilesState) (path : List ℕ) (a : ReadAnswer) → ReadGives old path a new → known_map new ≡ known_map old
read_keeps old new path (read.Got bytes) g = keeps (read_noted path) old.known new.known (λ k. refl) g.0
read_keeps old new path read.Absent g = keeps (read_noted path) old.known new.known (λ k. refl) g.0
read_keeps old new path read.Failed g = keeps (λ k. failure_noted path (read_noted path k)) old.known new.known (λ k. refl) g.0
read_keeps old new path read.NoMemory g = keeps_or (read_noted path) old.known new.known (λ k. refl) g.0

-- what holds of the map where it is reported
reported_of : (o : Option Known) (there : FileMap) (P : FileMap → Type 0) → IfSome o (λ k. P k.map) → option_map map_of o ≡ Some there → P there
reported_of None there P h e = absurd (cc)
reported_of (Some k) there P h e =
    let same : k.map ≡ there = cc in
    subst P same h

pub stat_reports : (old new : FilesState) (path : List ℕ) (a : StatAnswer) (there : FileMap) → StatGives old path a new → known_map old ≡ Some there → StatReported there path a
stat_reports old new path (stat.Found stamp) there g e = reported_of old.known there (λ m. option_map (λ (row : FileRow). row.stamp) (m path) ≡ Some stamp) g.2 e
stat_reports old new path stat.Absent there g e = reported_of old.known there (λ m. m path ≡ None) g.3 e
stat_reports old new path stat.Failed there g e = tt
stat_reports old new path stat.NoMemory there g e = tt

pub read_reports : (old new : FilesState) (path : List ℕ) (a : ReadAnswer) (there : FileMap) → ReadGives old path a new → known_map old ≡ Some there → ReadReported there path a
read_reports old new path (read.Got bytes) there g e = reported_of old.known there (λ m. option_map (λ (row : FileRow). row.bytes) (m path) ≡ Some bytes) g.2 e
read_reports old new path read.Absent there g e = reported_of old.known there (λ m. m path ≡ None) g.3 e
read_reports old new path read.Failed there g e = tt
read_reports old new path read.NoMemory there g e = tt

-- a call that failed is reported as the last one that did
failed_last : (note : Known → Known) (path : List ℕ) (o n : Option Known) → n ≡ option_map (λ k. failure_noted path (note k)) o → IfSome n (λ (k : Known). k.failed ≡ Some path)
failed_last note path o n e =
    let P : Option Known → Type 0 = λ p. IfSome p (λ (k : Known). k.failed ≡ Some path) in
    subst P (sym e) (by o)
  where
    by : (o : Option Known) → IfSome (option_map (λ k. failure_noted path (note k)) o) (λ (k : Known). k.failed ≡ Some path)
    by None = tt
    by (Some k) = refl

pub stat_counts : (old new : FilesState) (path : List ℕ) (a : StatAnswer) → StatGives old path a new → StatCounts old path a new
stat_counts old new path (stat.Found stamp) g = g.1.0
stat_counts old new path stat.Absent g = g.1
stat_counts old new path stat.Failed g = (g.1, failed_last (stat_noted path) path old.known new.known g.0)
stat_counts old new path stat.NoMemory g = g.1.0

pub read_counts : (old new : FilesState) (path : List ℕ) (a : ReadAnswer) → ReadGives old path a new → ReadCounts old path a new
read_counts old new path (read.Got bytes) g = g.1.0
read_counts old new path read.Absent g = g.1
read_counts old new path read.Failed g = (g.1, failed_last (read_noted path) path old.known new.known g.0)
read_counts old new path read.NoMemory g = g.1.0

-- ---- the paths that were read

abbrev reads_of : Known → List (List ℕ)
reads_of k = k.reads

noted_unread : (note : Known → Known) (o : Option Known) → ((k : Known) → (note k).reads ≡ k.reads) → option_map reads_of (option_map note o) ≡ option_map reads_of o
noted_unread note None h = refl
noted_unread note (Some k) h = ap (λ r. Some r) (h k)

stays_unread : (note : Known → Known) (o n : Option Known) → ((k : Known) → (note k).reads ≡ k.reads) → n ≡ option_map note o → option_map reads_of n ≡ option_map reads_of o
stays_unread note o n h e = ap (option_map reads_of) e ∙ noted_unread note o h

pub stat_unread : (old new : FilesState) (path : List ℕ) (a : StatAnswer) → StatGives old path a new → known_reads new ≡ known_reads old
stat_unread old new path (stat.Found stamp) g = stays_unread (stat_noted path) old.known new.known (λ k. refl) g.0
stat_unread old new path stat.Absent g = stays_unread (stat_noted path) old.known new.known (λ k. refl) g.0
stat_unread old new path stat.Failed g = stays_unread (λ k. failure_noted path (stat_noted path k)) old.known new.known (λ k. refl) g.0
stat_unread old new path stat.NoMemory g = by g.0
  where
    by : (new.known ≡ old.known) ⊎ (new.known ≡ option_map (stat_noted path) old.known) → known_reads new ≡ known_reads old
    by (inl e) = ap (option_map reads_of) e
    by (inr e) = stays_unread (stat_noted path) old.known new.known (λ k. refl) e

noted_read : (path : List ℕ) (note : Known → Known) (o n : Option Known) → ((k : Known) → (note k).reads ≡ k.reads ++ path ∷ []) → n ≡ option_map note o → option_map reads_of n ≡ reads_with (path ∷ []) (option_map reads_of o)
noted_read path note o n h e = ap (option_map reads_of) e ∙ by o
  where
    by : (o : Option Known) → option_map reads_of (option_map note o) ≡ reads_with (path ∷ []) (option_map reads_of o)
    by None = refl
    by (Some k) = ap (λ r. Some r) (h k)

pub read_noted_as : (old new : FilesState) (path : List ℕ) (a : ReadAnswer) → ReadGives old path a new → ReadNoted old path a new
read_noted_as old new path (read.Got bytes) g = noted_read path (read_noted path) old.known new.known (λ k. refl) g.0
read_noted_as old new path read.Absent g = noted_read path (read_noted path) old.known new.known (λ k. refl) g.0
read_noted_as old new path read.Failed g = noted_read path (λ k. failure_noted path (read_noted path k)) old.known new.known (λ k. refl) g.0
read_noted_as old new path read.NoMemory g = tt

pub reads_none : (o : Option (List (List ℕ))) → reads_with [] o ≡ o
reads_none None = refl
reads_none (Some paths) = ap (λ r. Some r) (append-nil paths)

pub reads_more : (o : Option (List (List ℕ))) (paths : List (List ℕ)) (path : List ℕ) → reads_with (path ∷ []) (reads_with paths o) ≡ reads_with (paths ++ path ∷ []) o
reads_more None paths path = refl
reads_more (Some before) paths path = ap (λ r. Some r) (append_assoc before paths (path ∷ []))
