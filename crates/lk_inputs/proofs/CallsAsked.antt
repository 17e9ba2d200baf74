-- What a look-up and a read of one path make of what files report: the paths that were asked for, the last call that
-- failed, and files that are not there.
use Rattle.std.proofs.Common.{◌≡◌, ◌⊎◌, refl, ap, ◌∙◌, inl, inr, ℕ, List, [], ◌∷◌, ◌++◌, Option, Some, None}
use Rattle.std.specs.Prelude.{option_map}
use Rattle.lk_outside.specs.FilesState.{FilesState, Known, StatGives, ReadGives, failure_noted, read_noted, stat_noted}
use Rattle.lk_outside.specs.declared.files.StatAnswer.{StatAnswer}
use Rattle.lk_outside.specs.declared.files.StatAnswer.TheVariants as stat
use Rattle.lk_outside.specs.declared.files.ReadAnswer.{ReadAnswer}
use Rattle.lk_outside.specs.declared.files.ReadAnswer.TheVariants as read
use Rattle.lk_inputs.specs.Asked.{FrontAsked, ReadAsked, ReadLast, ReadMisses, StatAsked, StatLast, StatMisses, known_stats}
use Rattle.lk_inputs.specs.FileAnswers.{known_reads, reads_with}
use Rattle.lk_inputs.proofs.TurnsTaken.{all_asked, none_asked}

-- ---- what a note leaves

stays : {A : Type 0} (part : Known → A) (note : Known → Known) (o n : Option Known) → ((k : Known) → part (note k) ≡ part k) → n ≡ option_map note o → option_map part n ≡ option_map part o
stays part note o n h e = ap (option_map part) e ∙ by o
  where
    by : (o : Option Known) → option_map part (option_map note o) ≡ option_map part o
    by None = refl
    by (Some k) = ap (λ a. Some a) (h k)

stays_or : {A : Type 0} (part : Known → A) (note : Known → Known) (o n : Option Known) → ((k : Known) → part (note k) ≡ part k) → (n ≡ o) ⊎ (n ≡ option_map note o) → option_map part n ≡ option_map part o
stays_or part note o n h (inl e) = ap (option_map part) e
stays_or part note o n h (inr e) = stays part note o n h e

-- ---- the paths

noted_as : (part : Known → List (List ℕ)) (path : List ℕ) (note : Known → Known) (o n : Option Known) → ((k : Known) → part (note k) ≡ part k ++ path ∷ []) → n ≡ option_map note o → option_map part n ≡ reads_with (path ∷ []) (option_map part o)
noted_as part path note o n h e = ap (option_map part) e ∙ by o
  where
    by : (o : Option Known) → option_map part (option_map note o) ≡ reads_with (path ∷ []) (option_map part o)
    by None = refl
    by (Some k) = ap (λ r. Some r) (h k)

one_or_none : (part : Known → List (List ℕ)) (path : List ℕ) (note : Known → Known) (o n : Option Known) → ((k : Known) → part (note k) ≡ part k ++ path ∷ []) → (n ≡ o) ⊎ (n ≡ option_map note o) → FrontAsked (option_map part o) (path ∷ []) (option_map part n)
one_or_none part path note o n h (inl e) = none_asked (option_map part o) (option_map part n) (path ∷ []) (ap (option_map part) e)
one_or_none part path note o n h (inr e) = all_asked (option_map part o) (option_map part n) (path ∷ []) (noted_as part path note o n h e)

stats_of : Known → List (List ℕ)
stats_of k = k.stats

reads_of : Known → List (List ℕ)
reads_of k = k.reads

failed_of : Known → Option (List ℕ)
failed_of k = k.failed

pub stat_asked : (old new : FilesState) (path : List ℕ) (a : StatAnswer) → StatGives old path a new → StatAsked (known_stats old) path a (known_stats new)
unfolding stats_of
stat_asked old new path (stat.Found stamp) g = noted_as stats_of path (stat_noted path) old.known new.known (λ k. refl) g.0
stat_asked old new path stat.Absent g = noted_as stats_of path (stat_noted path) old.known new.known (λ k. refl) g.0
stat_asked old new path stat.Failed g = noted_as stats_of path (λ k. failure_noted path (stat_noted path k)) old.known new.known (λ k. refl) g.0
stat_asked old new path stat.NoMemory g = one_or_none stats_of path (stat_noted path) old.known new.known (λ k. refl) g.0

pub read_asked : (old new : FilesState) (path : List ℕ) (a : ReadAnswer) → ReadGives old path a new → ReadAsked (known_reads old) path a (known_reads new)
unfolding reads_of
read_asked old new path (read.Got bytes) g = noted_as reads_of path (read_noted path) old.known new.known (λ k. refl) g.0
read_asked old new path read.Absent g = noted_as reads_of path (read_noted path) old.known new.known (λ k. refl) g.0
read_asked old new path read.Failed g = noted_as reads_of path (λ k. failure_noted path (read_noted path k)) old.known new.known (λ k. refl) g.0
read_asked old new path read.NoMemory g = one_or_none reads_of path (read_noted path) old.known new.known (λ k. refl) g.0

-- a read looks nothing up
pub read_unlooked : (old new : FilesState) (path : List ℕ) (a : ReadAnswer) → ReadGives old path a new → known_stats new ≡ known_stats old
unfolding stats_of
read_unlooked old new path (read.Got bytes) g = stays stats_of (read_noted path) old.known new.known (λ k. refl) g.0
read_unlooked old new path read.Absent g = stays stats_of (read_noted path) old.known new.known (λ k. refl) g.0
read_unlooked old new path read.Failed g = stays stats_of (λ k. failure_noted path (read_noted path k)) old.known new.known (λ k. refl) g.0
read_unlooked old new path read.NoMemory g = stays_or stats_of (read_noted path) old.known new.known (λ k. refl) g.0

-- ---- the last call that failed

pub stat_last : (old new : FilesState) (path : List ℕ) (a : StatAnswer) → StatGives old path a new → StatLast old a new
unfolding failed_of
stat_last old new path (stat.Found stamp) g = stays failed_of (stat_noted path) old.known new.known (λ k. refl) g.0
stat_last old new path stat.Absent g = stays failed_of (stat_noted path) old.known new.known (λ k. refl) g.0
stat_last old new path stat.Failed g = tt
stat_last old new path stat.NoMemory g = stays_or failed_of (stat_noted path) old.known new.known (λ k. refl) g.0

pub read_last : (old new : FilesState) (path : List ℕ) (a : ReadAnswer) → ReadGives old path a new → ReadLast old a new
unfolding failed_of
read_last old new path (read.Got bytes) g = stays failed_of (read_noted path) old.known new.known (λ k. refl) g.0
read_last old new path read.Absent g = stays failed_of (read_noted path) old.known new.known (λ k. refl) g.0
read_last old new path read.Failed g = tt
read_last old new path read.NoMemory g = stays_or failed_of (read_noted path) old.known new.known (λ k. refl) g.0

-- ---- files that are not there

pub stat_misses : (old new : FilesState) (path : List ℕ) (a : StatAnswer) → StatGives old path a new → StatMisses old a new
stat_misses old new path (stat.Found stamp) g = g.1.1
stat_misses old new path stat.Absent g = g.2
stat_misses old new path stat.Failed g = g.2
stat_misses old new path stat.NoMemory g = g.1.1

pub read_misses : (old new : FilesState) (path : List ℕ) (a : ReadAnswer) → ReadGives old path a new → ReadMisses old a new
read_misses old new path (read.Got bytes) g = g.1.1
read_misses old new path read.Absent g = g.2
read_misses old new path read.Failed g = g.2
read_misses old new path read.NoMemory g = g.1.1
