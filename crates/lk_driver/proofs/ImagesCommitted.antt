-- From the image of the words' command, and what its commit answers, to what the top call says.
use Rattle.std.proofs.Common.{◌≡◌, ◌⊎◌, refl, sym, subst, inl, inr, ℕ, List, Option, Some, None, Ok}
use Rattle.std.specs.Prelude.{IfSome}
use Rattle.lk_report.specs.declared.sinks.Answer.TheVariants as answer
use Rattle.lk_report.specs.declared.statuses.Outcome.TheVariants as outcome
use Rattle.lk_report.specs.declared.statuses.Status.{Status}
use Rattle.lk_report.specs.declared.statuses.Status.TheVariants as status
use Rattle.lk_model.specs.Answers.{full_link, static_answer}
use Rattle.lk_outside.specs.Disk.{Disk, Stored}
use Rattle.lk_outside.specs.FilesState.{FilesState, Known}
use Rattle.lk_commit.specs.CrashStates.{CommitGives, IsFinished, IsStopped}
use Rattle.lk_commit.proofs.Reported.{reported_after, reported_map2}
use Rattle.lk_driver.specs.Committing.{IsCommitted}
use Rattle.lk_driver.specs.ImageGiven.{ImageFirst, ImageGiven}
use Rattle.lk_driver.specs.Outer.{AnswerIs, DoneLeaves, FilesKept, IsDue, IsImage, StopLeaves, WordsFirst, words_answer}
use Rattle.lk_driver.proofs.OuterAsked.{if-some}

-- a commit is done, or the device failed
abbrev IsEither : Disk → List ℕ → Status → Disk → Type 0
IsEither old image s new = ((s ≡ full_link) × CommitGives (λ file. image) old answer.Done new) ⊎ ((s ≡ status.DeviceFault) × CommitGives (λ file. image) old answer.Failed new)

either : (old : Disk) (image : List ℕ) (s : Status) (new : Disk) → IsCommitted old image s new → IsEither old image s new
either old image (status.Done (outcome.Full None)) new h = inl (refl, h)
either old image (status.Done (outcome.Full (Some cause))) new h = absurd h
either old image (status.Done outcome.Updated) new h = absurd h
either old image status.DeviceFault new h = inr (refl, h)
either old image (status.LinkError f) new h = absurd h
either old image (status.Usage u) new h = absurd h
either old image (status.ReadFault p) new h = absurd h
either old image status.NoMemory new h = absurd h
either old image (status.Limit l) new h = absurd h
either old image (status.NotUpdated c) new h = absurd h
either old image (status.NotYet w) new h = absurd h

-- a property of both answers
of_both : (P : Status → Type 0) (old : Disk) (image : List ℕ) (s : Status) (new : Disk) → IsCommitted old image s new
    → (CommitGives (λ file. image) old answer.Done new → P full_link) → (CommitGives (λ file. image) old answer.Failed new → P status.DeviceFault) → P s
of_both P old image s new h done failed = elim (either old image s new h) [
  | inl is ↦ subst P (sym is.0) (done is.1)
  | inr is ↦ subst P (sym is.0) (failed is.1)
]

some-of : {X : Type 0} (o : Option X) (P : X → Type 0) → IfSome o P → (x : X) → o ≡ Some x → P x
some-of o P h x e = subst (λ p. IfSome p P) e h

-- ---- the clauses

first-by : (o : Option Status) (files files_after : FilesState) (disk disk_after : Disk) (image : List ℕ) (s : Status) → ImageFirst o files (Ok image) files_after → IsCommitted disk image s disk_after → WordsFirst o files disk s files_after disk_after
first-by None files files_after disk disk_after image s first h = of_both (λ (t : Status). WordsFirst None files disk t files_after disk_after) disk image s disk_after h (λ c. tt) (λ c. tt)
first-by (Some due) files files_after disk disk_after image s first h = absurd first

pub words-first : (words : List (List ℕ)) (files files_after : FilesState) (disk disk_after : Disk) (image : List ℕ) (s : Status) → ImageGiven words files (Ok image) files_after → IsCommitted disk image s disk_after → WordsFirst (words_answer words) files disk s files_after disk_after
words-first words files files_after disk disk_after image s given h = first-by (words_answer words) files files_after disk disk_after image s given.first h

pub is-due : (words : List (List ℕ)) (files files_after : FilesState) (disk disk_after : Disk) (image : List ℕ) (s : Status) → ImageGiven words files (Ok image) files_after → IsCommitted disk image s disk_after → IsDue words files s
is-due words files files_after disk disk_after image s given h = of_both (IsDue words files) disk image s disk_after h
    (λ c. given.due)
    (λ c. if-some files.known (λ (k : Known). AnswerIs status.DeviceFault (static_answer words k.map)) (λ k e. sym (some-of files.known (λ (x : Known). AnswerIs full_link (static_answer words x.map)) given.due k e)))

pub done-leaves : (words : List (List ℕ)) (files files_after : FilesState) (disk disk_after : Disk) (image : List ℕ) (s : Status) → ImageGiven words files (Ok image) files_after → IsCommitted disk image s disk_after → DoneLeaves words files s disk_after
done-leaves words files files_after disk disk_after image s given h = of_both (λ (t : Status). DoneLeaves words files t disk_after) disk image s disk_after h
    (λ c.
    let is = reported_after {S = λ (t : Stored). t.bytes ≡ image} (λ t u (f : IsFinished image t u). f.file) disk.stored disk_after.stored c.1 in
    if-some files.known (λ (k : Known). IfSome disk_after.stored (λ t. IsImage words k.map t.bytes)) (λ k e.
    if-some disk_after.stored (λ (t : Stored). IsImage words k.map t.bytes) (λ t there.
    subst (IsImage words k.map) (sym (is t there)) (some-of files.known (λ (x : Known). IsImage words x.map image) given.image k e))))
    (λ c. tt)

pub stop-leaves : (words : List (List ℕ)) (files files_after : FilesState) (disk disk_after : Disk) (image : List ℕ) (s : Status) → ImageGiven words files (Ok image) files_after → IsCommitted disk image s disk_after → StopLeaves words files disk s disk_after
stop-leaves words files files_after disk disk_after image s given h = of_both (λ (t : Status). StopLeaves words files disk t disk_after) disk image s disk_after h
    (λ c. reported_map2 (λ t u (f : IsFinished image t u). (image, (given.image, f))) disk.stored disk_after.stored c.1)
    (λ c. reported_map2 (λ t u (f : IsStopped image t u). (image, (given.image, f))) disk.stored disk_after.stored c.1)

kept-by : (o : Option Status) (words : List (List ℕ)) (files files_after : FilesState) → FilesKept o words files full_link files_after → FilesKept o words files status.DeviceFault files_after
kept-by (Some due) words files files_after h = h
kept-by None words files files_after h = record { map = h.map; asked = h.asked; last = h.last }

pub files-kept : (words : List (List ℕ)) (files files_after : FilesState) (disk disk_after : Disk) (image : List ℕ) (s : Status) → ImageGiven words files (Ok image) files_after → IsCommitted disk image s disk_after → FilesKept (words_answer words) words files s files_after
files-kept words files files_after disk disk_after image s given h = of_both (λ (t : Status). FilesKept (words_answer words) words files t files_after) disk image s disk_after h
    (λ c. given.kept)
    (λ c. kept-by (words_answer words) words files files_after given.kept)
