-- This project's own: what the passes before the commit answer, and what they do to the files.
use Rattle.std.specs.Prelude.{◌≡◌, ℕ, List, Option, Some, None, Result, Ok, Err, IfOk, IfSome, codes}
use Rattle.lk_report.specs.declared.statuses.Status.{Status}
use Rattle.lk_report.specs.declared.statuses.Status.TheVariants as status
use Rattle.lk_report.specs.declared.statuses.Waiting.TheVariants as waiting
use Rattle.lk_model.specs.Answers.{full_link, words_wait}
use Rattle.lk_model.specs.Grammar.{grammar}
use Rattle.lk_model.specs.declared.commands.Command.{Command}
use Rattle.lk_outside.specs.FilesState.{FilesState}
use Rattle.lk_law_records.specs.CommandFits.{CommandFits}
use Rattle.lk_driver.specs.Committing.{SealedImage}
use Rattle.lk_driver.specs.Outer.{FilesKept, IsDue, IsImage, IsOfInputs, IsFirstRefusal, MissingReported, ReadFaultReported, words_answer}

-- ---- words

-- words are a command of which a link can be begun
pub record IsAccepted (words : List (List ℕ)) (c : Command) : Type 0 where
  pub is : grammar words ≡ Ok c
  pub waits : words_wait c ≡ None
  pub fits : CommandFits c

-- the command that words are, where a link of it can be begun
abbrev pub WordsGive : List (List ℕ) → Result Command Status → Type 0
WordsGive words (Ok c) = IsAccepted words c
WordsGive words (Err (status.Usage u)) = grammar words ≡ Err u
WordsGive words (Err (status.NotYet waiting.Words)) = (c : Command) × (grammar words ≡ Ok c) × (words_wait c ≡ Some (status.NotYet waiting.Words))
WordsGive words (Err status.NoMemory) = Unit {0}
WordsGive words (Err _) = ⊥

-- the output of refused words; none at any other status
abbrev pub OutputUnless : {E : Type 0} → Status → Result (List ℕ) E → Type 0
OutputUnless (status.Usage u) result = IfOk result (λ path. path ≡ codes "a.out")
OutputUnless other result = IfOk result (λ path. ⊥)

-- the output by what words are
abbrev pub OutputBy : {E : Type 0} → Result Command Status → Result (List ℕ) E → Type 0
OutputBy (Ok c) result = IfOk result (λ path. path ≡ c.output)
OutputBy (Err s) result = OutputUnless s result

-- ---- the image

-- the status that an image or a refusal leads to, where the device does not fail
abbrev pub status_of : Result (List ℕ) Status → Status
status_of (Ok image) = full_link
status_of (Err s) = s

-- a refusal says neither that the link is done nor that the device failed
abbrev pub IsRefused : Result (List ℕ) Status → Type 0
IsRefused (Err (status.Done how)) = ⊥
IsRefused (Err status.DeviceFault) = ⊥
IsRefused other = Unit {0}

-- what words alone decide is reported before anything is asked of the files, and nothing else is reported so
abbrev pub ImageFirst : Option Status → FilesState → Result (List ℕ) Status → FilesState → Type 0
ImageFirst None old result new = IsOfInputs (status_of result)
ImageFirst (Some due) old (Ok image) new = ⊥
ImageFirst (Some due) old (Err s) new = IsFirstRefusal due s × (new ≡ old)

-- where the files report their map, an image is one of the words' command
abbrev pub ImageReported : List (List ℕ) → FilesState → Result (List ℕ) Status → Type 0
ImageReported words old (Ok image) = IfSome old.known (λ k. IsImage words k.map image)
ImageReported words old (Err s) = Unit {0}

-- the image of the words' command, or why there is none; and what was done to the files
pub record ImageGiven (words : List (List ℕ)) (old : FilesState) (result : Result (List ℕ) Status) (new : FilesState) : Type 0 where
  pub refused : IsRefused result
  pub first : ImageFirst (words_answer words) old result new
  pub due : IsDue words old (status_of result)
  pub image : ImageReported words old result
  pub sealed : SealedImage result
  pub fault : ReadFaultReported words old (status_of result) new
  pub missing : MissingReported old (status_of result) new
  pub kept : FilesKept (words_answer words) words old (status_of result) new
