-- This project's own: what the passes of a link answer, one after another.
use Rattle.std.specs.Prelude.{◌≡◌, ◌≤◌, ◌^◌, ℕ, true, false, List, [], ◌∷◌, Result, Ok, Err}
use Rattle.lk_report.specs.declared.causes.OptionRecord.{OptionRecord}
use Rattle.lk_report.specs.declared.statuses.Status.{Status}
use Rattle.lk_report.specs.declared.statuses.Status.TheVariants as status
use Rattle.lk_report.specs.declared.statuses.Waiting.TheVariants as waiting
use Rattle.lk_model.specs.Answers.{full_link, needs_nothing, needs_wait, placed_answer, resolved_answer}
use Rattle.lk_model.specs.FullPlace.{full_place, memory_of, section_count}
use Rattle.lk_model.specs.Links.{IsLinkAt}
use Rattle.lk_model.specs.Resolving.{resolve}
use Rattle.lk_model.specs.Views.{Input, Resolved}
use Rattle.lk_model.specs.declared.layouts.Needs.{Needs}
use Rattle.lk_model.specs.declared.layouts.Placement.{Placement}
use Rattle.lk_driver.specs.Committing.{IsSealedImage}
use Rattle.lk_resolve.specs.Given.{found_in}
use Rattle.lk_scan_inputs.specs.Scans.{InputsScanned}
use Rattle.lk_scan_inputs.specs.declared.link_scanning.ScannedInputs.{ScannedInputs}
use Rattle.lk_inputs.specs.AnswerLaws.{answer_unless, scanned_answer}
use Rattle.lk_inputs.specs.declared.input_files.InputFile.{InputFile}
use Rattle.lk_model.specs.declared.input_names.InputName.{InputName}
use Rattle.lk_resolve.specs.Settling.{IsFound, ResolutionValue}

-- a link is refused: with the answer that is due, which is not that it is done, or for out of memory
abbrev pub IsRefused : Status → Status → Type 0
IsRefused due status.NoMemory = Unit {0}
IsRefused due (status.Done how) = ⊥
IsRefused due s = due ≡ s

-- what a pass answers of a link whose answer is due: the link goes on to a later answer, with what the pass finds
-- of it, or is refused
abbrev pub PassGives : {X : Type 0} → Status → Status → (X → Type 0) → Result X Status → Type 0
PassGives due later IsFit (Ok x) = (due ≡ later) × IsFit x
PassGives due later IsFit (Err s) = IsRefused due s

-- the answer where references have no fault
abbrev pub needs_answer : Resolved → Status
needs_answer r = answer_unless (needs_wait r) (placed_answer r (full_place r))

-- what the resolution of inputs answers
abbrev pub ResolutionAnswers : OptionRecord → List Input → Result ResolutionValue Status → Type 0
ResolutionAnswers options xs result =
    PassGives (resolved_answer (resolve options xs)) (scanned_answer (resolve options xs)) (λ (resolution : ResolutionValue). IsFound resolution (found_in options.entry xs)) result

-- what the scan of the references of files answers
abbrev pub IsScanned : Resolved → List InputFile → ScannedInputs → Type 0
IsScanned r files scanned = InputsScanned r files (Ok scanned)

abbrev pub ScanAnswers : Resolved → List InputFile → Result ScannedInputs Status → Type 0
ScanAnswers r files result = PassGives (scanned_answer r) (needs_answer r) (IsScanned r files) result

-- what is answered of needs: none, or that the first input waits
abbrev pub path_of_first : List InputName → List ℕ
path_of_first [] = []
path_of_first (name ∷ names) = name.path

abbrev pub NeedsAnswer : Needs → List InputName → Result (Unit {0}) Status → Type 0
NeedsAnswer needs names (Ok done) = needs_nothing needs ≡ true
NeedsAnswer needs names (Err status.NoMemory) = Unit {0}
NeedsAnswer needs names (Err (status.NotYet (waiting.Form path))) = (needs_nothing needs ≡ false) × (path ≡ path_of_first names)
NeedsAnswer needs names (Err _) = ⊥

-- what laying out answers: the full placement, within the first two limits
pub record IsPlaced (r : Resolved) (place : Placement) : Type 0 where
  pub full : place ≡ full_place r
  pub sections : section_count (full_place r) ≤ 60000
  pub memory : memory_of (full_place r) ≤ 2 ^ 31

abbrev pub PlaceAnswers : Resolved → Result Placement Status → Type 0
PlaceAnswers r result = PassGives (placed_answer r (full_place r)) (placed_answer r (full_place r)) (IsPlaced r) result

-- what a link answers of which this is due: its image
abbrev pub LinkGives : Status → Resolved → Result (List ℕ) Status → Type 0
LinkGives due r result = PassGives due full_link (λ image. IsLinkAt r (full_place r) image × IsSealedImage image) result
