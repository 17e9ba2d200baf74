-- This project's own: the references of the kept pieces of an object, and what a scan of them answers.
use Rattle.std.specs.Prelude.{◌≡◌, ℕ, ◌<◌, List, [], filter, flat_map, length, Result, Ok, Err}
use Rattle.lk_model.specs.declared.summaries.InputSummary.{InputSummary}
use Rattle.lk_model.specs.declared.summaries.PieceInfo.{PieceInfo}
use Rattle.lk_model.specs.Finding.{Found, is_kept_in}
use Rattle.lk_model.specs.NeedsOf.{needs_of}
use Rattle.lk_model.specs.Objects.{pieces_in, summary_in}
use Rattle.lk_model.specs.References.{Sited, recorded_of, references_of, sited_in}
use Rattle.lk_model.specs.ScanFaults.{faults_in, reported_once}
use Rattle.lk_model.specs.Views.{Elf}
use Rattle.lk_scan.specs.declared.noting.Scan.{Scan}
use Rattle.lk_scan.specs.declared.scans.Scanned.{Scanned}
use Rattle.lk_scan.specs.declared.scans.ScanFailure.{ScanFailure}
use Rattle.lk_scan.specs.declared.scans.ScanFailure.TheVariants as failure

-- the references of those of an input's pieces that are kept, in their order, in a piece in the order of
-- its relocations
abbrev pub references_in : Found → Elf → InputSummary → ℕ → List PieceInfo → List Sited
references_in found elf summary input pieces =
    flat_map (λ (p : PieceInfo). sited_in found.names elf summary p.key input p.section) (filter (λ (p : PieceInfo). is_kept_in found input p.section) pieces)

-- the references of the kept pieces of an object that is this input
abbrev pub object_references : Found → Elf → ℕ → List Sited
object_references found elf input = references_in found elf (summary_in elf) input (pieces_in elf)

-- what a scan of these references of a file answers: their needs and what is recorded of them where they
-- have no fault, and their faults where they have; out of memory is free
abbrev pub ScanGives : Found → Elf → List Sited → Result Scanned ScanFailure → Type 0
ScanGives found elf sited (Ok s) = (reported_once (faults_in found elf sited) ≡ []) × (s.needs ≡ needs_of found sited) × (s.references ≡ recorded_of (references_of sited))
ScanGives found elf sited (Err (failure.Faults faults)) = (faults ≡ reported_once (faults_in found elf sited)) × (0 < length faults)
ScanGives found elf sited (Err failure.NoMemory) = Unit {0}

-- what is answered once all references were looked at
abbrev pub Answers : Scan → Result Scanned ScanFailure → Type 0
Answers scan (Ok s) = (scan.reported ≡ []) × (s.needs ≡ scan.needs) × (s.references ≡ scan.references)
Answers scan (Err (failure.Faults faults)) = (faults ≡ scan.reported) × (0 < length faults)
Answers scan (Err failure.NoMemory) = Unit {0}
