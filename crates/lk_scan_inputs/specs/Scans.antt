-- This project's own: the answer of the scan of a link's inputs.
use Rattle.std.specs.Prelude.{◌≡◌, ℕ, ◌<◌, List, [], fold, length, Option, Some, None, option_and_then, Result, Ok, Err, slice_get}
use Rattle.lk_model.specs.Elf.{elf_of}
use Rattle.lk_model.specs.Finding.{Found}
use Rattle.lk_model.specs.Objects.{summary_in}
use Rattle.lk_model.specs.References.{recorded_of}
use Rattle.lk_model.specs.ScanFaults.{scan_faults}
use Rattle.lk_model.specs.Views.{Resolved}
use Rattle.lk_inputs.specs.declared.input_files.InputFile.{InputFile}
use Rattle.lk_resolve.specs.NamedSymbols.{AreNamed}
use Rattle.lk_scan.specs.LinkScans.{joined, scan_of}
use Rattle.lk_scan.specs.Noted.{nothing_noted}
use Rattle.lk_scan.specs.Scans.{object_references}
use Rattle.lk_scan.specs.declared.noting.Scan.{Scan}
use Rattle.lk_scan.specs.declared.scans.ScanFailure.{ScanFailure}
use Rattle.lk_scan.specs.declared.scans.ScanFailure.TheVariants as failure
use Rattle.lk_scan_inputs.specs.declared.link_scanning.ScannedInputs.{ScannedInputs}
use Rattle.lk_scan_inputs.specs.Objects.{input_names, objects_of}

-- the object of an input, seen as its bytes
abbrev pub object_in : List (Option (List ℕ)) → ℕ → Option (List ℕ)
object_in objects input = option_and_then (λ (o : Option (List ℕ)). o) (slice_get objects input)

-- the symbols of all objects have, by input and number, the numbers of their names
abbrev pub AreNamedObjects : Found → List (Option (List ℕ)) → Type 0
AreNamedObjects found objects = (input : ℕ) (bytes : List ℕ) → object_in objects input ≡ Some bytes → AreNamed found.names input (summary_in (elf_of bytes)).globals

-- a scan with that of one more input, where it has an object
abbrev pub scan_with : Found → List (Option (List ℕ)) → Scan → ℕ → Scan
scan_with found objects before input = elim (object_in objects input) [
  | None ↦ before
  | Some bytes ↦ joined before (scan_of found (elf_of bytes) (object_references found (elf_of bytes) input))
]

-- the joined scans of these inputs, in their order
abbrev pub scans_of : Found → List (Option (List ℕ)) → List ℕ → Scan
scans_of found objects numbers = fold (scan_with found objects) nothing_noted numbers

-- what the scan of the inputs of a link answers: what its references need and what an image records of
-- them, where they have no fault, with what is known of the inputs and the objects of the added ones; else
-- all their faults; out of memory is free
abbrev pub InputsScanned : Resolved → List InputFile → Result ScannedInputs ScanFailure → Type 0
InputsScanned r files (Ok s) =
    (scan_faults r ≡ []) × (s.needs ≡ r.needs) × (s.references ≡ recorded_of r.references) × (s.names ≡ input_names files) × (s.objects ≡ objects_of r.added files)
InputsScanned r files (Err (failure.Faults faults)) = (0 < length faults) × (faults ≡ scan_faults r)
InputsScanned r files (Err failure.NoMemory) = Unit {0}
