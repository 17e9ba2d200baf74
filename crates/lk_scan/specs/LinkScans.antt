-- This project's own: what the scans of the objects of a link, one after another, come to.
use Rattle.std.specs.Prelude.{◌≡◌, ℕ, nat_eq, List, [], ◌++◌, flat_map, fold, map, Some, None, slice_get}
use Rattle.lk_report.specs.declared.causes.OptionRecord.{OptionRecord}
use Rattle.lk_model.specs.declared.layouts.Needs.{Needs}
use Rattle.lk_model.specs.Finding.{Found}
use Rattle.lk_model.specs.NeedsOf.{got_key_eq, needs_of}
use Rattle.lk_model.specs.Numbered.{with_new}
use Rattle.lk_model.specs.Objects.{summary_in}
use Rattle.lk_model.specs.References.{Sited, recorded_of, references_of, sited_of}
use Rattle.lk_model.specs.Resolving.{found_in, resolve}
use Rattle.lk_model.specs.ScanFaults.{faults_in, scan_faults, reported_once, with_fault}
use Rattle.lk_model.specs.SharedObjects.{shared_summary_in}
use Rattle.lk_model.specs.Views.{Elf, Input}
use Rattle.lk_scan.specs.declared.noting.Scan.{Scan}
use Rattle.lk_scan.specs.Noted.{nothing_noted}
use Rattle.lk_scan.specs.Scans.{object_references, references_in}

-- the scan of these references of a file: what they need, their faults, and what an image records of them
abbrev pub scan_of : Found → Elf → List Sited → Scan
scan_of found elf sited = record {
  needs = needs_of found sited;
  reported = reported_once (faults_in found elf sited);
  references = recorded_of (references_of sited);
}

-- the references of the kept pieces of the input with a number, and the scan of them
abbrev pub input_references : Found → List Input → ℕ → List Sited
input_references found inputs input = elim (slice_get inputs input) [ None ↦ [] | Some x ↦ references_in found x.elf x.summary input x.summary.pieces ]

abbrev pub input_scan : Found → List Input → ℕ → Scan
input_scan found inputs input = elim (slice_get inputs input) [ None ↦ nothing_noted | Some x ↦ scan_of found x.elf (references_in found x.elf x.summary input x.summary.pieces) ]

-- needs with those of later references, each once
abbrev pub needs_joined : Needs → Needs → Needs
needs_joined n later = record {
  got = fold (with_new got_key_eq) n.got later.got;
  plt = fold (with_new nat_eq) n.plt later.plt;
  address = fold (with_new nat_eq) n.address later.address;
  copies = fold (with_new nat_eq) n.copies later.copies;
}

-- a scan joined with that of later references: what both need is there once, and so is a fault that is reported once
-- per name
abbrev pub joined : Scan → Scan → Scan
joined scan later = record {
  needs = needs_joined scan.needs later.needs;
  reported = fold with_fault scan.reported later.reported;
  references = scan.references ++ later.references;
}

-- scans one after another
abbrev pub all_joined : List Scan → Scan
all_joined scans = fold joined nothing_noted scans

-- the references of a link are those of its added inputs, in adding order
abbrev pub ReferencesByInput : Type 0
ReferencesByInput = (options : OptionRecord) (inputs : List Input) →
    let r = resolve options inputs in
    sited_of r.names inputs r.kept ≡ flat_map (input_references (found_in r) inputs) r.added

-- the scans of the added inputs, in adding order, joined, have what the whole link needs, its faults, and what an
-- image records of its references
abbrev pub ScansAreTheLinks : Type 0
ScansAreTheLinks = (options : OptionRecord) (inputs : List Input) →
    let r = resolve options inputs in
    let whole : Scan = record { needs = r.needs; reported = scan_faults r; references = recorded_of r.references } in
    all_joined (map (input_scan (found_in r) inputs) r.added) ≡ whole

-- the scan of an input that is an object is that of the object's references; a shared input has an empty scan
abbrev pub ObjectsAreScanned : Type 0
ObjectsAreScanned = (found : Found) (inputs : List Input) (input : ℕ) (x : Input) → slice_get inputs input ≡ Some x → x.summary ≡ summary_in x.elf → input_scan found inputs input ≡ scan_of found x.elf (object_references found x.elf input)

abbrev pub SharedAreEmpty : Type 0
SharedAreEmpty = (found : Found) (inputs : List Input) (input : ℕ) (x : Input) → slice_get inputs input ≡ Some x → x.summary ≡ shared_summary_in x.path x.elf → input_scan found inputs input ≡ nothing_noted
