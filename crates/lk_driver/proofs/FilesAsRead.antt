-- Files that were read, of which none is shared and none has a fault, are those of some inputs as they were read.
use Rattle.std.proofs.Common.{◌≡◌, refl, sym, ap, ◌∙◌, arith, ℕ, suc, ◌≤◌, false, List, [], ◌∷◌, length, map, Option, Some, None}
use Rattle.std.specs.Prelude.{filter_map, option_map}
use Rattle.std.specs.List.{AllByRecursion, Contains, cons_option}
use Rattle.std.proofs.lemmas.List.Elements.{All-contains, All-from_recursion}
use Rattle.lk_report.specs.declared.faults.Fault.TheVariants as fault
use Rattle.lk_report.specs.declared.faults.InputFault.{InputFault}
use Rattle.lk_model.specs.declared.commands.Command.{Command}
use Rattle.lk_model.specs.declared.summaries.InputSummary.{InputSummary}
use Rattle.lk_model.specs.Elf as elf
use Rattle.lk_model.specs.Elf.{elf_of}
use Rattle.lk_model.specs.Inputs.{count_of}
use Rattle.lk_model.specs.ObjectChecks.{object_fault}
use Rattle.lk_model.specs.Objects.{summary_in}
use Rattle.lk_model.specs.Resolving.{paths_of}
use Rattle.lk_model.specs.Views.{Input}
use Rattle.lk_model.specs.InputNames.{input_summary}
use Rattle.lk_scan_inputs.specs.Objects.{AreObjects}
use Rattle.lk_inputs.specs.declared.input_files.InputFile.{InputFile}
use Rattle.lk_inputs.specs.declared.inputs.Inputs.{Inputs}
use Rattle.lk_inputs.specs.Asked.{AreSound, all_places}
use Rattle.lk_inputs.specs.FilesRead.{fault_in, shared_wait}
use Rattle.lk_inputs.specs.FilesRead.{summary_of as summary_read}
use Rattle.lk_inputs.specs.Named.{files_of}
use Rattle.lk_inputs.proofs.InputsReported.{shared_are}
use Rattle.lk_law_records.specs.CommandFits.{CommandFits}
use Rattle.lk_law_records.specs.Recordable.{has_zero}
use Rattle.lk_records.specs.Occurrences.{occurrence_of, occurrences_after}
use Rattle.lk_driver.specs.ReadInputs.{AreReadInputs}
use Rattle.lk_driver.proofs.PlacesClean.{IsClean, all_places_clean}

-- ---- the inputs of files

input_read : ℕ → InputFile → Input
input_read occurrence file = record {
  path = file.name.path;
  occurrence = occurrence;
  lib = file.name.lib;
  mark = file.name.mark;
  stamp = file.name.stamp;
  elf = elf_of file.bytes;
  summary = summary_in (elf_of file.bytes);
}

-- those after files with these paths
read_after : List (List ℕ) → List InputFile → List Input
read_after earlier [] = []
read_after earlier (file ∷ files) = input_read (count_of file.name.path earlier) file ∷ read_after (file.name.path ∷ earlier) files

-- ---- what holds of them

files_are : (earlier : List (List ℕ)) (files : List InputFile) → files ≡ files_of (read_after earlier files)
unfolding read_after input_read elf_of elf.elf_under elf.elf_with
files_are earlier [] = refl
files_are earlier (file ∷ files) = ap (λ (fs : List InputFile). file ∷ fs) (files_are (file.name.path ∷ earlier) files)

summaries_are : (earlier : List (List ℕ)) (files : List InputFile) → map summary_read files ≡ map input_summary (read_after earlier files)
unfolding read_after input_read
summaries_are earlier [] = refl
summaries_are earlier (file ∷ files) = ap (λ (ss : List InputSummary). summary_read file ∷ ss) (summaries_are (file.name.path ∷ earlier) files)

first_faultless : (file : InputFile) (files : List InputFile) → filter_map fault_in (file ∷ files) ≡ [] → (object_fault file.bytes ≡ None) × (filter_map fault_in files ≡ [])
first_faultless file files h = by (object_fault file.bytes) refl h
  where
    by : (o : Option InputFault) → object_fault file.bytes ≡ o → cons_option (option_map (λ (f : InputFault). fault.Input file.name.path f) o) (filter_map fault_in files) ≡ []
        → (object_fault file.bytes ≡ None) × (filter_map fault_in files ≡ [])
    by None e h = (e, h)
    by (Some f) e h = absurd (cc)

objects_are : (earlier : List (List ℕ)) (files : List InputFile) → filter_map fault_in files ≡ [] → AreObjects (read_after earlier files)
unfolding read_after input_read elf_of elf.elf_under elf.elf_with
objects_are earlier [] none = tt
objects_are earlier (file ∷ files) none =
    let sound : (object_fault file.bytes ≡ None) × (filter_map fault_in files ≡ []) = first_faultless file files none in
    (record { file = refl; summary = refl; no_fault = sound.0 }, objects_are (file.name.path ∷ earlier) files sound.1)

occurrences_are : (earlier : List (List ℕ)) (files : List InputFile) → map occurrence_of (read_after earlier files) ≡ occurrences_after earlier (paths_of (read_after earlier files))
unfolding read_after input_read
occurrences_are earlier [] = refl
occurrences_are earlier (file ∷ files) = ap (λ (ns : List ℕ). count_of file.name.path earlier ∷ ns) (occurrences_are (file.name.path ∷ earlier) files)

length_read : (earlier : List (List ℕ)) (files : List InputFile) → length (read_after earlier files) ≡ length files
unfolding read_after
length_read earlier [] = refl
length_read earlier (file ∷ files) = ap suc (length_read (file.name.path ∷ earlier) files)

paths_clean : (c : Command) (earlier : List (List ℕ)) (files : List InputFile) → CommandFits c → AllByRecursion (λ (f : InputFile). Contains (all_places c) f.name.path) files
    → AllByRecursion (λ (x : Input). has_zero x.path ≡ false) (read_after earlier files)
unfolding read_after input_read
paths_clean c earlier [] fits placed = tt
paths_clean c earlier (file ∷ files) fits placed =
    (All-contains IsClean (all_places c) file.name.path (All-from_recursion IsClean (all_places c) (all_places_clean c fits)) placed.0, paths_clean c (file.name.path ∷ earlier) files fits placed.1)

pub as_read : (c : Command) (inputs : Inputs) → CommandFits c → AreSound inputs → AllByRecursion (λ (f : InputFile). Contains (all_places c) f.name.path) inputs.files → length inputs.files ≤ 4096
    → (xs : List Input) × AreReadInputs c.options xs inputs
as_read c inputs fits sound placed few =
    let files = inputs.files in
    let xs : List Input = read_after [] files in
    let size = length_read [] files in
    let read : AreReadInputs c.options xs inputs = record {
      given = record { files = files_are [] files; summaries = sound.summaries ∙ summaries_are [] files };
      objects = objects_are [] files sound.no_faults;
      unshared = shared_are xs ∙ ap shared_wait (sym (files_are [] files)) ∙ sound.unshared;
      occurrences = occurrences_are [] files;
      texts = fits.options;
      paths = paths_clean c [] files fits placed;
      few = omega (arith, few, size);
    } in
    (xs, read)
