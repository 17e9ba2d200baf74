-- The passes of a link, one after another, answer what lk_model does, and make an image that is a link.
use Rattle.std.proofs.Common.{◌≡◌, ◌≤◌, ◌^◌, refl, sym, ap, subst, ◌∙◌, ℕ, true, List, [], ◌∷◌, map, Result, Ok, Err}
use Rattle.std.specs.Prelude.{All}
use Rattle.lk_report.specs.declared.causes.OptionRecord.{OptionRecord}
use Rattle.lk_report.specs.declared.statuses.Status.{Status}
use Rattle.lk_report.specs.declared.statuses.Status.TheVariants as status
use Rattle.lk_report.specs.declared.statuses.Waiting.TheVariants as waiting
use Rattle.lk_model.specs.Answers.{first_path, needs_nothing, placed_answer, resolved_answer}
use Rattle.lk_model.specs.FullPlace.{full_place, memory_of}
use Rattle.lk_model.specs.Lawful.{Lawful}
use Rattle.lk_model.specs.References.{recorded_of}
use Rattle.lk_model.specs.Resolving.{resolve}
use Rattle.lk_model.specs.Views.{Input, Resolved}
use Rattle.lk_model.specs.declared.layouts.Placement.{Placement}
use Rattle.lk_model.specs.InputNames.{name_of}
use Rattle.lk_resolve.specs.Given.{IsGiven, found_in}
use Rattle.lk_image.specs.ImageAnswers.{ImageAnswers}
use Rattle.lk_image.specs.PlacedLinks.{IsPlacedLink}
use Rattle.lk_law_writes.specs.Layable.{Layable}
use Rattle.lk_law_writes.proofs.FullWritten.{inputs_are_layable}
use Rattle.lk_law_placement.proofs.PiecesLawful.{inputs_are_lawful}
use Rattle.lk_scan_inputs.specs.Objects.{input_names}
use Rattle.lk_scan_inputs.specs.declared.link_scanning.ScannedInputs.{ScannedInputs}
use Rattle.lk_law_loading.specs.Loadable.{WithinLimits}
use Rattle.lk_inputs.specs.FileNumbers.{FileFits}
use Rattle.lk_inputs.specs.Named.{files_of}
use Rattle.lk_model.specs.declared.input_names.InputName.{InputName}
use Rattle.lk_inputs.specs.declared.inputs.Inputs.{Inputs}
use Rattle.lk_records.specs.Occurrences.{OccurrencesAreRight}
use Rattle.lk_resolve.specs.Settling.{IsFound, ResolutionValue}
use Rattle.lk_driver.specs.LinkAnswers.{LinkAnswers}
use Rattle.lk_driver.specs.LinkPasses.{IsPlaced, IsRefused, IsScanned, LinkGives, NeedsAnswer, PlaceAnswers, needs_answer, path_of_first}
use Rattle.lk_driver.specs.ReadInputs.{AreReadInputs}
use Rattle.lk_driver.proofs.ImagesLinked.{image_linked}
use Rattle.lk_driver.proofs.InputsFitting.{inputs_fit, is_static, sound_inputs}
use Rattle.lk_driver.proofs.ObjectsStored.{objects_stored}
use Rattle.lk_driver.proofs.PassAnswers.{needs_are_due, needs_go_on}

-- ---- names

names_of_files : (xs : List Input) → input_names (files_of xs) ≡ map name_of xs
names_of_files [] = refl
names_of_files (x ∷ xs) = ap (λ (names : List InputName). name_of x ∷ names) (names_of_files xs)

path_of_inputs : (options : OptionRecord) (xs : List Input) → path_of_first (map name_of xs) ≡ first_path (resolve options xs).inputs
unfolding resolve
path_of_inputs options [] = refl
path_of_inputs options (x ∷ xs) = refl

-- ---- a link whose references are scanned

-- the resolution of inputs that were read, and the scan of their references
pub record IsScannedLink (options : OptionRecord) (xs : List Input) (inputs : Inputs) (resolution : ResolutionValue) (scanned : ScannedInputs) : Type 0 where
  pub read : AreReadInputs options xs inputs
  pub fit : All FileFits inputs.files
  pub found : IsFound resolution (found_in options.entry xs)
  pub scan : IsScanned (resolve options xs) inputs.files scanned

module _ (options : OptionRecord) (xs : List Input) (inputs : Inputs) (resolution : ResolutionValue) (scanned : ScannedInputs) (link : IsScannedLink options xs inputs resolution scanned) where
  names_are : scanned.names ≡ map name_of xs
  names_are = link.scan.3 ∙ ap input_names link.read.given.files ∙ names_of_files xs

  first_is : path_of_first scanned.names ≡ first_path (resolve options xs).inputs
  first_is = ap path_of_first names_are ∙ path_of_inputs options xs

  -- needs that wait
  pub needs_refused : (s : Status) → NeedsAnswer scanned.needs scanned.names (Err s) → IsRefused (needs_answer (resolve options xs)) s
  needs_refused (status.NotYet (waiting.Form path)) h = needs_are_due (resolve options xs) path (ap needs_nothing (sym link.scan.1) ∙ h.0) (h.1 ∙ first_is)
  needs_refused (status.NotYet waiting.Words) h = absurd h
  needs_refused (status.Done how) h = absurd h
  needs_refused (status.LinkError faults) h = absurd h
  needs_refused (status.Usage u) h = absurd h
  needs_refused (status.ReadFault path) h = absurd h
  needs_refused status.DeviceFault h = absurd h
  needs_refused status.NoMemory h = tt
  needs_refused (status.Limit l) h = absurd h
  needs_refused (status.NotUpdated cause) h = absurd h

  -- what is given to the passes that lay out and make the image
  pub given : IsGiven resolution inputs.summaries scanned.needs options xs
  given = record { summarized = sym link.read.given.summaries; found = link.found; needed = sym link.scan.1 }

  module _ (nothing : needs_nothing scanned.needs ≡ true) where
    none_needed : needs_nothing (resolve options xs).needs ≡ true
    none_needed = ap needs_nothing (sym link.scan.1) ∙ nothing

    due : needs_answer (resolve options xs) ≡ placed_answer (resolve options xs) (full_place (resolve options xs))
    due = needs_go_on (resolve options xs) none_needed

    module _ (place : Placement) (answered : PlaceAnswers (resolve options xs) (Ok place)) where
      placed : IsPlaced (resolve options xs) place
      placed = answered.1

      placed_link : IsPlacedLink resolution inputs.summaries scanned.objects options xs place
      placed_link =
          let sound = sound_inputs options xs inputs link.read in
          record {
            needs = scanned.needs;
            given = given;
            objects_are = objects_stored options xs inputs.files scanned.objects link.read.given.files link.read.objects link.scan.4;
            lawful = subst (Lawful (resolve options xs)) (sym placed.full) (inputs_are_lawful options xs sound);
            memory = subst (λ (p : Placement). memory_of p ≤ 2 ^ 31) (sym placed.full) placed.memory;
            layable = λ within. subst (Layable (resolve options xs)) (sym placed.full) (inputs_are_layable options xs sound (subst (WithinLimits (resolve options xs)) placed.full within));
            tables = record { static = is_static options xs inputs link.read; nothing = none_needed };
          }

      -- the image
      pub image_reported :
          (result : Result (List ℕ) Status)
          → ((ys : List Input)
          → IsPlacedLink resolution inputs.summaries scanned.objects options ys place
          → scanned.names ≡ map name_of ys
          → OccurrencesAreRight ys
          → scanned.references ≡ recorded_of (resolve options ys).references
          → ImageAnswers (resolve options ys) place result)
          → LinkGives (needs_answer (resolve options xs)) (resolve options xs) result
      image_reported result image =
          let answers = image xs placed_link names_are link.read.occurrences link.scan.2 in
          subst (λ (d : Status). LinkGives d (resolve options xs) result) (sym due)
          (image_linked options xs place result (inputs_fit options xs inputs link.read link.fit) (sound_inputs options xs inputs link.read) placed answers)

-- ---- the whole link

refused_reported : (r : Resolved) (s : Status) → IsRefused (resolved_answer r) s → LinkAnswers r (Err s)
refused_reported r (status.Done how) h = h
refused_reported r (status.LinkError faults) h = h
refused_reported r (status.Usage u) h = h
refused_reported r (status.ReadFault path) h = h
refused_reported r status.DeviceFault h = h
refused_reported r status.NoMemory h = tt
refused_reported r (status.Limit l) h = h
refused_reported r (status.NotUpdated cause) h = h
refused_reported r (status.NotYet waiting) h = h

whole : (r : Resolved) (result : Result (List ℕ) Status) → LinkGives (resolved_answer r) r result → LinkAnswers r result
whole r (Ok image) h = h
whole r (Err s) h = refused_reported r s h

-- the answer of a pass, where the passes before it went on to this one
pub link_answers : (r : Resolved) (later : Status) (result : Result (List ℕ) Status) → resolved_answer r ≡ later → LinkGives later r result → LinkAnswers r result
link_answers r later result e given = whole r result (subst (λ (d : Status). LinkGives d r result) (sym e) given)
