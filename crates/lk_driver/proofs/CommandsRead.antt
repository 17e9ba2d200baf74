-- The inputs of a command that are not refused are inputs as they were read.
use Rattle.std.proofs.Common.{◌≡◌, refl, subst, arith, ℕ, ◌≤◌, false, List, [], ◌∷◌, length, Option, Some, None}
use Rattle.std.specs.Prelude.{filter_map}
use Rattle.std.specs.List.{AllByRecursion}
use Rattle.lk_report.specs.FileMap.{FileMap, FileRow}
use Rattle.lk_report.specs.declared.statuses.LimitKind.TheVariants as limit
use Rattle.lk_report.specs.declared.statuses.Status.{Status}
use Rattle.lk_model.specs.declared.commands.Command.{Command}
use Rattle.lk_model.specs.declared.commands.Word.{Word}
use Rattle.lk_model.specs.Answers.{fault_status, input_faults, shared_waits, size_limit}
use Rattle.lk_model.specs.Inputs.{FoundInput, found_at, found_in, input_words, inputs_after, inputs_of, missing_of, path_of}
use Rattle.lk_model.specs.Views.{Input}
use Rattle.lk_scan_inputs.proofs.UnrefusedObjects.{unrefused_are_objects}
use Rattle.lk_inputs.specs.declared.inputs.Inputs.{Inputs}
use Rattle.lk_inputs.specs.LookUps.{inputs_limit}
use Rattle.lk_inputs.specs.Refusals.{AreInputs, files_refusal, inputs_refusal}
use Rattle.lk_law_records.specs.CommandFits.{CommandFits}
use Rattle.lk_law_records.specs.Recordable.{has_zero}
use Rattle.lk_law_records.proofs.Limits.{limit-reports}
use Rattle.lk_law_records.proofs.Lists.{all-found, and-then, first-none, found-in-map, length-found}
use Rattle.lk_records.proofs.OccurrencesCounted.{commands_are_counted}
use Rattle.lk_driver.specs.ReadInputs.{AreReadInputs}
use Rattle.lk_driver.proofs.PlacesClean.{IsClean, path_clean}

-- ---- what is not refused

files_unrefused : (c : Command) (there : FileMap) → inputs_refusal c there ≡ None → files_refusal (inputs_of c there) ≡ None
unfolding inputs_refusal
files_unrefused c there h = (first-none (fault_status (missing_of c there)) (files_refusal (inputs_of c there)) h).1

none_waits : (xs : List Input) → files_refusal xs ≡ None → shared_waits xs ≡ None
unfolding files_refusal
none_waits xs h =
    let later : Option Status = elim (shared_waits xs) [ Some s ↦ Some s | None ↦ fault_status (input_faults xs) ] in
    (first-none (shared_waits xs) (fault_status (input_faults xs)) (first-none (size_limit 0 xs) later h).1).0

-- ---- the paths of the files that are found

found_clean : (c : Command) (there : FileMap) (row : ℕ × Word) (found : FoundInput) → AllByRecursion IsClean c.dirs → IsClean row.1.text → found_in c there row ≡ Some found → IsClean found.path
found_clean c there row found dirs own e =
    let path = and-then (path_of c there row.1) (found_at there row) found e in
    let made : FileRow → FoundInput = λ file. record { lib = row.0; word = row.1; path = path.0; file = file } in
    let file = found-in-map made (there path.0) found path.1.1 in
    subst (λ (f : FoundInput). IsClean f.path) file.1.1 (path_clean c there row.1 path.0 own dirs path.1.0)

paths_clean : (earlier : List (List ℕ)) (founds : List FoundInput) → AllByRecursion (λ (f : FoundInput). IsClean f.path) founds → AllByRecursion (λ (x : Input). has_zero x.path ≡ false) (inputs_after earlier founds)
unfolding inputs_after
paths_clean earlier [] all = tt
paths_clean earlier (found ∷ founds) all = (all.0, paths_clean (found.path ∷ earlier) founds all.1)

input_paths_clean : (c : Command) (there : FileMap) → CommandFits c → AllByRecursion (λ (x : Input). has_zero x.path ≡ false) (inputs_of c there)
unfolding inputs_of
input_paths_clean c there fits =
    paths_clean [] (filter_map (found_in c there) (input_words c))
    (all-found (λ (row : ℕ × Word). IsClean row.1.text) (λ (f : FoundInput). IsClean f.path) (found_in c there) (input_words c) (λ row own found e. found_clean c there row found fits.dirs own e) fits.words)

-- ---- how many there are

length_after : (earlier : List (List ℕ)) (founds : List FoundInput) → length (inputs_after earlier founds) ≡ length founds
unfolding inputs_after
length_after earlier [] = refl
length_after earlier (found ∷ founds) = let more = length_after (found.path ∷ earlier) founds in omega (arith, more)

few_inputs : (c : Command) (there : FileMap) → inputs_limit c ≡ None → length (inputs_of c there) ≤ 4096
unfolding inputs_of
few_inputs c there none =
    let words = limit-reports limit.Inputs 4096 (length (input_words c)) none in
    let found = length-found (found_in c there) (input_words c) in
    let made = length_after [] (filter_map (found_in c there) (input_words c)) in
    omega (arith, words, found, made)

pub command_read : (c : Command) (there : FileMap) (inputs : Inputs) → CommandFits c → inputs_limit c ≡ None → inputs_refusal c there ≡ None → AreInputs (inputs_of c there) inputs
    → AreReadInputs c.options (inputs_of c there) inputs
command_read c there inputs fits few unrefused are = record {
  given = are;
  objects = unrefused_are_objects c there unrefused;
  unshared = none_waits (inputs_of c there) (files_unrefused c there unrefused);
  occurrences = commands_are_counted c there;
  texts = fits.options;
  paths = input_paths_clean c there fits;
  few = few_inputs c there few;
}
