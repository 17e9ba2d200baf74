-- What is recorded of inputs is what lk_model's records have of them.
use Rattle.std.proofs.Common.{◌≡◌, refl, sym, ap, ◌∙◌, arith, ℕ, suc, ◌+◌, nat_eq, ◌==◌, ◌||◌, List, [], ◌∷◌, length, map, IfOk, Result, Ok, Err}
use Rattle.std.proofs.lemmas.Bool.Decides.{nat_tests}
use Rattle.std.specs.List.{enumerate_from, list_any, range_with_len}
use Rattle.lk_report.specs.declared.causes.OptionRecord.{OptionRecord}
use Rattle.lk_report.specs.declared.memory.NoMemory.{NoMemory}
use Rattle.lk_model.specs.declared.input_names.InputName.{InputName}
use Rattle.lk_model.specs.declared.layouts.Placement.{Placement}
use Rattle.lk_model.specs.declared.summaries.InputSummary.{InputSummary}
use Rattle.lk_model.specs.InputNames.{input_summary}
use Rattle.lk_model.specs.InputNames.{name_of}
use Rattle.lk_model.specs.Numbered.{is_number_in}
use Rattle.lk_model.specs.RecordsOf.{input_record, records_of}
use Rattle.lk_model.specs.Resolving.{paths_of, resolve}
use Rattle.lk_model.specs.Views.{Input}
use Rattle.lk_incr.specs.RecordParts.{RecordPartsValue, parts_of, record_with}
use Rattle.lk_marks.specs.Marked.{marks_of}
use Rattle.lk_resolve.specs.Given.{found_in}
use Rattle.lk_resolve.specs.Settling.{IsFound, ResolutionValue}
use Rattle.lk_records.specs.Gathered.{gathered}
use Rattle.lk_records.specs.InputRecords.{records_with}
use Rattle.lk_records.specs.Occurrences.{OccurrencesAreRight, name_path, occurrence_of, occurrences_after}

-- ---- the inputs

paths_reported : (xs : List Input) → map name_path (map name_of xs) ≡ paths_of xs
paths_reported [] = refl
paths_reported (x ∷ xs) = ap (λ (ps : List (List ℕ)). x.path ∷ ps) (paths_reported xs)

as_many : (xs : List Input) → length (map name_of xs) ≡ length xs
as_many [] = refl
as_many (x ∷ xs) = ap suc (as_many xs)

turned : (a b : ℕ) → nat_eq a b ≡ (b == a)
turned a b = grind (arith, nat_tests)

among : (added : List ℕ) (n : ℕ) → is_number_in added n ≡ list_any (λ m. m == n) added
among [] n = refl
among (m ∷ added) n = λ i. turned n m i || among added n i

inputs_reported : (added : List ℕ) (first : ℕ) (xs : List Input) → records_with (map name_of xs) (map occurrence_of xs) (map (is_number_in added) (range_with_len first (length xs))) (map input_summary xs) ≡ map (input_record added) (enumerate_from first xs)
inputs_reported added first [] = refl
inputs_reported added first (x ∷ xs) = λ i. record_with (name_of x) x.occurrence (among added first i) (input_summary x) ∷ inputs_reported added (first + 1) xs i

inputs_recorded : (added : List ℕ) (xs : List Input) → OccurrencesAreRight xs
    → records_with (map name_of xs) (occurrences_after [] (map name_path (map name_of xs))) (marks_of added (length (map name_of xs))) (map input_summary xs) ≡ map (input_record added) (enumerate_from 0 xs)
inputs_recorded added xs right =
    ap (λ (ps : List (List ℕ)). records_with (map name_of xs) (occurrences_after [] ps) (marks_of added (length (map name_of xs))) (map input_summary xs)) (paths_reported xs)
    ∙ ap (λ n. records_with (map name_of xs) (occurrences_after [] (paths_of xs)) (marks_of added n) (map input_summary xs)) (as_many xs)
    ∙ ap (λ ns. records_with (map name_of xs) ns (marks_of added (length xs)) (map input_summary xs)) (sym right)
    ∙ inputs_reported added 0 xs

-- ---- all of it

gathered_reported : (options : OptionRecord) (xs : List Input) (resolution : ResolutionValue) (place : Placement) → OccurrencesAreRight xs → IsFound resolution (found_in options.entry xs)
    → gathered options (map name_of xs) (map input_summary xs) resolution place ≡ parts_of (records_of (resolve options xs) place)
unfolding gathered records_of resolve
gathered_reported options xs resolution place right found =
    λ i. record {
      version = 1;
      options = record options { dynamic = found.dynamic i };
      inputs = (inputs_recorded resolution.added xs right ∙ ap (λ added. map (input_record added) (enumerate_from 0 xs)) found.added) i;
      placement = place;
    }

pub link_recorded : (options : OptionRecord) (xs : List Input) (names : List InputName) (summaries : List InputSummary) (resolution : ResolutionValue) (place : Placement) (r : Result RecordPartsValue NoMemory)
    → IfOk r (λ (parts : RecordPartsValue). parts ≡ gathered options names summaries resolution place) → names ≡ map name_of xs → summaries ≡ map input_summary xs → OccurrencesAreRight xs → IsFound resolution (found_in options.entry xs)
    → IfOk r (λ (parts : RecordPartsValue). parts ≡ parts_of (records_of (resolve options xs) place))
link_recorded options xs names summaries resolution place (Ok parts) is of_names of_summaries right found =
    is ∙ (λ i. gathered options (of_names i) (of_summaries i) resolution place) ∙ gathered_reported options xs resolution place right found
link_recorded options xs names summaries resolution place (Err want) is of_names of_summaries right found = tt
