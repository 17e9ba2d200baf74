-- The added inputs that ask for an executable stack are those that lk_model looks at.
use Rattle.std.proofs.Common.{◌≡◌, refl, ap, ◌∙◌, ℕ, Bool, false, ◌||◌, List, [], ◌∷◌, map, Option, None, Some, option_map, slice_get}
use Rattle.std.proofs.lemmas.Option.{slice_get-map}
use Rattle.std.specs.List.{list_any}
use Rattle.lk_report.specs.declared.causes.OptionRecord.{OptionRecord}
use Rattle.lk_model.specs.declared.summaries.InputSummary.{InputSummary}
use Rattle.lk_model.specs.FileHeader.{asks_exec_stack, exec_stack_of}
use Rattle.lk_model.specs.Resolving.{resolve}
use Rattle.lk_model.specs.Views.{Input}
use Rattle.lk_model.specs.InputNames.{input_summary}
use Rattle.lk_resolve.specs.Given.{found_in}
use Rattle.lk_resolve.specs.Settling.{IsFound, ResolutionValue}
use Rattle.lk_records.specs.StackRequests.{asks}

asks_reported : (options : OptionRecord) (xs : List Input) (input : ℕ) → asks (map input_summary xs) input ≡ asks_exec_stack (resolve options xs) input
unfolding resolve
asks_reported options xs input =
    ap (λ (o : Option InputSummary). let b : Bool = elim o [ None ↦ false | Some s ↦ s.exec_stack ] in b) (slice_get-map input_summary xs input) ∙ by (slice_get xs input)
  where
    by : (o : Option Input) → ◌≡◌ {A = Bool} (elim (option_map input_summary o) [ None ↦ false | Some s ↦ s.exec_stack ]) (elim o [ None ↦ false | Some x ↦ x.summary.exec_stack ])
    by None = refl
    by (Some x) = refl

all_reported : (options : OptionRecord) (xs : List Input) (inputs : List ℕ) → list_any (asks (map input_summary xs)) inputs ≡ list_any (asks_exec_stack (resolve options xs)) inputs
all_reported options xs [] = refl
all_reported options xs (input ∷ inputs) = λ i. asks_reported options xs input i || all_reported options xs inputs i

pub stack_asked : (options : OptionRecord) (xs : List Input) (summaries : List InputSummary) (resolution : ResolutionValue) (answer : Bool) → answer ≡ list_any (asks summaries) resolution.added → summaries ≡ map input_summary xs → IsFound resolution (found_in options.entry xs) → answer ≡ exec_stack_of (resolve options xs)
unfolding resolve
stack_asked options xs summaries resolution answer is of_summaries found =
    is ∙ (λ i. list_any (asks (of_summaries i)) (found.added i)) ∙ all_reported options xs (found_in options.entry xs).added
