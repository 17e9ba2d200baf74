-- This project's own: when what code has of a link is what resolution finds of the inputs of a command.
use Rattle.std.specs.Prelude.{◌≡◌, ℕ, List, map}
use Rattle.lk_report.specs.declared.causes.OptionRecord.{OptionRecord}
use Rattle.lk_model.specs.declared.layouts.Needs.{Needs}
use Rattle.lk_model.specs.declared.summaries.InputSummary.{InputSummary}
use Rattle.lk_model.specs.Adding.{added_inputs}
use Rattle.lk_model.specs.Finding.{Found, found_of}
use Rattle.lk_model.specs.InputNames.{input_summary}
use Rattle.lk_model.specs.Resolving.{paths_of, resolve}
use Rattle.lk_model.specs.Views.{Input}
use Rattle.lk_resolve.specs.Settling.{IsFound, ResolutionValue}

-- what the inputs of a link decide
abbrev pub found_in : List ℕ → List Input → Found
found_in entry xs = found_of (paths_of xs) entry (added_inputs entry xs)

-- the summaries are those of the inputs, the resolution is what the added ones of them decide, and the
-- needs are those of their references
pub record IsGiven (resolution : ResolutionValue) (summaries : List InputSummary) (needs : Needs) (options : OptionRecord) (xs : List Input) : Type 0 where
  pub summarized : map input_summary xs ≡ summaries
  pub found : IsFound resolution (found_of (paths_of xs) options.entry (added_inputs options.entry xs))
  pub needed : (resolve options xs).needs ≡ needs
