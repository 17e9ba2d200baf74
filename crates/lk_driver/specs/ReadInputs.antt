-- This project's own: inputs as they were read of their files, of which a link can be made.
use Rattle.std.specs.Prelude.{◌≡◌, ◌≤◌, false, List, None, length}
use Rattle.std.specs.List.{AllByRecursion}
use Rattle.lk_report.specs.declared.causes.OptionRecord.{OptionRecord}
use Rattle.lk_model.specs.Answers.{shared_waits}
use Rattle.lk_model.specs.Views.{Input}
use Rattle.lk_scan_inputs.specs.Objects.{AreObjects}
use Rattle.lk_inputs.specs.Refusals.{AreInputs}
use Rattle.lk_inputs.specs.declared.inputs.Inputs.{Inputs}
use Rattle.lk_law_records.specs.Recordable.{OptionsFit, has_zero}
use Rattle.lk_records.specs.Occurrences.{OccurrencesAreRight}

-- these are the files and summaries of inputs, which are objects without a fault; no text of theirs or of the
-- options has a zero byte, and there are at most 4,096 of them
pub record AreReadInputs (options : OptionRecord) (xs : List Input) (inputs : Inputs) : Type 0 where
  pub given : AreInputs xs inputs
  pub objects : AreObjects xs
  pub unshared : shared_waits xs ≡ None
  pub occurrences : OccurrencesAreRight xs
  pub texts : OptionsFit options
  pub paths : AllByRecursion (λ (x : Input). has_zero x.path ≡ false) xs
  pub few : length xs ≤ 4096
