-- A request for an executable stack among the inputs of a link (GNU's .note.GNU-stack).
use Rattle.std.specs.Prelude.{ℕ, Bool, false, List, Some, None, slice_get}
use Rattle.lk_model.specs.declared.summaries.InputSummary.{InputSummary}

-- the input with a number asks for an executable stack
abbrev pub asks : List InputSummary → ℕ → Bool
asks summaries input = elim (slice_get summaries input) [ None ↦ false | Some summary ↦ summary.exec_stack ]
