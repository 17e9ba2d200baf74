-- This project's own: when the values of symbols, with their resolution and placement, and objects are those of a
-- link of the inputs of a command.
use Rattle.std.specs.Prelude.{◌≡◌, ℕ, ◌≤◌, ◌^◌, List, Option}
use Rattle.std.specs.List.{AllByRecursion}
use Rattle.lk_report.specs.declared.causes.OptionRecord.{OptionRecord}
use Rattle.lk_model.specs.declared.layouts.Needs.{Needs}
use Rattle.lk_model.specs.FullPlace.{memory_of}
use Rattle.lk_model.specs.Lawful.{Lawful}
use Rattle.lk_model.specs.Resolving.{resolve}
use Rattle.lk_model.specs.Views.{Input, Resolved}
use Rattle.lk_resolve.specs.Given.{IsGiven}
use Rattle.lk_symbol_values.specs.SymbolNumbering.{ValueInputs}
use Rattle.lk_relocate.specs.ObjectsOfInputs.{HoldsObject}

-- the values are those of a link: its resolution and summaries are those of the same inputs, and its placement is
-- lawful and within the limit on memory
pub record IsLinkOf (known : ValueInputs) (r : Resolved) : Type 0 where
  pub needs : Needs
  pub options : OptionRecord
  pub inputs : List Input
  pub resolved : r ≡ resolve options inputs
  pub given : IsGiven known.resolution known.summaries needs options inputs
  pub lawful : Lawful r known.place
  pub within : memory_of known.place ≤ 2 ^ 31

-- and the objects are those of its added inputs
pub record IsLinked (known : ValueInputs) (objects : List (Option (List ℕ))) (r : Resolved) : Type 0 where
  pub link : IsLinkOf known r
  pub objects_are : AllByRecursion (HoldsObject objects r.inputs) r.added
