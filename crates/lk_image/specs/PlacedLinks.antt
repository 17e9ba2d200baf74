-- This project's own: when the parts of a link are those that resolution finds of the inputs of a command, and its
-- placement is one whose image is written.
use Rattle.std.specs.Prelude.{◌≡◌, ◌≤◌, ◌^◌, ℕ, List, Option}
use Rattle.std.specs.List.{AllByRecursion}
use Rattle.lk_report.specs.declared.causes.OptionRecord.{OptionRecord}
use Rattle.lk_model.specs.Answers.{length_with}
use Rattle.lk_model.specs.FileHeader.{header_bytes}
use Rattle.lk_model.specs.FullPlace.{memory_of}
use Rattle.lk_model.specs.Lawful.{Lawful}
use Rattle.lk_model.specs.Resolving.{resolve}
use Rattle.lk_model.specs.Tail.{Part}
use Rattle.lk_model.specs.Views.{Input, Resolved}
use Rattle.lk_model.specs.declared.layouts.Needs.{Needs}
use Rattle.lk_model.specs.declared.layouts.Placement.{Placement}
use Rattle.lk_model.specs.declared.summaries.InputSummary.{InputSummary}
use Rattle.lk_resolve.specs.Given.{IsGiven}
use Rattle.lk_headers.specs.Front.{up_to_seal}
use Rattle.lk_law_writes.specs.Layable.{Layable, NeedsNoTables}
use Rattle.lk_relocate.specs.ObjectsOfInputs.{HoldsObject}
use Rattle.lk_relocate.specs.Links.{IsLinked}
use Rattle.lk_law_loading.specs.Loadable.{WithinLimits}
use Rattle.lk_resolve.specs.Settling.{ResolutionValue}
use Rattle.lk_symbol_values.specs.SymbolNumbering.{ValueInputs}

-- a static link without tables at a placement that it may have
pub record IsPlacedLink (resolution : ResolutionValue) (summaries : List InputSummary) (objects : List (Option (List ℕ))) (options : OptionRecord) (xs : List Input) (place : Placement) : Type 0 where
  -- the summaries are those of the inputs, and the resolution is that of the added ones
  pub needs : Needs
  pub given : IsGiven resolution summaries needs options xs
  -- the objects are those of the added inputs
  pub objects_are : AllByRecursion (HoldsObject objects (resolve options xs).inputs) (resolve options xs).added
  -- the placement is lawful, within the limit on memory
  pub lawful : Lawful (resolve options xs) place
  pub memory : memory_of place ≤ 2 ^ 31
  -- and its stretches share no byte where its program headers end below the seal
  pub layable : WithinLimits (resolve options xs) place → Layable (resolve options xs) place
  -- the link needs no table
  pub tables : NeedsNoTables (resolve options xs)

-- the image of a link can be written, with a tail of these parts and these headers at its front
pub record IsFramed (known : ValueInputs) (objects : List (Option (List ℕ))) (r : Resolved) (parts : List Part) (front : List ℕ) : Type 0 where
  pub linked : IsLinked known objects r
  pub layable : Layable r known.place
  pub tables : NeedsNoTables r
  pub front_is : front ≡ up_to_seal (header_bytes r known.place parts)
  pub short : length_with known.place parts ≤ 2 ^ 29
