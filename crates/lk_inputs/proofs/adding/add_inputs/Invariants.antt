use Rattle.std.proofs.Common.{◌≡◌, ◌-◌, ◌≤◌, ℕ, List, length, drop, Some}
use Rattle.lk_model.specs.Numbered.{Numbered}
use Rattle.lk_resolve.specs.States.{state_of}
use Rattle.lk_inputs.specs.Adding.{rows_from}
use Rattle.lk_inputs.proofs.ItemsAdded.{AddedSoFar}
use Rattle.lk_inputs.proofs.adding.add_inputs.Given as goal

abbrev pub invariant-items : goal.invariant-items
invariant-items l = record {
  so_far : (entry : List ℕ) (paths : List (List ℕ)) (before : List Numbered) → l.initial.resolver ≡ Some (state_of entry paths before) → AddedSoFar entry paths before (rows_from 0 l.files l.summaries) (rows_from l.done (drop l.done l.files) (drop l.done l.summaries)) l.resolver;
  within : l.done ≤ length l.files;
}

abbrev pub decreases-items : goal.decreases-items
decreases-items l = length l.files - l.done
