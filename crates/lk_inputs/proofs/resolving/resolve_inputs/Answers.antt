use Rattle.std.proofs.Common.{ap, ◌∙◌, List, ℕ, Some, map}
use Rattle.lk_model.specs.Adding.{added_inputs}
use Rattle.lk_model.specs.Resolving.{paths_of}
use Rattle.lk_resolve.specs.States.{state_of}
use Rattle.lk_inputs.specs.Named.{file_path}
use Rattle.lk_inputs.proofs.InputsMade.{paths_if_ok}
use Rattle.lk_inputs.proofs.InputsReported.{paths_are}
use Rattle.lk_inputs.proofs.resolving.resolve_inputs.Goals as goal

-- what is resolved is what the inputs decide, whichever inputs these are
pub returns-in-Ok-clause-resolution : goal.returns-in-Ok-clause-resolution
returns-in-Ok-clause-resolution c = λ xs given.
    let are = c.as_slice-files.ensures ∙ given.files in
    c.settle.ensures.resolution c.args.entry.now (paths_of xs) (added_inputs c.args.entry.now xs)
    (c.in-Ok.ensures xs are (c.as_slice-summaries.ensures ∙ given.summaries)
    ∙ ap (λ (paths : List (List ℕ)). Some (state_of c.args.entry.now paths (added_inputs c.args.entry.now xs))) (ap (map file_path) are ∙ paths_are xs))

pub returns-in-Ok-clause-paths : goal.returns-in-Ok-clause-paths
returns-in-Ok-clause-paths c =
    paths_if_ok c.args.entry.now c.args.inputs.now.files c.args.inputs.now.summaries c.settle.result c.requires
    (λ xs are kept. returns-in-Ok-clause-resolution c xs (record { files = are; summaries = kept }))
