use Rattle.std.proofs.Common.{ap, ◌∙◌, List, ℕ, ◌++◌, ◌∷◌, [], map}
use Rattle.std.specs.Prelude.{codes}
use Rattle.lk_inputs.specs.Candidates.{candidate_in}
use Rattle.lk_inputs.proofs.CandidatesJoined.{all_places}
use Rattle.lk_inputs.proofs.places.candidates_of.Goals as goal

pub returns : goal.returns
returns c =
    c.in_ok-push-2.ensures.pushed
    ∙ ap (λ (places : List (List ℕ)). places ++ c.in_ok-candidate-2.field-0 ∷ []) c.in_ok-push.ensures.pushed
    ∙ (λ i. (c.in_ok-places.ensures i ++ c.in_ok-candidate.ensures i ∷ []) ++ c.in_ok-candidate-2.ensures i ∷ [])
    ∙ ap (λ (dirs : List (List ℕ)). (map (candidate_in c.args.name.now) dirs ++ candidate_in c.args.name.now (codes "/usr/lib") ∷ []) ++ candidate_in c.args.name.now (codes "/lib") ∷ []) c.as_slice.ensures
    ∙ all_places c.args.command.now c.args.name.now
