-- The places of a library: those in the directories of the command, then the standard ones.
use Rattle.std.proofs.Common.{◌≡◌, refl, ap, ℕ, List, [], ◌∷◌, ◌++◌, map}
use Rattle.std.specs.Prelude.{codes}
use Rattle.lk_model.specs.declared.commands.Command.{Command}
use Rattle.lk_model.specs.Inputs.{candidates_of, standard_dirs}
use Rattle.lk_inputs.specs.Candidates.{candidate_in}

last_ones : (name : List ℕ) (dirs : List (List ℕ)) → (map (candidate_in name) dirs ++ candidate_in name (codes "/usr/lib") ∷ []) ++ candidate_in name (codes "/lib") ∷ [] ≡ map (λ dir. dir ++ codes "/lib" ++ name ++ codes ".so") (dirs ++ standard_dirs)
last_ones name [] = refl
last_ones name (dir ∷ dirs) = ap (λ (places : List (List ℕ)). candidate_in name dir ∷ places) (last_ones name dirs)

pub all_places : (command : Command) (name : List ℕ) → (map (candidate_in name) command.dirs ++ candidate_in name (codes "/usr/lib") ∷ []) ++ candidate_in name (codes "/lib") ∷ [] ≡ candidates_of command name
unfolding candidates_of
all_places command name = last_ones name command.dirs
