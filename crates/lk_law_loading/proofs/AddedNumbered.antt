-- What holds of all that added inputs give, whatever was claimed before.
use Rattle.std.specs.Prelude.{List, [], ◌∷◌, ◌++◌, ℕ, flat_map}
use Rattle.std.specs.List.{AllByRecursion}
use Rattle.lk_model.specs.Groups.{signatures_in, with_claims}
use Rattle.lk_model.specs.Numbered.{Numbered}
use Rattle.lk_law_placement.proofs.DistinctLists.{all_joined}

pub claims_keep :
    {A : Type 0} (P : Numbered → Type 0) (Q : A → Type 0) (f : List (List ℕ) → Numbered → List A)
    → ((claimed : List (List ℕ)) (x : Numbered) → P x → AllByRecursion Q (f claimed x))
    → (claimed : List (List ℕ)) (added : List Numbered)
    → AllByRecursion P added
    → AllByRecursion Q (flat_map (λ (c : List (List ℕ) × Numbered). f c.0 c.1) (with_claims claimed added))
claims_keep P Q f gives claimed [] all = tt
claims_keep P Q f gives claimed (x ∷ xs) all =
    all_joined Q (f claimed x) (flat_map (λ (c : List (List ℕ) × Numbered). f c.0 c.1) (with_claims (claimed ++ signatures_in x.summary) xs))
    (gives claimed x all.0)
    (claims_keep P Q f gives (claimed ++ signatures_in x.summary) xs all.1)
