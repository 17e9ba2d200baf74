-- What the claims have to do with lk_model's groups, which are dropped by the list of all signatures that
-- were claimed (gABI "Section Groups").
use Rattle.std.specs.Prelude.{◌≡◌, ℕ, cond, List, [], ◌∷◌, ◌++◌, fold, is_some, Ok}
use Rattle.lk_model.specs.declared.summaries.Group.{Group}
use Rattle.lk_model.specs.Groups.{dropped_by}
use Rattle.lk_model.specs.Numbered.{is_text_in}
use Rattle.lk_comdat.specs.declared.claiming.Claim.{Claim}
use Rattle.lk_comdat.specs.Claims.{holder_of, signatures_of, ClaimGives}

-- the claims after one more: a signature that has a holder keeps it
abbrev pub with_claim : List (List ℕ × ℕ) → List ℕ × ℕ → List (List ℕ × ℕ)
with_claim claims asked = cond (is_some (holder_of claims asked.0)) claims (claims ++ asked ∷ [])

-- what `ClaimGives` says of an answered claim goes on by this
abbrev pub ClaimsGoOn : Type 0
ClaimsGoOn = (old : List (List ℕ × ℕ)) (signature : List ℕ) (input : ℕ) (claim : Claim) (new : List (List ℕ × ℕ)) → ClaimGives old signature input (Ok claim) new → new ≡ with_claim old (signature, input)

-- the claims after all that were asked for, in turn
abbrev pub claims_after : List (List ℕ × ℕ) → List (List ℕ × ℕ)
claims_after asked = fold with_claim [] asked

-- a signature is claimed exactly where it has a holder
abbrev pub ClaimedHaveHolders : Type 0
ClaimedHaveHolders = (claims : List (List ℕ × ℕ)) (signature : List ℕ) → is_text_in (signatures_of claims) signature ≡ is_some (holder_of claims signature)

-- the holder of a signature is the first of all that asked for it
abbrev pub HoldersAreFirst : Type 0
HoldersAreFirst = (asked : List (List ℕ × ℕ)) (signature : List ℕ) → holder_of (claims_after asked) signature ≡ holder_of asked signature

-- the groups dropped after the claims are those dropped after all that was asked for
abbrev pub DropsTheSame : Type 0
DropsTheSame = (asked : List (List ℕ × ℕ)) (groups : List Group) → dropped_by (signatures_of (claims_after asked)) groups ≡ dropped_by (signatures_of asked) groups

-- group by group: one is dropped exactly where its signature has a holder, and the next ones after its claim
abbrev pub DropsOneByOne : Type 0
DropsOneByOne = (claims : List (List ℕ × ℕ)) (group : Group) (groups : List Group) (input : ℕ) → dropped_by (signatures_of claims) (group ∷ groups) ≡ cond (is_some (holder_of claims group.signature)) group.members [] ++ dropped_by (signatures_of (with_claim claims (group.signature, input))) groups
