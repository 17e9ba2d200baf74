-- Claims of COMDAT groups (gABI "Section Groups"): a list of signatures, each with the input that claimed
-- it first, in the order of the claims. That the first added group of a signature is the one kept is this
-- project's own choice.
use Rattle.std.specs.Prelude.{◌≡◌, ℕ, List, [], ◌∷◌, ◌++◌, map, Option, None, Some, Result, Ok, Err}
use Rattle.std.specs.Map.{lookup}
use Rattle.std.specs.Str.{bytes_eq}
use Rattle.lk_report.specs.declared.memory.NoMemory.{NoMemory}
use Rattle.lk_comdat.specs.declared.claiming.Claim.{Claim}
use Rattle.lk_comdat.specs.declared.claiming.Claim.TheVariants.{First, Dropped}

-- the input that has the group of a signature: the first of the claims with that signature
abbrev pub holder_of : List (List ℕ × ℕ) → List ℕ → Option ℕ
holder_of claims signature = lookup (bytes_eq signature) claims

-- the signatures that were claimed
abbrev pub signatures_of : List (List ℕ × ℕ) → List (List ℕ)
signatures_of claims = map (λ (c : List ℕ × ℕ). c.0) claims

-- what a claim answers, and the claims after it: the first claim of a signature is recorded, and after it
-- any other claim returns the holder; only a new signature needs memory
abbrev pub ClaimGives : List (List ℕ × ℕ) → List ℕ → ℕ → Result Claim NoMemory → List (List ℕ × ℕ) → Type 0
ClaimGives old signature input (Ok First) new = (holder_of old signature ≡ None) × (new ≡ old ++ (signature, input) ∷ [])
ClaimGives old signature input (Ok (Dropped holder)) new = (holder_of old signature ≡ Some holder) × (new ≡ old)
ClaimGives old signature input (Err want) new = (holder_of old signature ≡ None) × (new ≡ old)
