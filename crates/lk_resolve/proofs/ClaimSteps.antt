-- One more group that is claimed: what it drops comes first, and then what the next ones drop.
use Rattle.std.proofs.Common.{◌≡◌, refl, sym, ap, ◌∙◌, arith, ℕ, suc, ◌+◌, ◌<◌, ◌≤◌, add-one, nat_eq, Bool, true, false, cond, List, [], ◌∷◌, ◌++◌, fold, is_some, length, take, drop, get_or, length-append, drop-cons}
use Rattle.std.proofs.lemmas.List.{take-append-le, take_all}
use Rattle.std.proofs.lemmas.Grind.{fold-append}
use Rattle.lk_comdat.specs.Claims.{holder_of, signatures_of}
use Rattle.lk_comdat.specs.ClaimLaws.{with_claim}
use Rattle.lk_comdat.proofs.ClaimsFound.{one_by_one}
use Rattle.lk_model.specs.declared.summaries.Group.{Group}
use Rattle.lk_model.specs.Groups.{dropped_by}
use Rattle.lk_model.specs.Numbered.{with_new}

pub group_drops : (seen : List ℕ) (claims : List (List ℕ × ℕ)) (g : Group) (gs : List Group) (input : ℕ)
    → fold (with_new nat_eq) seen (dropped_by (signatures_of claims) (g ∷ gs))
    ≡ fold (with_new nat_eq) (fold (with_new nat_eq) seen (cond (is_some (holder_of claims g.signature)) g.members [])) (dropped_by (signatures_of (with_claim claims (g.signature, input))) gs)
group_drops seen claims g gs input =
    ap (fold (with_new nat_eq) seen) (one_by_one claims g gs input)
    ∙ fold-append (with_new nat_eq) seen (cond (is_some (holder_of claims g.signature)) g.members []) (dropped_by (signatures_of (with_claim claims (g.signature, input))) gs)

-- claims are added behind those that are there
taken : (n : ℕ) (claims asked : List (List ℕ × ℕ)) → n ≤ length claims → take n (fold with_claim claims asked) ≡ take n claims
taken n claims [] fits = refl
taken n claims (a ∷ others) fits = by (is_some (holder_of claims a.0)) (λ more long. taken n more others long)
  where
    by : (b : Bool) → ((more : List (List ℕ × ℕ)) → n ≤ length more → take n (fold with_claim more others) ≡ take n more) → take n (fold with_claim (cond b claims (claims ++ a ∷ [])) others) ≡ take n claims
    by true later = later claims fits
    by false later =
        let long : length (claims ++ a ∷ []) ≡ length claims + 1 = length-append claims (a ∷ []) in
        let more : n ≤ length (claims ++ a ∷ []) = omega arith in
        later (claims ++ a ∷ []) more ∙ take-append-le n claims (a ∷ []) fits

pub claims_forgotten : (claims asked : List (List ℕ × ℕ)) → take (length claims) (fold with_claim claims asked) ≡ claims
claims_forgotten claims asked =
    let all : length claims ≤ length claims = omega arith in
    taken (length claims) claims asked all ∙ take_all (length claims) claims all

-- the item that a loop is at, and those behind it
pub next_item : {A : Type 0} (xs : List A) (i : ℕ) (x : A) → i < length xs → x ≡ get_or xs i x → drop i xs ≡ x ∷ drop (i + 1) xs
next_item xs i x within is =
    rw (add-one) (drop-cons xs i x within ∙ ap (λ y. y ∷ drop (suc i) xs) (sym is))
