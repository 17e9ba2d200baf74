-- Claims found: a signature has a holder exactly where it is one of the claimed, and the holder is the
-- first that asked for it.
use Rattle.std.proofs.Common.{◌≡◌, refl, sym, ap, ◌∙◌, ℕ, Bool, true, false, cond, ◌||◌, List, [], ◌∷◌, ◌++◌, fold, Option, None, Some, is_some}
use Rattle.std.proofs.lemmas.List.Folds.{list_any-append}
use Rattle.std.specs.Cmp.Lexicographic.{nat_list_eq_equiv}
use Rattle.std.specs.Option.{option_or}
use Rattle.std.specs.Str.{bytes_eq}
use Rattle.indexmap.specs.IndexMap.{insert_entry}
use Rattle.indexmap.proofs.MapLemmas.{absent_from_lookup, insert_entry-absent}
use Rattle.lk_model.specs.declared.summaries.Group.{Group}
use Rattle.lk_model.specs.Groups.{dropped_by}
use Rattle.lk_model.specs.Numbered.{is_text_in}
use Rattle.lk_comdat.specs.Claims.{holder_of, signatures_of}
use Rattle.lk_comdat.specs.declared.claiming.Claim.TheVariants.{First, Dropped}
use Rattle.lk_comdat.specs.ClaimLaws.{with_claim, claims_after, ClaimsGoOn, ClaimedHaveHolders, HoldersAreFirst, DropsTheSame, DropsOneByOne}

-- a signature has a holder exactly where it is claimed
either_some : (a b x : Bool) (v : ℕ) (rest : Option ℕ) → a ≡ b → x ≡ is_some rest → (a || x) ≡ is_some (cond b (Some v) rest)
either_some true true x v rest same more = refl
either_some true false x v rest same more = absurd (cc)
either_some false true x v rest same more = absurd (cc)
either_some false false x v rest same more = more

pub claimed : ClaimedHaveHolders
claimed [] s = refl
claimed (c ∷ cs) s =
    either_some (bytes_eq c.0 s) (bytes_eq s c.0) (is_text_in (signatures_of cs) s) c.1 (holder_of cs s) (nat_list_eq_equiv.symm c.0 s) (claimed cs s)

-- the holder after one more claim
stored : (b : Bool) (v : ℕ) (rest more : Option ℕ) → cond b (Some v) (option_or rest more) ≡ option_or (cond b (Some v) rest) more
stored true v rest more = refl
stored false v rest more = refl

holder-push : (claims : List (List ℕ × ℕ)) (c : List ℕ × ℕ) (s : List ℕ) → holder_of (claims ++ c ∷ []) s ≡ option_or (holder_of claims s) (cond (bytes_eq s c.0) (Some c.1) None)
holder-push [] c s = refl
holder-push (d ∷ ds) c s =
    ap (λ o. cond (bytes_eq s d.0) (Some d.1) o) (holder-push ds c s) ∙ stored (bytes_eq s d.0) d.1 (holder_of ds s) (cond (bytes_eq s c.0) (Some c.1) None)

-- two equal signatures have one holder
same_holder : (claims : List (List ℕ × ℕ)) (s t : List ℕ) → bytes_eq s t ≡ true → holder_of claims s ≡ holder_of claims t
same_holder [] s t e = refl
same_holder (c ∷ cs) s t e =
    ap (λ b. cond b (Some c.1) (holder_of cs s)) (nat_list_eq_equiv.congr s t c.0 e) ∙ ap (λ o. cond (bytes_eq t c.0) (Some c.1) o) (same_holder cs s t e)

-- what was kept before, and then the claim: where the signature has a holder already, and where not
kept : (b : Bool) (v : ℕ) (was rest : Option ℕ) → (b ≡ true → is_some was ≡ true) → option_or was rest ≡ option_or was (cond b (Some v) rest)
kept true v (Some w) rest there = refl
kept true v None rest there = absurd (let f = there refl in cc (f))
kept false v was rest there = refl

taken : (b : Bool) (v : ℕ) (was rest : Option ℕ) → option_or (option_or was (cond b (Some v) None)) rest ≡ option_or was (cond b (Some v) rest)
taken b v (Some w) rest = refl
taken true v None rest = refl
taken false v None rest = refl

one_claim : (b : Bool) (claims : List (List ℕ × ℕ)) (c : List ℕ × ℕ) (s : List ℕ) (rest : Option ℕ) → is_some (holder_of claims c.0) ≡ b
    → option_or (holder_of (cond b claims (claims ++ c ∷ [])) s) rest ≡ option_or (holder_of claims s) (cond (bytes_eq s c.0) (Some c.1) rest)
one_claim true claims c s rest has =
    kept (bytes_eq s c.0) c.1 (holder_of claims s) rest (λ e. ap is_some (same_holder claims s c.0 e) ∙ has)
one_claim false claims c s rest has =
    ap (λ o. option_or o rest) (holder-push claims c s) ∙ taken (bytes_eq s c.0) c.1 (holder_of claims s) rest

or_none : (o : Option ℕ) → o ≡ option_or o None
or_none None = refl
or_none (Some v) = refl

first_from : (claims asked : List (List ℕ × ℕ)) (s : List ℕ) → holder_of (fold with_claim claims asked) s ≡ option_or (holder_of claims s) (holder_of asked s)
first_from claims [] s = or_none (holder_of claims s)
first_from claims (c ∷ cs) s =
    first_from (with_claim claims c) cs s ∙ one_claim (is_some (holder_of claims c.0)) claims c s (holder_of cs s) refl

pub first : HoldersAreFirst
first asked s = first_from [] asked s

-- an answered claim adds what is not yet claimed
pub goes_on : ClaimsGoOn
goes_on old s input First new h = h.1 ∙ sym (ap (λ (o : Option ℕ). cond (is_some o) old (old ++ (s, input) ∷ [])) h.0)
goes_on old s input (Dropped holder) new h = h.1 ∙ sym (ap (λ (o : Option ℕ). cond (is_some o) old (old ++ (s, input) ∷ [])) h.0)

-- lists that have the same texts drop the same groups
drops_alike : (gs : List Group) (xs ys : List (List ℕ)) → ((t : List ℕ) → is_text_in xs t ≡ is_text_in ys t) → dropped_by xs gs ≡ dropped_by ys gs
drops_alike [] xs ys same = refl
drops_alike (g ∷ gs) xs ys same =
    ap (λ b. cond b g.members [] ++ dropped_by (xs ++ g.signature ∷ []) gs) (same g.signature)
    ∙ ap (λ l. cond (is_text_in ys g.signature) g.members [] ++ l)
    (drops_alike gs (xs ++ g.signature ∷ []) (ys ++ g.signature ∷ [])
    (λ t. list_any-append (λ u. bytes_eq u t) xs (g.signature ∷ [])
    ∙ ap (λ b. b || is_text_in (g.signature ∷ []) t) (same t)
    ∙ sym (list_any-append (λ u. bytes_eq u t) ys (g.signature ∷ []))))

pub dropped : DropsTheSame
dropped asked groups =
    drops_alike groups (signatures_of (claims_after asked)) (signatures_of asked)
    (λ t. claimed (claims_after asked) t ∙ ap is_some (first asked t) ∙ sym (claimed asked t))

-- with one more claim the list has the texts that it has with one more signature
signatures-push : (claims : List (List ℕ × ℕ)) (c : List ℕ × ℕ) → signatures_of (claims ++ c ∷ []) ≡ signatures_of claims ++ c.0 ∷ []
signatures-push [] c = refl
signatures-push (d ∷ ds) c = ap (λ l. d.0 ∷ l) (signatures-push ds c)

claimed-more : (claims : List (List ℕ × ℕ)) (c : List ℕ × ℕ) (t : List ℕ) → is_text_in (signatures_of claims ++ c.0 ∷ []) t ≡ is_text_in (signatures_of (with_claim claims c)) t
claimed-more claims c t =
    ap (λ l. is_text_in l t) (sym (signatures-push claims c))
    ∙ claimed (claims ++ c ∷ []) t
    ∙ ap is_some
    (holder-push claims c t
    ∙ sym (one_claim (is_some (holder_of claims c.0)) claims c t None refl)
    ∙ sym (or_none (holder_of (with_claim claims c) t)))
    ∙ sym (claimed (with_claim claims c) t)

pub one_by_one : DropsOneByOne
one_by_one claims g gs input =
    ap (λ b. cond b g.members [] ++ dropped_by (signatures_of claims ++ g.signature ∷ []) gs) (claimed claims g.signature)
    ∙ ap (λ l. cond (is_some (holder_of claims g.signature)) g.members [] ++ l)
    (drops_alike gs (signatures_of claims ++ g.signature ∷ []) (signatures_of (with_claim claims (g.signature, input)))
    (claimed-more claims (g.signature, input)))

-- a signature with no holder goes last
pub recorded : (old new : List (List ℕ × ℕ)) (s : List ℕ) (input : ℕ) → holder_of old s ≡ None → new ≡ insert_entry bytes_eq old s input → new ≡ old ++ (s, input) ∷ []
recorded old new s input none put = put ∙ insert_entry-absent bytes_eq s input old (absent_from_lookup (bytes_eq s) old none)
