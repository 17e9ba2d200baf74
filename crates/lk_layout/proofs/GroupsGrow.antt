-- The groups of kept pieces grow by one more piece as they are put.
use Rattle.std.specs.Prelude.{◌≡◌, refl, ℕ, ◌+◌, Bool, true, false, cond, ◌||◌, List, [], ◌∷◌, ◌++◌, fold, filter, length, map}
use Rattle.std.specs.List.{AllByRecursion, IsDistinct, list_any}
use Rattle.std.proofs.Common.{sym, ap, subst, ◌∙◌}
use Rattle.std.proofs.lemmas.List.{append-nil, append_assoc, map-append}
use Rattle.std.proofs.lemmas.List.Elements.{filter-append}
use Rattle.std.proofs.lemmas.List.Folds.{list_any-append}
use Rattle.std.proofs.lemmas.List.Sums.{fold-append}
use Rattle.lk_model.specs.declared.layouts.SectionKey.{SectionKey}
use Rattle.lk_model.specs.FullPlace.{pieces_in}
use Rattle.lk_model.specs.SectionKeys.{same_key}
use Rattle.lk_model.specs.SectionOrder.{each_once}
use Rattle.lk_model.specs.Views.{KeptPiece}
use Rattle.lk_model.proofs.KeysFound.{same_key_self}
use Rattle.lk_layout.specs.Equal.{same_key_equiv}
use Rattle.lk_layout.specs.Grouping.{Group, Groups, group_of, groups_of, keys_in, keys_of, no_groups, number_in, put_piece, with_last, with_piece}
use Rattle.lk_layout.proofs.KeysOnce.{is_among, once_among, once_differ, place_first, place_in, place_last, place_none}

abbrev pub key_of_piece : KeptPiece → SectionKey
key_of_piece piece = piece.key

-- ---- the sections

abbrev pub keys_with : List KeptPiece → KeptPiece → List SectionKey
keys_with done p = cond (is_among p.key (keys_of done)) (keys_of done) (keys_of done ++ p.key ∷ [])

pub keys_of-push : (done : List KeptPiece) (p : KeptPiece) → keys_of (done ++ p ∷ []) ≡ keys_with done p
keys_of-push done p =
    ap each_once (map-append key_of_piece done (p ∷ []))
    ∙ fold-append (λ seen key. cond (is_among key seen) seen (seen ++ key ∷ [])) [] (map key_of_piece done) (p.key ∷ [])

-- the pieces of a section, with one more piece
pub pieces_own : (done : List KeptPiece) (p : KeptPiece) (key : SectionKey) → same_key p.key key ≡ true → pieces_in key (done ++ p ∷ []) ≡ pieces_in key done ++ p ∷ []
pieces_own done p key own =
    filter-append (λ (piece : KeptPiece). same_key piece.key key) done (p ∷ []) ∙ ap (λ b. pieces_in key done ++ cond b (p ∷ []) []) own

pub pieces_other : (done : List KeptPiece) (p : KeptPiece) (key : SectionKey) → same_key p.key key ≡ false → pieces_in key (done ++ p ∷ []) ≡ pieces_in key done
pieces_other done p key other =
    filter-append (λ (piece : KeptPiece). same_key piece.key key) done (p ∷ [])
    ∙ ap (λ b. pieces_in key done ++ cond b (p ∷ []) []) other
    ∙ append-nil (pieces_in key done)

own_group : (done : List KeptPiece) (p : KeptPiece) (key : SectionKey) → same_key p.key key ≡ true → with_last (group_of done key) p ≡ group_of (done ++ p ∷ []) key
own_group done p key own = ap (λ (ps : List KeptPiece). (key, ps)) (sym (pieces_own done p key own))

other_group : (done : List KeptPiece) (p : KeptPiece) (key : SectionKey) → same_key p.key key ≡ false → group_of done key ≡ group_of (done ++ p ∷ []) key
other_group done p key other = ap (λ (ps : List KeptPiece). (key, ps)) (sym (pieces_other done p key other))

others : (done : List KeptPiece) (p : KeptPiece) (keys : List SectionKey) → AllByRecursion (λ k. same_key p.key k ≡ false) keys → map (group_of done) keys ≡ map (group_of (done ++ p ∷ [])) keys
others done p [] h = refl
others done p (k ∷ keys) h = λ i. other_group done p k h.0 i ∷ others done p keys h.1 i

apart : (key k : SectionKey) (keys : List SectionKey) → same_key key k ≡ true → AllByRecursion (λ y. same_key k y ≡ false) keys → AllByRecursion (λ y. same_key key y ≡ false) keys
apart key k [] same h = tt
apart key k (y ∷ ys) same h = (same_key_equiv.congr key k y same ∙ h.0, apart key k ys same h.1)

-- a piece of a section that has a group
there : (done : List KeptPiece) (p : KeptPiece) (keys : List SectionKey) → IsDistinct same_key keys → is_among p.key keys ≡ true → put_piece (map (group_of done) keys) p ≡ map (group_of (done ++ p ∷ [])) keys
unfolding IsDistinct
there done p [] differ any = absurd (cc)
there done p (k ∷ keys) differ any = go (same_key p.key k) refl any (there done p keys differ.1)
  where
    go :
        (b : Bool)
        → same_key p.key k ≡ b
        → (b || is_among p.key keys) ≡ true
        → (is_among p.key keys ≡ true → put_piece (map (group_of done) keys) p ≡ map (group_of (done ++ p ∷ [])) keys)
        → cond b (with_last (group_of done k) p ∷ map (group_of done) keys) (group_of done k ∷ put_piece (map (group_of done) keys) p) ≡ map (group_of (done ++ p ∷ [])) (k ∷ keys)
    go true e a rest = λ i. own_group done p k e i ∷ others done p keys (apart p.key k keys e differ.0) i
    go false e a rest = λ i. other_group done p k e i ∷ rest a i

-- a piece of a section that has no group yet
pub none_of : (key : SectionKey) (done : List KeptPiece) → is_among key (map key_of_piece done) ≡ false → pieces_in key done ≡ []
none_of key [] none = refl
none_of key (q ∷ qs) none = go (same_key key q.key) refl none (none_of key qs)
  where
    go : (b : Bool) → same_key key q.key ≡ b → (b || is_among key (map key_of_piece qs)) ≡ false → (is_among key (map key_of_piece qs) ≡ false → pieces_in key qs ≡ []) → cond (same_key q.key key) (q ∷ pieces_in key qs) (pieces_in key qs) ≡ []
    go true e a rest = absurd (cc)
    go false e a rest = ap (λ b. cond b (q ∷ pieces_in key qs) (pieces_in key qs)) (same_key_equiv.symm q.key key ∙ e) ∙ rest a

last : (done : List KeptPiece) (p : KeptPiece) (keys : List SectionKey) → pieces_in p.key done ≡ [] → is_among p.key keys ≡ false → put_piece (map (group_of done) keys) p ≡ map (group_of (done ++ p ∷ [])) (keys ++ p.key ∷ [])
last done p [] none absent =
    ap (λ (ps : List KeptPiece). (p.key, ps ++ p ∷ []) ∷ []) (sym none) ∙ ap (λ (g : Group). g ∷ []) (own_group done p p.key (same_key_self p.key))
last done p (k ∷ keys) none absent = go (same_key p.key k) refl absent (last done p keys none)
  where
    go :
        (b : Bool)
        → same_key p.key k ≡ b
        → (b || is_among p.key keys) ≡ false
        → (is_among p.key keys ≡ false → put_piece (map (group_of done) keys) p ≡ map (group_of (done ++ p ∷ [])) (keys ++ p.key ∷ []))
        → cond b (with_last (group_of done k) p ∷ map (group_of done) keys) (group_of done k ∷ put_piece (map (group_of done) keys) p) ≡ map (group_of (done ++ p ∷ [])) (k ∷ keys ++ p.key ∷ [])
    go true e a rest = absurd (cc)
    go false e a rest = λ i. other_group done p k e i ∷ rest a i

sections_grow : (done : List KeptPiece) (p : KeptPiece) → put_piece (map (group_of done) (keys_of done)) p ≡ map (group_of (done ++ p ∷ [])) (keys_of (done ++ p ∷ []))
sections_grow done p = by (is_among p.key (keys_of done)) refl ∙ ap (map (group_of (done ++ p ∷ []))) (sym (keys_of-push done p))
  where
    by : (b : Bool) → is_among p.key (keys_of done) ≡ b → put_piece (map (group_of done) (keys_of done)) p ≡ map (group_of (done ++ p ∷ [])) (cond b (keys_of done) (keys_of done ++ p.key ∷ []))
    by true any = there done p (keys_of done) (once_differ (map key_of_piece done)) any
    by false any = last done p (keys_of done) (none_of p.key done (sym (once_among p.key (map key_of_piece done)) ∙ any)) any

-- ---- the numbers of the sections

pub keys_again : (done : List KeptPiece) (keys : List SectionKey) → keys_in (map (group_of done) keys) ≡ keys
keys_again done [] = refl
keys_again done (k ∷ keys) = ap (λ ks. k ∷ ks) (keys_again done keys)

-- the number of a piece's section among keys
abbrev pub number_among : List SectionKey → KeptPiece → ℕ
number_among keys p = place_in keys p.key

numbers_stay : (keys : List SectionKey) (key : SectionKey) (done : List KeptPiece) → AllByRecursion (λ (q : KeptPiece). is_among q.key keys ≡ true) done → map (number_among keys) done ≡ map (number_among (keys ++ key ∷ [])) done
numbers_stay keys key [] h = refl
numbers_stay keys key (q ∷ qs) h = λ i. sym (place_first q.key keys (key ∷ []) h.0) i ∷ numbers_stay keys key qs h.1 i

or_true : (b : Bool) → (b || true) ≡ true
or_true true = refl
or_true false = refl

own_among : (q : KeptPiece) (done : List KeptPiece) → is_among q.key (q.key ∷ map key_of_piece done) ≡ true
own_among q done = ap (λ b. b || is_among q.key (map key_of_piece done)) (same_key_self q.key)

all_among : (before done : List KeptPiece) → AllByRecursion (λ (q : KeptPiece). is_among q.key (map key_of_piece (before ++ done)) ≡ true) done
all_among before [] = tt
all_among before (q ∷ qs) = (
  ap (is_among q.key) (map-append key_of_piece before (q ∷ qs))
      ∙ list_any-append (same_key q.key) (map key_of_piece before) (q.key ∷ map key_of_piece qs)
      ∙ ap (λ b. is_among q.key (map key_of_piece before) || b) (own_among q qs)
      ∙ or_true (is_among q.key (map key_of_piece before)),
  subst (λ (l : List KeptPiece). AllByRecursion (λ (x : KeptPiece). is_among x.key (map key_of_piece l) ≡ true) qs) (append_assoc before (q ∷ []) qs) (all_among (before ++ q ∷ []) qs),
)

once_placed : (done qs : List KeptPiece) → AllByRecursion (λ (q : KeptPiece). is_among q.key (map key_of_piece done) ≡ true) qs → AllByRecursion (λ (q : KeptPiece). is_among q.key (keys_of done) ≡ true) qs
once_placed done [] h = tt
once_placed done (q ∷ qs) h = (once_among q.key (map key_of_piece done) ∙ h.0, once_placed done qs h.1)

-- every piece's section is among those of all
pub all_placed : (done : List KeptPiece) → AllByRecursion (λ (q : KeptPiece). is_among q.key (keys_of done) ≡ true) done
all_placed done = once_placed done done (all_among [] done)

order_grows : (done : List KeptPiece) (p : KeptPiece) → map (number_among (keys_of done)) done ++ number_in (map (group_of done) (keys_of done)) p.key ∷ [] ≡ map (number_among (keys_of (done ++ p ∷ []))) (done ++ p ∷ [])
order_grows done p =
    ap (λ n. map (number_among (keys_of done)) done ++ n ∷ []) (ap (λ ks. place_in ks p.key) (keys_again done (keys_of done)))
    ∙ by (is_among p.key (keys_of done)) refl
    ∙ sym (map-append (number_among (keys_with done p)) done (p ∷ []))
    ∙ ap (λ ks. map (number_among ks) (done ++ p ∷ [])) (sym (keys_of-push done p))
  where
    by : (b : Bool) → is_among p.key (keys_of done) ≡ b → map (number_among (keys_of done)) done ++ place_in (keys_of done) p.key ∷ [] ≡ map (number_among (keys_with done p)) done ++ place_in (keys_with done p) p.key ∷ []
    by true any = ap (λ (b : Bool). map (number_among (cond b (keys_of done) (keys_of done ++ p.key ∷ []))) done ++ place_in (cond b (keys_of done) (keys_of done ++ p.key ∷ [])) p.key ∷ []) (sym any)
    by false any =
        let number : place_in (keys_of done) p.key ≡ place_in (keys_of done ++ p.key ∷ []) p.key = place_none p.key (keys_of done) any ∙ sym (place_last p.key (keys_of done) any) in
        (λ i. numbers_stay (keys_of done) p.key done (all_placed done) i ++ number i ∷ [])
        ∙ ap (λ (b : Bool). map (number_among (cond b (keys_of done) (keys_of done ++ p.key ∷ []))) done ++ place_in (cond b (keys_of done) (keys_of done ++ p.key ∷ [])) p.key ∷ []) (sym any)

-- ---- the groups

pub groups_of-push : (done : List KeptPiece) (p : KeptPiece) → with_piece (groups_of done) p ≡ groups_of (done ++ p ∷ [])
unfolding groups_of
groups_of-push done p = λ i. record { sections = sections_grow done p i; order = order_grows done p i }

none_grouped : no_groups ≡ groups_of []
unfolding groups_of
none_grouped = refl

grouped_from : (done rest : List KeptPiece) → fold with_piece (groups_of done) rest ≡ groups_of (done ++ rest)
grouped_from done [] = ap groups_of (sym (append-nil done))
grouped_from done (p ∷ ps) =
    ap (λ (g : Groups). fold with_piece g ps) (groups_of-push done p) ∙ grouped_from (done ++ p ∷ []) ps ∙ ap groups_of (append_assoc done (p ∷ []) ps)

-- pieces that are put one by one make the groups of all
pub all_grouped : (kept : List KeptPiece) → fold with_piece no_groups kept ≡ groups_of kept
all_grouped kept = ap (λ (g : Groups). fold with_piece g kept) none_grouped ∙ grouped_from [] kept

-- pieces that are put after others
pub pieces_grouped : (first second : List KeptPiece) → fold with_piece (fold with_piece no_groups first) second ≡ groups_of (first ++ second)
pieces_grouped first second = sym (fold-append with_piece no_groups first second) ∙ all_grouped (first ++ second)
