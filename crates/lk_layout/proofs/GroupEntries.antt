-- The entries of the map as groups: putting a piece under a key that the map has, or under a new one, gives the
-- groups with one more piece.
use Rattle.std.proofs.Common.{◌≡◌, refl, sym, ap, subst, ◌∙◌, ℕ, zero, suc, Bool, true, false, cond, List, [], ◌∷◌, ◌++◌, Some, None, position, slice_get}
use Rattle.std.specs.List.{position_or_len, AllByRecursion}
use Rattle.indexmap.specs.IndexMap.{insert_entry, set_value_at}
use Rattle.indexmap.proofs.MapLemmas.{Found-position, Missing-position, insert_entry-absent}
use Rattle.lk_model.specs.SectionKeys.{same_key}
use Rattle.lk_model.specs.Views.{KeptPiece}
use Rattle.lk_model.specs.declared.layouts.SectionKey.{SectionKey}
use Rattle.lk_layout.specs.Grouping.{Group, Groups, keys_in, number_in, put_piece, with_last}

-- the groups of a map and the pieces' order
abbrev pub groups_from : List Group → List ℕ → Groups
groups_from entries order = record { sections = entries; order = order }

-- the group with the number is the first whose key passes, and no group's key passes
abbrev IsFirst : (SectionKey → Bool) → List Group → ℕ → Type 0
IsFirst test [] n = ⊥
IsFirst test (g ∷ gs) zero = test g.0 ≡ true
IsFirst test (g ∷ gs) (suc n) = (test g.0 ≡ false) × IsFirst test gs n

abbrev IsAbsent : (SectionKey → Bool) → List Group → Type 0
IsAbsent test groups = AllByRecursion (λ key. test key ≡ false) (keys_in groups)

-- a piece of a section that the map has
put_first : (groups : List Group) (n : ℕ) (key : SectionKey) (pieces new : List KeptPiece) (piece : KeptPiece) → IsFirst (same_key piece.key) groups n → slice_get groups n ≡ Some (key, pieces) → new ≡ pieces ++ piece ∷ [] → set_value_at groups n new ≡ put_piece groups piece
put_first [] n key pieces new piece first at is = absurd first
put_first (g ∷ gs) zero key pieces new piece first at is =
    let here : g.1 ≡ pieces = cc in
    let last : new ≡ g.1 ++ piece ∷ [] = is ∙ ap (λ ps. ps ++ piece ∷ []) (sym here) in
    ap (λ (ps : List KeptPiece). (g.0, ps) ∷ gs) last ∙ sym (ap (λ b. cond b (with_last g piece ∷ gs) (g ∷ put_piece gs piece)) first)
put_first (g ∷ gs) (suc n) key pieces new piece first at is =
    ap (λ (rest : List Group). g ∷ rest) (put_first gs n key pieces new piece first.1 at is)
    ∙ sym (ap (λ b. cond b (with_last g piece ∷ gs) (g ∷ put_piece gs piece)) first.0)

-- a piece of a section that the map does not have
put_absent : (groups : List Group) (piece : KeptPiece) → IsAbsent (same_key piece.key) groups → put_piece groups piece ≡ groups ++ (piece.key, piece ∷ []) ∷ []
put_absent [] piece absent = refl
put_absent (g ∷ gs) piece absent =
    ap (λ b. cond b (with_last g piece ∷ gs) (g ∷ put_piece gs piece)) absent.0 ∙ ap (λ (rest : List Group). g ∷ rest) (put_absent gs piece absent.1)

-- the groups after a write to the map
pub record Puts (old : Groups) (piece : KeptPiece) (n : ℕ) (new : Groups) : Type 0 where
  pub number : n ≡ number_in old.sections piece.key
  pub groups : new ≡ record old { sections = put_piece old.sections piece }

-- a piece that is put into the group with its section's number
pub put_again : (old : Groups) (entries : List Group) (order : List ℕ) (n : ℕ) (key : SectionKey) (pieces more : List KeptPiece) (piece : KeptPiece) → groups_from entries order ≡ old → position (same_key piece.key) (keys_in old.sections) ≡ Some n → slice_get entries n ≡ Some (key, pieces) → more ≡ pieces ++ piece ∷ [] → Puts old piece n (groups_from (set_value_at entries n more) order)
put_again old entries order n key pieces more piece view at there is =
    let found = Found-position (same_key piece.key) entries n (ap (λ (g : Groups). position (same_key piece.key) (keys_in g.sections)) view ∙ at) in
    let put = put_first entries n key pieces more piece found.first there is in
    subst (λ (g : Groups). Puts g piece n (groups_from (set_value_at entries n more) order)) view (record { number = sym found.or_len; groups = ap (λ es. groups_from es order) put })

-- a piece that is put into a new group
pub put_last : (old : Groups) (entries new : List Group) (order : List ℕ) (n : ℕ) (pieces : List KeptPiece) (key : SectionKey) (piece : KeptPiece) → groups_from entries order ≡ old → position (same_key piece.key) (keys_in old.sections) ≡ None → key ≡ piece.key → pieces ≡ piece ∷ [] → n ≡ position_or_len (same_key key) (keys_in entries) → new ≡ insert_entry same_key entries key pieces → Puts old piece n (groups_from new order)
put_last old entries new order n pieces key piece view none own only number put =
    let missing = Missing-position (same_key piece.key) entries (ap (λ (g : Groups). position (same_key piece.key) (keys_in g.sections)) view ∙ none) in
    let put_so : new ≡ put_piece entries piece = put ∙ (λ i. insert_entry same_key entries (own i) (only i)) ∙ insert_entry-absent same_key piece.key (piece ∷ []) entries missing.absent ∙ sym (put_absent entries piece missing.absent) in
    let number_so : n ≡ number_in entries piece.key = number ∙ ap (λ k. position_or_len (same_key k) (keys_in entries)) own in
    subst (λ (g : Groups). Puts g piece n (groups_from new order)) view (record { number = number_so; groups = ap (λ es. groups_from es order) put_so })
