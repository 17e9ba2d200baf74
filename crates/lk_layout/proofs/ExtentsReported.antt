-- The extent of a walked section is the one that its pieces give.
use Rattle.std.specs.Prelude.{◌≡◌, refl, ℕ, zero, suc, ◌+◌, Bool, true, false, cond, List, [], ◌∷◌, ◌++◌, map, find, Option, Some, None, position, slice_get}
use Rattle.std.specs.List.{AllByRecursion}
use Rattle.std.proofs.lemmas.Option.{slice_get-map}
use Rattle.std.proofs.Common.{sym, ap, ◌∙◌}
use Rattle.std.specs.Option.{option_map, option_map_or}
use Rattle.lk_model.specs.declared.layouts.SectionKey.{SectionKey}
use Rattle.lk_model.specs.FullPlace.{Extent, extent_with, pieces_extent, size_among}
use Rattle.lk_model.specs.SectionKeys.{is_patched, same_key}
use Rattle.lk_model.specs.Views.{KeptPiece}
use Rattle.lk_model.proofs.KeysFound.{same_key_reports}
use Rattle.lk_layout.specs.Extents.{extent_from, extent_reported, extent_under, pieces_under}
use Rattle.lk_layout.specs.Grouping.{Group, keys_in}
use Rattle.lk_layout.specs.Walked.{Walked, walked}
use Rattle.indexmap.proofs.MapLemmas.{Found-position, Missing-position}

from_is : (patch : ℕ) (key : SectionKey) (pieces : List KeptPiece) (b : Bool) → is_patched key ≡ b → extent_from patch key (walked (key, pieces)) ≡ pieces_extent b patch key pieces
unfolding walked
from_is patch key pieces true e = rw e refl
from_is patch key pieces false e = rw e refl

pub reported_is : (patch : ℕ) (size : Option ℕ) (key : SectionKey) (pieces : List KeptPiece) → extent_reported patch size key (walked (key, pieces)) ≡ extent_with size patch key pieces
reported_is patch (Some size) key pieces = refl
reported_is patch None key pieces = from_is patch key pieces (is_patched key) refl

-- the first group whose key is a section's
abbrev IsFirst : SectionKey → List Group → ℕ → Type 0
IsFirst key [] n = ⊥
IsFirst key (g ∷ gs) zero = same_key key g.0 ≡ true
IsFirst key (g ∷ gs) (suc n) = (same_key key g.0 ≡ false) × IsFirst key gs n

found_under : Option Group → List KeptPiece
found_under o = option_map_or (λ (g : Group). g.1) o []

at_first : (groups : List Group) (key : SectionKey) (n : ℕ) → IsFirst key groups n → slice_get groups n ≡ Some (key, pieces_under groups key)
unfolding found_under
at_first [] key n first = absurd first
at_first (g ∷ gs) key zero first =
    let own : g.0 ≡ key = sym (same_key_reports key g.0 first) in
    let pieces : g.1 ≡ pieces_under (g ∷ gs) key = ap (λ b. found_under (cond b (Some g) (find (λ (h : Group). same_key key h.0) gs))) (sym first) in
    λ i. Some (own i, pieces i)
at_first (g ∷ gs) key (suc n) first =
    at_first gs key n first.1 ∙ ap (λ b. Some (key, found_under (cond b (Some g) (find (λ (h : Group). same_key key h.0) gs)))) (sym first.0)

-- the group with the number of a section has its pieces
group_at : (groups : List Group) (key : SectionKey) (n : ℕ) → position (same_key key) (keys_in groups) ≡ Some n → slice_get groups n ≡ Some (key, pieces_under groups key)
group_at groups key n at = at_first groups key n (Found-position (same_key key) groups n at).first

absent_under : (groups : List Group) (key : SectionKey) → AllByRecursion (λ k. same_key key k ≡ false) (keys_in groups) → pieces_under groups key ≡ []
unfolding found_under
absent_under [] key absent = refl
absent_under (g ∷ gs) key absent =
    ap (λ b. found_under (cond b (Some g) (find (λ (h : Group). same_key key h.0) gs))) absent.0 ∙ absent_under gs key absent.1

none_under : (groups : List Group) (key : SectionKey) → position (same_key key) (keys_in groups) ≡ None → pieces_under groups key ≡ []
none_under groups key none = absent_under groups key (Missing-position (same_key key) groups none).absent

some_same : {A : Type 0} (x y : A) → Some x ≡ Some y → x ≡ y
some_same x y e = cc

-- so its walk gives the section's extent
pub found_extent : (patch : ℕ) (sizes : List (SectionKey × ℕ)) (groups : List Group) (walks : List Walked) (key : SectionKey) (n : ℕ) (w : Walked) (e : Extent) → walks ≡ map walked groups → position (same_key key) (keys_in groups) ≡ Some n → slice_get walks n ≡ Some w → e ≡ extent_reported patch (size_among sizes key) key w → e ≡ extent_under patch sizes groups key
found_extent patch sizes groups walks key n w e all at here reported =
    let walk : w ≡ walked (key, pieces_under groups key) = some_same w (walked (key, pieces_under groups key)) (sym here ∙ ap (λ ws. slice_get ws n) all ∙ slice_get-map walked groups n ∙ ap (option_map walked) (group_at groups key n at)) in
    reported ∙ ap (extent_reported patch (size_among sizes key) key) walk ∙ reported_is patch (size_among sizes key) key (pieces_under groups key)

pub missing_extent : (patch : ℕ) (sizes : List (SectionKey × ℕ)) (groups : List Group) (key : SectionKey) (w : Walked) (e : Extent) → position (same_key key) (keys_in groups) ≡ None → w ≡ walked (key, []) → e ≡ extent_reported patch (size_among sizes key) key w → e ≡ extent_under patch sizes groups key
missing_extent patch sizes groups key w e none walk reported =
    reported ∙ ap (extent_reported patch (size_among sizes key) key) (walk ∙ ap (λ ps. walked (key, ps)) (sym (none_under groups key none))) ∙ reported_is patch (size_among sizes key) key (pieces_under groups key)
