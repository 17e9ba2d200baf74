-- The pieces of an array of functions, by the numbers in their names.
use Rattle.std.specs.Prelude.{◌≡◌, refl, ℕ, zero, suc, ◌+◌, ◌==◌, nat_lt, Bool, true, false, cond, List, [], ◌∷◌, ◌++◌, filter, fold, map, take, take_while}
use Rattle.std.specs.List.{prefix_len}
use Rattle.std.proofs.Common.{sym, ap, ◌∙◌, subst}
use Rattle.std.proofs.lemmas.List.{map-append}
use Rattle.lk_model.specs.Rooms.{array_rank, before_in_sequence, by_number, sequence_end, sequence_offset}
use Rattle.lk_model.specs.Views.{KeptPiece}
use Rattle.lk_layout.specs.Ranked.{has_rank, is_below, lane_offsets, rank_in, ranked_end, ranked_next, ranked_of, ranked_offset}
use Rattle.lk_layout.specs.Sorts.{AtLeast, Rises, has_key, IsSortOf}
use Rattle.lk_layout.specs.Walked.{array_offsets, sequence_next}
use Rattle.lk_layout.specs.declared.ranks.Ranked.{Ranked}
use Rattle.lk_layout.proofs.PutInOrder.{by_number_sorted}
use Rattle.lk_layout.proofs.SortedOnce.{only_one}

module _ {A B : Type 0} (f : A → B) where
  filter_map_is : (p : B → Bool) (xs : List A) → filter p (map f xs) ≡ map f (filter (λ x. p (f x)) xs)
  filter_map_is p [] = refl
  filter_map_is p (x ∷ xs) = go (p (f x)) (filter_map_is p xs)
    where
      go : (b : Bool) → filter p (map f xs) ≡ map f (filter (λ y. p (f y)) xs) → cond b (f x ∷ filter p (map f xs)) (filter p (map f xs)) ≡ map f (cond b (x ∷ filter (λ y. p (f y)) xs) (filter (λ y. p (f y)) xs))
      go true rest = ap (λ zs. f x ∷ zs) rest
      go false rest = rest

  prefix_map : (p : B → Bool) (xs : List A) → prefix_len p (map f xs) ≡ prefix_len (λ x. p (f x)) xs
  prefix_map p [] = refl
  prefix_map p (x ∷ xs) = ap (λ n. cond (p (f x)) (1 + n) 0) (prefix_map p xs)

  take_map : (n : ℕ) (xs : List A) → take n (map f xs) ≡ map f (take n xs)
  take_map zero xs = refl
  take_map (suc n) [] = refl
  take_map (suc n) (x ∷ xs) = ap (λ zs. f x ∷ zs) (take_map n xs)

  while_map : (p : B → Bool) (xs : List A) → take_while p (map f xs) ≡ map f (take_while (λ x. p (f x)) xs)
  while_map p xs = ap (λ n. take n (map f xs)) (prefix_map p xs) ∙ take_map (prefix_len (λ x. p (f x)) xs) xs

  at_least_map : (key : B → ℕ) (least : ℕ) (xs : List A) → AtLeast (λ x. key (f x)) least xs → AtLeast key least (map f xs)
  at_least_map key least [] h = tt
  at_least_map key least (x ∷ xs) h = (h.0, at_least_map key least xs h.1)

  rises_map : (key : B → ℕ) (xs : List A) → Rises (λ x. key (f x)) xs → Rises key (map f xs)
  rises_map key [] h = tt
  rises_map key (x ∷ xs) h = (at_least_map key (key (f x)) xs h.0, rises_map key xs h.1)

  stays_map : (key : B → ℕ) (k : ℕ) (xs ys : List A) → filter (has_key (λ x. key (f x)) k) ys ≡ filter (has_key (λ x. key (f x)) k) xs → filter (has_key key k) (map f ys) ≡ filter (has_key key k) (map f xs)
  stays_map key k xs ys h = filter_map_is (has_key key k) ys ∙ ap (map f) h ∙ sym (filter_map_is (has_key key k) xs)

-- a stable sort of the numbered pieces is that of the pieces by number
pub sorted_is : (pieces : List KeptPiece) (sorted : List Ranked) → IsSortOf rank_in (map ranked_of pieces) sorted → sorted ≡ map ranked_of (by_number pieces)
sorted_is pieces sorted s =
    let own = by_number_sorted pieces in
    only_one rank_in sorted (map ranked_of (by_number pieces)) s.rises (rises_map ranked_of rank_in (by_number pieces) own.rises)
    (λ k. s.stays k ∙ sym (stays_map ranked_of rank_in k pieces (by_number pieces) (own.stays k)))

-- the end of numbered pieces
end_from : (cursor : ℕ) (pieces : List KeptPiece) → fold ranked_next cursor (map ranked_of pieces) ≡ fold sequence_next cursor pieces
end_from cursor [] = refl
end_from cursor (p ∷ ps) = end_from (sequence_next cursor p) ps

pub end_is : (pieces : List KeptPiece) → ranked_end (map ranked_of pieces) ≡ sequence_end pieces
end_is pieces = end_from 0 pieces

lane_is : (all earlier : List KeptPiece) (p : KeptPiece) → take_while (is_below (array_rank p)) (map ranked_of (by_number all)) ++ filter (has_rank (array_rank p)) (map ranked_of earlier) ≡ map ranked_of (before_in_sequence true all earlier p)
lane_is all earlier p =
    let below : List KeptPiece = take_while (λ (other : KeptPiece). nat_lt (array_rank other) (array_rank p)) (by_number all) in
    let same : List KeptPiece = filter (λ (other : KeptPiece). array_rank other == array_rank p) earlier in
    ap (λ zs. zs ++ filter (has_rank (array_rank p)) (map ranked_of earlier)) (while_map ranked_of (is_below (array_rank p)) (by_number all))
    ∙ ap (λ zs. map ranked_of below ++ zs) (filter_map_is ranked_of (has_rank (array_rank p)) earlier)
    ∙ sym (map-append ranked_of below same)

-- the offsets of numbered pieces are those of the pieces
pub offsets_are : (all earlier pieces : List KeptPiece) → lane_offsets (map ranked_of (by_number all)) (map ranked_of earlier) (map ranked_of pieces) ≡ array_offsets all earlier pieces
offsets_are all earlier [] = refl
offsets_are all earlier (p ∷ ps) =
    let here : ranked_offset (ranked_end (take_while (is_below (array_rank p)) (map ranked_of (by_number all)) ++ filter (has_rank (array_rank p)) (map ranked_of earlier))) (ranked_of p) ≡ sequence_offset (sequence_end (before_in_sequence true all earlier p)) p =
    ap (λ rs. ranked_offset (ranked_end rs) (ranked_of p)) (lane_is all earlier p) ∙ ap (λ cursor. ranked_offset cursor (ranked_of p)) (end_is (before_in_sequence true all earlier p)) in
    let later : lane_offsets (map ranked_of (by_number all)) (map ranked_of earlier ++ ranked_of p ∷ []) (map ranked_of ps) ≡ array_offsets all (earlier ++ p ∷ []) ps =
    ap (λ rs. lane_offsets (map ranked_of (by_number all)) rs (map ranked_of ps)) (sym (map-append ranked_of earlier (p ∷ []))) ∙ offsets_are all (earlier ++ p ∷ []) ps in
    λ i. here i ∷ later i

-- the offsets, the end and the alignment of an array of functions are those of its sorted pieces
pub record ArrayReported (pieces : List KeptPiece) (ranked sorted : List Ranked) : Type 0 where
  pub offsets : lane_offsets sorted [] ranked ≡ array_offsets pieces [] pieces
  pub end : ranked_end sorted ≡ sequence_end (by_number pieces)

pub array_reported : (pieces : List KeptPiece) (ranked sorted : List Ranked) → ranked ≡ map ranked_of pieces → IsSortOf rank_in ranked sorted → ArrayReported pieces ranked sorted
array_reported pieces ranked sorted all s =
    let reported : sorted ≡ map ranked_of (by_number pieces) = sorted_is pieces sorted (subst (λ (rs : List Ranked). IsSortOf rank_in rs sorted) all s) in
    record {
      offsets = (λ i. lane_offsets (reported i) [] (all i)) ∙ offsets_are pieces [] pieces;
      end = ap ranked_end reported ∙ end_is (by_number pieces);
    }
