-- The lanes of numbered pieces: how they are opened and moved piece by piece.
use Rattle.std.specs.Prelude.{◌≡◌, refl, ℕ, suc, ◌+◌, ◌<◌, ◌≤◌, ◌==◌, nat_eq, nat_lt, Bool, true, false, cond, ◌||◌, not, List, [], ◌∷◌, ◌++◌, drop, filter, fold, length, take, take_while, Option, Some, None, slice_index_or, unwrap_or}
use Rattle.std.specs.List.{list_any, prefix_len}
use Rattle.std.specs.Option.{option_or}
use Rattle.std.proofs.Common.{sym, ap, ◌∙◌, arith, get_or}
use Rattle.std.proofs.lemmas.Bool.Decides.{nat_tests}
use Rattle.std.proofs.lemmas.List.{append-nil, append_assoc, take-append-drop, take_more}
use Rattle.std.proofs.lemmas.List.Elements.{filter-append}
use Rattle.std.proofs.lemmas.List.Folds.{list_any-append}
use Rattle.std.proofs.lemmas.List.Sums.{fold-append}
use Rattle.lk_layout.specs.Ranked.{first_lane, has_rank, is_below, lane_at, lane_moved, lane_opened, lane_offsets, rank_in, ranked_end, ranked_next, ranked_offset}
use Rattle.lk_layout.specs.Sorts.{AtLeast, Rises, IsSortOf}
use Rattle.lk_layout.specs.declared.ranks.Ranked.{Ranked}
use Rattle.lk_layout.proofs.ListSteps.{at_item}

eq_reports : (a b : ℕ) → nat_eq a b ≡ true → a ≡ b
eq_reports a b e = grind (arith, nat_tests)

eq_back : (a b : ℕ) (t : Bool) → nat_eq a b ≡ t → (b == a) ≡ t
eq_back a b t e = grind (arith, nat_tests)

not_below : (a b : ℕ) → a ≡ b → nat_lt b a ≡ false
not_below a b e = grind (arith, nat_tests, e)

is_less : (a b : ℕ) → b ≤ a → nat_eq a b ≡ false → nat_lt b a ≡ true
is_less a b le e = grind (arith, nat_tests, le)

-- an item with a rank is at or above the least
any_above : (least rank : ℕ) (rs : List Ranked) → AtLeast rank_in least rs → list_any (has_rank rank) rs ≡ true → least ≤ rank
any_above least rank [] h any = absurd (cc)
any_above least rank (r ∷ rs) h any = go (has_rank rank r) refl any (any_above least rank rs h.1)
  where
    go : (b : Bool) → has_rank rank r ≡ b → (b || list_any (has_rank rank) rs) ≡ true → (list_any (has_rank rank) rs ≡ true → least ≤ rank) → least ≤ rank
    go true e some rest = let first = h.0 in grind (arith, nat_tests, e, first)
    go false e some rest = rest some

-- the lane of a number, where one more piece is before the others
while_here : (cursor rank : ℕ) (x : Ranked) (rest : List Ranked) (b : Bool) → is_below rank x ≡ b → fold ranked_next cursor (take_while (is_below rank) (x ∷ rest)) ≡ cond b (fold ranked_next (ranked_next cursor x) (take_while (is_below rank) rest)) cursor
while_here cursor rank x rest true e = let one : 1 + prefix_len (is_below rank) rest ≡ suc (prefix_len (is_below rank) rest) = omega arith in rw e (rw one refl)
while_here cursor rank x rest false e = rw e refl

opened : (x : Ranked) (rest : List Ranked) (o : Option ℕ) (cursor rank : ℕ) → Rises rank_in (x ∷ rest) → option_or (lane_opened o x.rank cursor rank) (first_lane (ranked_next cursor x) rest rank) ≡ option_or o (first_lane cursor (x ∷ rest) rank)
opened x rest (Some c) cursor rank up = refl
opened x rest None cursor rank up = go (nat_eq rank x.rank) (list_any (has_rank rank) rest) refl refl
  where
    go : (b any : Bool) → nat_eq rank x.rank ≡ b → list_any (has_rank rank) rest ≡ any → option_or (cond b (Some cursor) None) (cond any (Some (fold ranked_next (ranked_next cursor x) (take_while (is_below rank) rest))) None) ≡ cond (has_rank rank x || any) (Some (fold ranked_next cursor (take_while (is_below rank) (x ∷ rest)))) None
    go true any e f =
        rw (eq_back rank x.rank true e) (ap Some (sym (while_here cursor rank x rest false (not_below rank x.rank (eq_reports rank x.rank e)))))
    go false false e f = rw (eq_back rank x.rank false e) refl
    go false true e f =
        rw (eq_back rank x.rank false e) (ap Some (sym (while_here cursor rank x rest true (is_less rank x.rank (any_above x.rank rank rest up.0 f) e))))

-- a piece for places past the end of a list
abbrev pub no_piece : Ranked
no_piece = record { rank = 0; size = 0; align = 0 }

pub lanes_open : (sorted : List Ranked) (i : ℕ) (d : Ranked) (old new : ℕ → Option ℕ) (cursor next : ℕ)
    → i < length sorted
    → Rises rank_in (drop i sorted)
    → ((r : ℕ) → new r ≡ lane_opened (old r) (get_or sorted i d).rank cursor r)
    → next ≡ ranked_next cursor (get_or sorted i d)
    → (rank : ℕ) → option_or (new rank) (first_lane next (drop (i + 1) sorted) rank) ≡ option_or (old rank) (first_lane cursor (drop i sorted) rank)
lanes_open sorted i d old new cursor next within up opens goes rank =
    let x = get_or sorted i d in
    let rest = drop (i + 1) sorted in
    let at : drop i sorted ≡ x ∷ rest = at_item sorted i d within in
    (λ j. option_or (opens rank j) (first_lane (goes j) rest rank))
    ∙ opened x rest (old rank) cursor rank (rw at at up)
    ∙ ap (λ (rs : List Ranked). option_or (old rank) (first_lane cursor rs rank)) (sym at)

pub rises_on : (sorted : List Ranked) (i : ℕ) (d : Ranked) → i < length sorted → Rises rank_in (drop i sorted) → Rises rank_in (drop (i + 1) sorted)
rises_on sorted i d within up = let more = rw (at_item sorted i d within) at up in more.1

pub ends_on : (sorted : List Ranked) (i : ℕ) (d : Ranked) (cursor next : ℕ) → i < length sorted → next ≡ ranked_next cursor (get_or sorted i d) → fold ranked_next next (drop (i + 1) sorted) ≡ fold ranked_next cursor (drop i sorted)
ends_on sorted i d cursor next within goes =
    ap (λ n. fold ranked_next n (drop (i + 1) sorted)) goes ∙ ap (fold ranked_next cursor) (sym (at_item sorted i d within))

-- ---- pieces in their own order

abbrev is_filled : {A : Type 0} → List A → Bool
is_filled [] = false
is_filled (x ∷ xs) = true

any_reported : {A : Type 0} (p : A → Bool) (xs : List A) → list_any p xs ≡ is_filled (filter p xs)
any_reported p [] = refl
any_reported {A} p (x ∷ xs) = go (p x) (any_reported p xs)
  where
    go : (b : Bool) → list_any p xs ≡ is_filled (filter p xs) → (b || list_any p xs) ≡ is_filled (cond b (x ∷ filter p xs) (filter p xs))
    go true rest = refl
    go false rest = rest

-- the number of a piece is among the sorted ones
any_sorted : (ranked sorted : List Ranked) (rank : ℕ) → IsSortOf rank_in ranked sorted → list_any (has_rank rank) ranked ≡ true → list_any (has_rank rank) sorted ≡ true
any_sorted ranked sorted rank s any = any_reported (has_rank rank) sorted ∙ ap is_filled (s.stays rank) ∙ sym (any_reported (has_rank rank) ranked) ∙ any

own_rank : (x : Ranked) → has_rank x.rank x ≡ true
own_rank x = grind (arith, nat_tests)

any_at : (before : List Ranked) (x : Ranked) (rest : List Ranked) → list_any (has_rank x.rank) (before ++ x ∷ rest) ≡ true
any_at before x rest = list_any-append (has_rank x.rank) before (x ∷ rest) ∙ go (list_any (has_rank x.rank) before)
  where
    go : (b : Bool) → (b || list_any (has_rank x.rank) (x ∷ rest)) ≡ true
    go true = refl
    go false = rw (own_rank x) refl

-- where the next piece of a number is
abbrev cursor_at : List Ranked → List Ranked → ℕ → ℕ
cursor_at sorted earlier rank = ranked_end (take_while (is_below rank) sorted ++ filter (has_rank rank) earlier)

own_lane : (ranked sorted before rest : List Ranked) (x : Ranked) → IsSortOf rank_in ranked sorted → ranked ≡ before ++ x ∷ rest → lane_at sorted before x.rank ≡ Some (cursor_at sorted before x.rank)
own_lane ranked sorted before rest x s whole =
    ap (λ b. cond b (Some (cursor_at sorted before x.rank)) None) (any_sorted ranked sorted x.rank s (ap (list_any (has_rank x.rank)) whole ∙ any_at before x rest))

moved_on : (sorted before : List Ranked) (x : Ranked) → cursor_at sorted (before ++ x ∷ []) x.rank ≡ ranked_next (cursor_at sorted before x.rank) x
moved_on sorted before x =
    let below = take_while (is_below x.rank) sorted in
    ap (λ (rs : List Ranked). ranked_end (below ++ rs)) (filter-append (has_rank x.rank) before (x ∷ []) ∙ ap (λ b. filter (has_rank x.rank) before ++ cond b (x ∷ []) []) (own_rank x))
    ∙ ap ranked_end (sym (append_assoc below (filter (has_rank x.rank) before) (x ∷ [])))
    ∙ fold-append ranked_next 0 (below ++ filter (has_rank x.rank) before) (x ∷ [])

-- one more piece moves the lane of its number, and no other
lane_with : (ranked sorted before rest : List Ranked) (x : Ranked) (r : ℕ) → IsSortOf rank_in ranked sorted → ranked ≡ before ++ x ∷ rest → lane_moved (lane_at sorted before x.rank) (lane_at sorted before r) x r ≡ lane_at sorted (before ++ x ∷ []) r
lane_with ranked sorted before rest x r s whole = go (nat_eq r x.rank) refl
  where
    go : (b : Bool) → nat_eq r x.rank ≡ b → cond b (Some (ranked_next (unwrap_or (lane_at sorted before x.rank) 0) x)) (lane_at sorted before r) ≡ lane_at sorted (before ++ x ∷ []) r
    go true e =
        let own : r ≡ x.rank = eq_reports r x.rank e in
        let any = any_sorted ranked sorted x.rank s (ap (list_any (has_rank x.rank)) whole ∙ any_at before x rest) in
        ap (λ (o : Option ℕ). Some (ranked_next (unwrap_or o 0) x)) (own_lane ranked sorted before rest x s whole)
        ∙ ap Some (sym (moved_on sorted before x))
        ∙ ap (λ b. cond b (Some (cursor_at sorted (before ++ x ∷ []) x.rank)) None) (sym any)
        ∙ ap (lane_at sorted (before ++ x ∷ [])) (sym own)
    go false e =
        let same : filter (has_rank r) (before ++ x ∷ []) ≡ filter (has_rank r) before =
        filter-append (has_rank r) before (x ∷ []) ∙ ap (λ b. filter (has_rank r) before ++ cond b (x ∷ []) []) (eq_back r x.rank false e) ∙ append-nil (filter (has_rank r) before) in
        ap (λ (rs : List Ranked). cond (list_any (has_rank r) sorted) (Some (ranked_end (take_while (is_below r) sorted ++ rs))) None) (sym same)

-- the lanes and the offsets after one more piece of a loop
pub record LanesGoOn (ranked sorted : List Ranked) (i : ℕ) (offsets : List ℕ) (new : ℕ → Option ℕ) : Type 0 where
  pub lanes : (r : ℕ) → new r ≡ lane_at sorted (take (i + 1) ranked) r
  pub offsets_are : offsets ++ lane_offsets sorted (take (i + 1) ranked) (drop (i + 1) ranked) ≡ lane_offsets sorted [] ranked

pub lanes_go_on : (ranked sorted : List Ranked) (i : ℕ) (d : Ranked) (offsets more : List ℕ) (old new : ℕ → Option ℕ) (at : ℕ)
    → i < length ranked
    → IsSortOf rank_in ranked sorted
    → ((r : ℕ) → old r ≡ lane_at sorted (take i ranked) r)
    → offsets ++ lane_offsets sorted (take i ranked) (drop i ranked) ≡ lane_offsets sorted [] ranked
    → at ≡ ranked_offset (unwrap_or (old (get_or ranked i d).rank) 0) (get_or ranked i d)
    → ((r : ℕ) → new r ≡ lane_moved (old (get_or ranked i d).rank) (old r) (get_or ranked i d) r)
    → more ≡ offsets ++ at ∷ []
    → LanesGoOn ranked sorted i more new
lanes_go_on ranked sorted i d offsets more old new at within s lanes reported here moved pushed =
    let x = get_or ranked i d in
    let before = take i ranked in
    let rest = drop (i + 1) ranked in
    let whole : ranked ≡ before ++ x ∷ rest = sym (take-append-drop i ranked) ∙ ap (λ (rs : List Ranked). before ++ rs) (at_item ranked i d within) in
    let place : at ≡ ranked_offset (cursor_at sorted before x.rank) x = here ∙ ap (λ (o : Option ℕ). ranked_offset (unwrap_or o 0) x) (lanes x.rank ∙ own_lane ranked sorted before rest x s whole) in
    let next : take (i + 1) ranked ≡ before ++ x ∷ [] = take_more ranked i d within in
    record {
      lanes = λ r. moved r ∙ (λ j. lane_moved (lanes x.rank j) (lanes r j) x r) ∙ lane_with ranked sorted before rest x r s whole ∙ ap (λ (rs : List Ranked). lane_at sorted rs r) (sym next);
      offsets_are =
          (λ j. pushed j ++ lane_offsets sorted (next j) rest)
          ∙ append_assoc offsets (at ∷ []) (lane_offsets sorted (before ++ x ∷ []) rest)
          ∙ ap (λ n. offsets ++ n ∷ lane_offsets sorted (before ++ x ∷ []) rest) place
          ∙ ap (λ (rs : List Ranked). offsets ++ lane_offsets sorted before rs) (sym (at_item ranked i d within))
          ∙ reported;
    }

-- at first each lane is where its first piece is
pub first_lanes : (sorted : List Ranked) (r : ℕ) → first_lane 0 sorted r ≡ lane_at sorted [] r
first_lanes sorted r = ap (λ (rs : List Ranked). cond (list_any (has_rank r) sorted) (Some (ranked_end rs)) None) (sym (append-nil (take_while (is_below r) sorted)))
