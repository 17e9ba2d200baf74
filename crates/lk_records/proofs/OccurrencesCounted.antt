-- A map counts how often each path came, which gives for each input how many before it have its path.
use Rattle.std.proofs.Common.{◌≡◌, refl, sym, ap, ◌∙◌, ℕ, suc, ◌+◌, ◌<◌, ◌≤◌, add-one, Bool, true, false, cond, if◌then◌else◌, List, [], ◌∷◌, ◌++◌, append-nil, append_assoc, filter, get_or, drop, drop-cons, length, map, Option, Some, filter_map}
use Rattle.std.proofs.lemmas.List.{drop_all}
use Rattle.std.proofs.lemmas.Slice.Eq.{bytes_eq-Decides}
use Rattle.std.specs.Borrow.{Bor}
use Rattle.std.specs.Cmp.Lexicographic.{nat_list_eq_equiv}
use Rattle.std.specs.Map.{lookup}
use Rattle.std.specs.Option.{unwrap_or}
use Rattle.std.specs.Str.{bytes_eq}
use Rattle.indexmap.specs.IndexMap.{insert_entry}
use Rattle.lk_model.specs.Inputs.{FoundInput, count_of, found_in, input_words, inputs_after, inputs_of}
use Rattle.lk_model.specs.Resolving.{paths_of}
use Rattle.lk_model.specs.declared.input_names.InputName.{InputName}
use Rattle.lk_records.specs.Occurrences.{CommandsAreCounted, PathNoted, count_under, occurrence_of, occurrences_after, occurrences_by, name_path, with_path}

-- ---- one path

reported : (p q : List ℕ) → bytes_eq p q ≡ true → p ≡ q
reported p q h = (bytes_eq-Decides p q).0 h

found_here : (b k : Bool) (n v : ℕ) (rest : Option ℕ) → k ≡ b → unwrap_or (cond b (Some n) rest) 0 ≡ cond k n (unwrap_or (cond b (Some v) rest) 0)
found_here true k n v rest e = sym (ap (λ c. cond c n v) e)
found_here false k n v rest e = sym (ap (λ c. cond c n (unwrap_or rest 0)) e)

found_later : (b k : Bool) (n v : ℕ) (rest new : Option ℕ) → (b ≡ true → k ≡ false) → unwrap_or new 0 ≡ cond k n (unwrap_or rest 0)
    → unwrap_or (cond b (Some v) new) 0 ≡ cond k n (unwrap_or (cond b (Some v) rest) 0)
found_later true k n v rest new apart later = sym (ap (λ c. cond c n v) (apart refl))
found_later false k n v rest new apart later = later

found_last : (k : Bool) (n : ℕ) (rest : Option ℕ) → unwrap_or (cond k (Some n) rest) 0 ≡ cond k n (unwrap_or rest 0)
found_last true n rest = refl
found_last false n rest = refl

inserted : (es : List (Bor (List ℕ) × ℕ)) (key : Bor (List ℕ)) (n : ℕ) (other : List ℕ)
    → count_under (insert_entry (λ (x y : Bor (List ℕ)). bytes_eq x.now y.now) es key n) other ≡ cond (bytes_eq other key.now) n (count_under es other)
inserted [] key n other = found_last (bytes_eq other key.now) n (lookup (λ (k : Bor (List ℕ)). bytes_eq other k.now) [])
inserted (e ∷ es) key n other = by (bytes_eq key.now e.0.now) refl (inserted es key n other)
  where
    by : (b : Bool) → bytes_eq key.now e.0.now ≡ b → count_under (insert_entry (λ (x y : Bor (List ℕ)). bytes_eq x.now y.now) es key n) other ≡ cond (bytes_eq other key.now) n (count_under es other)
        → count_under (cond b ((e.0, n) ∷ es) (e ∷ (insert_entry (λ (x y : Bor (List ℕ)). bytes_eq x.now y.now) es key n))) other ≡ cond (bytes_eq other key.now) n (count_under (e ∷ es) other)
    by true h later =
        found_here (bytes_eq other e.0.now) (bytes_eq other key.now) n e.1 (lookup (λ (k : Bor (List ℕ)). bytes_eq other k.now) es) (ap (λ p. bytes_eq other p) (reported key.now e.0.now h))
    by false h later =
        found_later (bytes_eq other e.0.now) (bytes_eq other key.now) n e.1 (lookup (λ (k : Bor (List ℕ)). bytes_eq other k.now) es)
        (lookup (λ (k : Bor (List ℕ)). bytes_eq other k.now) (insert_entry (λ (x y : Bor (List ℕ)). bytes_eq x.now y.now) es key n))
        (λ same. ap (λ p. bytes_eq p key.now) (reported other e.0.now same) ∙ nat_list_eq_equiv.symm e.0.now key.now ∙ h) later

pub noted : (es new : List (Bor (List ℕ) × ℕ)) (key : Bor (List ℕ)) (before now : ℕ) → before ≡ count_under es key.now → now ≡ before + 1
    → new ≡ insert_entry (λ (x y : Bor (List ℕ)). bytes_eq x.now y.now) es key now → PathNoted es key.now before new
noted es new key before now had next put =
    (had, λ other. ap (λ l. count_under l other) put ∙ inserted es key now other ∙ grown other (bytes_eq other key.now) refl)
  where
    grown : (other : List ℕ) (b : Bool) → bytes_eq other key.now ≡ b → cond b now (count_under es other) ≡ (if b then count_under es other + 1 else count_under es other)
    grown other true e = next ∙ ap (λ n. n + 1) (had ∙ ap (count_under es) (sym (reported other key.now e)))
    grown other false e = refl

-- ---- path after path

pub one_more : (es after : List (Bor (List ℕ) × ℕ)) (done new all : List ℕ) (count i : ℕ) (names : List InputName) (name : InputName) (path : List ℕ)
    → i < length names → name ≡ get_or names i name → path ≡ name.path → PathNoted es path count after → new ≡ done ++ count ∷ []
    → done ++ occurrences_by (count_under es) (map name_path (drop i names)) ≡ all
    → new ++ occurrences_by (count_under after) (map name_path (drop (i + 1) names)) ≡ all
one_more es after done new all count i names name path within is named noted pushed so_far =
    ap (λ (l : List ℕ). l ++ occurrences_by (count_under after) (map name_path (drop (i + 1) names))) pushed
    ∙ append_assoc done (count ∷ []) (occurrences_by (count_under after) (map name_path (drop (i + 1) names)))
    ∙ (λ j. done ++ noted.0 j ∷ occurrences_by (λ other. noted.1 other j) (map name_path (drop (add-one i j) names)))
    ∙ ap (λ p. done ++ occurrences_by (count_under es) (p ∷ map name_path (drop (suc i) names))) (named ∙ ap name_path is)
    ∙ ap (λ (fs : List InputName). done ++ occurrences_by (count_under es) (map name_path fs)) (sym (drop-cons names i name within))
    ∙ so_far

-- counts that are those of the earlier paths
counts_reported : (counts : List ℕ → ℕ) (earlier paths : List (List ℕ)) → ((path : List ℕ) → counts path ≡ count_of path earlier) → occurrences_by counts paths ≡ occurrences_after earlier paths
counts_reported counts earlier [] h = refl
counts_reported counts earlier (path ∷ paths) h =
    λ i. h path i ∷ counts_reported (with_path counts path) (path ∷ earlier) paths (λ other. more other (bytes_eq other path) (h other)) i
  where
    more : (other : List ℕ) (b : Bool) → counts other ≡ count_of other earlier
        → (if b then counts other + 1 else counts other) ≡ length (cond b (path ∷ filter (bytes_eq other) earlier) (filter (bytes_eq other) earlier))
    more other true e = ap (λ n. n + 1) e ∙ add-one (count_of other earlier)
    more other false e = e

-- the occurrences of all paths, once each was noted
pub all_counted : (es : List (Bor (List ℕ) × ℕ)) (done : List ℕ) (i : ℕ) (names : List InputName) → length names ≤ i
    → done ++ occurrences_by (count_under es) (map name_path (drop i names)) ≡ occurrences_by (λ path. 0) (map name_path names) → done ≡ occurrences_after [] (map name_path names)
all_counted es done i names all so_far =
    sym (append-nil done)
    ∙ ap (λ (fs : List InputName). done ++ occurrences_by (count_under es) (map name_path fs)) (sym (drop_all i names all))
    ∙ so_far
    ∙ counts_reported (λ path. 0) [] (map name_path names) (λ path. refl)

-- ---- the inputs of a command

counted_after : (earlier : List (List ℕ)) (founds : List FoundInput) → map occurrence_of (inputs_after earlier founds) ≡ occurrences_after earlier (paths_of (inputs_after earlier founds))
unfolding inputs_after
counted_after earlier [] = refl
counted_after earlier (found ∷ founds) = ap (λ ns. count_of found.path earlier ∷ ns) (counted_after (found.path ∷ earlier) founds)

pub commands_are_counted : CommandsAreCounted
unfolding inputs_of
commands_are_counted command files = counted_after [] (filter_map (found_in command files) (input_words command))
