-- Lists with their numbers, row after row.
use Rattle.std.specs.Prelude.{◌≡◌, ℕ, ◌+◌, ◌<◌, ◌≤◌, List, [], ◌∷◌, length, drop}
use Rattle.std.specs.List.{enumerate_from}
use Rattle.std.proofs.Common.{sym, ◌∙◌, ap, get_or, drop-cons, add-one}
use Rattle.std.proofs.lemmas.List.{drop_all}

-- the next row
pub rows_next : {X : Type 0} (k : ℕ) (xs : List X) (d : X) → k < length xs → enumerate_from k (drop k xs) ≡ (k, get_or xs k d) ∷ enumerate_from (k + 1) (drop (k + 1) xs)
rows_next k xs d l =
    ap (enumerate_from k) (drop-cons xs k d l)
    ∙ ap (λ n. (k, get_or xs k d) ∷ enumerate_from (k + 1) (drop n xs)) (sym (add-one k))

-- no row is left
pub rows_done : {X : Type 0} (k : ℕ) (xs : List X) → length xs ≤ k → enumerate_from k (drop k xs) ≡ []
rows_done k xs l = ap (enumerate_from k) (drop_all k xs l)
