-- The sections of relocations on each piece, gathered in one pass.
use Rattle.std.specs.Prelude.{◌≡◌, refl, ℕ, zero, suc, ◌+◌, ◌==◌, ◌<◌, ◌≤◌, Bool, true, false, ◌&&◌, cond, List, [], ◌∷◌, ◌++◌, drop, filter, length, replicate, slice_index_or}
use Rattle.std.proofs.Common.{sym, ◌∙◌, ap, get_or, drop-cons, add-one, append_assoc}
use Rattle.std.proofs.lemmas.List.{drop_all, append-nil}
use Rattle.lk_elf.specs.Numbers.{sht_rela}
use Rattle.lk_elf.specs.declared.section_header.Shdr.{Shdr}
use Rattle.lk_model.specs.Elf.{numbered}
use Rattle.lk_model.specs.Objects.{is_piece_in}
use Rattle.lk_model.specs.Views.{Elf}
use Rattle.lk_obj_parts.specs.TargetRows.{is_marked_row, marked_rows_on, piece_rows, rows_on, with_row}

put : (on : Bool) (rows rest : List (ℕ × Shdr)) (row : ℕ × Shdr) → with_row on rows row ++ rest ≡ rows ++ cond on (row ∷ rest) rest
put true rows rest row = append_assoc rows (row ∷ []) rest
put false rows rest row = refl

-- one section more
pub row_put : (elf : Elf) (rise : Bool) (t i : ℕ) (headers : List Shdr) (rows new : List (ℕ × Shdr)) (d : Shdr) → i < length headers → new ≡ with_row (is_marked_row elf rise t (i, get_or headers i d)) rows (i, get_or headers i d) → new ++ marked_rows_on elf rise t (i + 1) (drop (i + 1) headers) ≡ rows ++ marked_rows_on elf rise t i (drop i headers)
row_put elf rise t i headers rows new d l e =
    ap (λ r. r ++ marked_rows_on elf rise t (i + 1) (drop (i + 1) headers)) e
    ∙ put (is_marked_row elf rise t (i, get_or headers i d)) rows (marked_rows_on elf rise t (i + 1) (drop (i + 1) headers)) (i, get_or headers i d)
    ∙ ap (λ n. rows ++ marked_rows_on elf rise t i (get_or headers i d ∷ drop n headers)) (add-one i)
    ∙ ap (λ hs. rows ++ marked_rows_on elf rise t i hs) (sym (drop-cons headers i d l))

pub all_put : (elf : Elf) (rise : Bool) (t i : ℕ) (headers : List Shdr) (rows : List (ℕ × Shdr)) → length headers ≤ i → rows ++ marked_rows_on elf rise t i (drop i headers) ≡ rows
all_put elf rise t i headers rows l = ap (λ hs. rows ++ marked_rows_on elf rise t i hs) (drop_all i headers l) ∙ append-nil rows

pub and-right : (a b : Bool) → (a && b) ≡ cond b a false
and-right true true = refl
and-right true false = refl
and-right false true = refl
and-right false false = refl

filter-none : {X : Type 0} (xs : List X) → filter (λ x. false) xs ≡ []
filter-none [] = refl
filter-none (x ∷ xs) = filter-none xs

filter-step : {X : Type 0} (t u : Bool) (x : X) (xs ys : List X) → t ≡ u → xs ≡ ys → cond t (x ∷ xs) xs ≡ cond u (x ∷ ys) ys
filter-step t u x xs ys e f = ap (λ b. cond b (x ∷ xs) xs) e ∙ ap (λ zs. cond u (x ∷ zs) zs) f

pub filter-same : {X : Type 0} (p q : X → Bool) → ((x : X) → p x ≡ q x) → (xs : List X) → filter p xs ≡ filter q xs
filter-same p q h [] = refl
filter-same p q h (x ∷ xs) = filter-step (p x) (q x) x (filter p xs) (filter q xs) (h x) (filter-same p q h xs)

filter-both : {X : Type 0} (p : X → Bool) (b : Bool) (xs : List X) → filter (λ x. p x && b) xs ≡ cond b (filter p xs) []
filter-both p true xs = filter-same (λ x. p x && true) p (λ x. and-right (p x) true) xs
filter-both p false xs = filter-same (λ x. p x && false) (λ x. false) (λ x. and-right (p x) false) xs ∙ filter-none xs

pub rows_reported : (elf : Elf) (t : ℕ) → rows_on elf t 1 (drop 1 elf.sections) ≡ piece_rows elf t
rows_reported elf t = filter-both (λ (row : ℕ × Shdr). row.1.sh_type == sht_rela && row.1.sh_info == t) (is_piece_in elf t) (numbered elf.sections)

-- ---- the empty lists

last : (n : ℕ) → replicate {A = List (ℕ × Shdr)} (suc n) [] ≡ replicate n [] ++ [] ∷ []
last zero = refl
last (suc n) = ap (λ (rest : List (List (ℕ × Shdr))). [] ∷ rest) (last n)

pub empty_more : (n : ℕ) → replicate {A = List (ℕ × Shdr)} (n + 1) [] ≡ replicate n [] ++ [] ∷ []
empty_more n = ap (λ k. replicate {A = List (ℕ × Shdr)} k []) (add-one n) ∙ last n

pub none_yet : (n t : ℕ) → ◌≡◌ {A = List (ℕ × Shdr)} (slice_index_or (replicate n []) t []) []
none_yet zero t = refl
none_yet (suc n) zero = refl
none_yet (suc n) (suc t) = none_yet n t
