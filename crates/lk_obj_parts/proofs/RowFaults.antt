-- The first fault of sections, one after another, by any checks.
use Rattle.std.specs.Prelude.{◌≡◌, refl, ℕ, suc, ◌+◌, ◌==◌, ◌<◌, ◌≤◌, Bool, true, false, List, [], ◌∷◌, ◌++◌, cond, drop, filter, flat_map, length, Option, Some, None}
use Rattle.std.specs.List.{enumerate_from}
use Rattle.std.proofs.Common.{ap, ◌∙◌, sym, get_or, drop-cons, add-one, arith}
use Rattle.std.proofs.lemmas.List.{drop_all}
use Rattle.lk_elf.specs.Numbers.{sht_rela}
use Rattle.lk_elf.specs.declared.section_header.Shdr.{Shdr}
use Rattle.lk_report.specs.declared.faults.InputFault.{InputFault}
use Rattle.lk_model.specs.Checks.{first_fault}
use Rattle.lk_model.specs.Elf.{numbered}
use Rattle.lk_model.specs.ObjectChecks.{rela_section_checks, rela_sections}
use Rattle.lk_model.specs.Views.{Elf}
use Rattle.lk_obj_parts.specs.RelocationParts.{rela_row_checks, rows_fault}

-- the fault of two lists of checks is that of the first, or else that of the second
abbrev pub or_else : Option InputFault → Option InputFault → Option InputFault
or_else (Some f) other = Some f
or_else None other = other

pub fault_joined : (xs ys : List (Bool × InputFault)) → first_fault (xs ++ ys) ≡ or_else (first_fault xs) (first_fault ys)
fault_joined [] ys = refl
fault_joined ((true, g) ∷ xs) ys = refl
fault_joined ((false, g) ∷ xs) ys = fault_joined xs ys

step : {X : Type 0} (checks : ℕ × X → List (Bool × InputFault)) (i : ℕ) (rows : List X) (d : X) → i < length rows → rows_fault checks i (drop i rows) ≡ or_else (first_fault (checks (i, get_or rows i d))) (rows_fault checks (i + 1) (drop (i + 1) rows))
step checks i rows d l =
    ap (rows_fault checks i) (drop-cons rows i d l)
    ∙ fault_joined (checks (i, get_or rows i d)) (flat_map checks (enumerate_from (i + 1) (drop (suc i) rows)))
    ∙ ap (λ n. or_else (first_fault (checks (i, get_or rows i d))) (rows_fault checks (i + 1) (drop n rows))) (sym (add-one i))

pub row_here : {X : Type 0} (checks : ℕ × X → List (Bool × InputFault)) (i : ℕ) (rows : List X) (d : X) (f : InputFault) → i < length rows → first_fault (checks (i, get_or rows i d)) ≡ Some f → rows_fault checks i (drop i rows) ≡ Some f
row_here checks i rows d f l e =
    step checks i rows d l ∙ ap (λ (o : Option InputFault). or_else o (rows_fault checks (i + 1) (drop (i + 1) rows))) e

pub no_row_here : {X : Type 0} (checks : ℕ × X → List (Bool × InputFault)) (i : ℕ) (rows : List X) (d : X) → i < length rows → first_fault (checks (i, get_or rows i d)) ≡ None → rows_fault checks i (drop i rows) ≡ rows_fault checks (i + 1) (drop (i + 1) rows)
no_row_here checks i rows d l e =
    step checks i rows d l ∙ ap (λ (o : Option InputFault). or_else o (rows_fault checks (i + 1) (drop (i + 1) rows))) e

pub no_row_left : {X : Type 0} (checks : ℕ × X → List (Bool × InputFault)) (i : ℕ) (rows : List X) → length rows ≤ i → rows_fault checks i (drop i rows) ≡ None
no_row_left checks i rows l = ap (rows_fault checks i) (drop_all i rows l)

chosen-step : {X Y : Type 0} (f : X → List Y) (x : X) (b : Bool) (xs : List X) (ys : List Y) → flat_map f xs ≡ ys → flat_map f (cond b (x ∷ xs) xs) ≡ cond b (f x) [] ++ ys
chosen-step f x true xs ys e = ap (λ t. f x ++ t) e
chosen-step f x false xs ys e = e

-- the checks of those that pass a test are those of all, where the others have none
pub of_chosen : {X Y : Type 0} (p : X → Bool) (f : X → List Y) (xs : List X) → flat_map f (filter p xs) ≡ flat_map (λ x. cond (p x) (f x) []) xs
of_chosen p f [] = refl
of_chosen p f (x ∷ xs) = chosen-step f x (p x) (filter p xs) (flat_map (λ y. cond (p y) (f y) []) xs) (of_chosen p f xs)

-- the checks of the sections of relocations, section after section
pub rela_rows : (elf : Elf) → rows_fault (rela_row_checks elf) 1 (drop 1 elf.sections) ≡ first_fault (flat_map (rela_section_checks elf) (rela_sections elf))
rela_rows elf =
    ap first_fault (sym (of_chosen (λ (row : ℕ × Shdr). row.1.sh_type == sht_rela) (rela_section_checks elf) (numbered elf.sections)))

-- two lists whose rows have the same faults, one by one
pub same_rows : {X Y : Type 0} (f : ℕ × X → List (Bool × InputFault)) (g : ℕ × Y → List (Bool × InputFault)) (d : X) (e : Y) (n : ℕ) (xs : List X) (ys : List Y) → length xs ≡ length ys → ((i k : ℕ) → k ≡ n + i → i < length xs → first_fault (f (k, get_or xs i d)) ≡ first_fault (g (k, get_or ys i e))) → rows_fault f n xs ≡ rows_fault g n ys
same_rows f g d e n [] [] l h = refl
same_rows f g d e n [] (y ∷ ys) l h = absurd (omega (arith, l))
same_rows f g d e n (x ∷ xs) [] l h = absurd (omega (arith, l))
same_rows f g d e n (x ∷ xs) (y ∷ ys) l h =
    let here : first_fault (f (n, x)) ≡ first_fault (g (n, y)) = h 0 n (omega arith) (omega arith) in
    let shorter : length xs ≡ length ys = omega (arith, l) in
    fault_joined (f (n, x)) (flat_map f (enumerate_from (n + 1) xs))
    ∙ ap (λ (o : Option InputFault). or_else o (rows_fault f (n + 1) xs)) here
    ∙ ap (or_else (first_fault (g (n, y)))) (same_rows f g d e (n + 1) xs ys shorter (λ i k s t. h (suc i) k (omega (arith, s)) (omega (arith, t))))
    ∙ sym (fault_joined (g (n, y)) (flat_map g (enumerate_from (n + 1) ys)))
