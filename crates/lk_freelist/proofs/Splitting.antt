-- A hole is replaced by what is left of it.
use Rattle.std.proofs.Common.{◌≡◌, ℕ, zero, suc, ◌+◌, ◌-◌, ◌<◌, ◌≤◌, List, [], ◌∷◌, ◌++◌, length, take, drop, refl, sym, ap, ◌∙◌, arith, add-one, min, max, append_assoc}
use Rattle.std.proofs.Math.ListN.{set}
use Rattle.std.proofs.lemmas.Bool.Decides.{nat_tests}
use Rattle.lk_model.specs.Holes.{hole_between, without_one}
use Rattle.lk_model.specs.declared.layouts.Hole.{Hole}
use Rattle.lk_freelist.proofs.Searching.{is_within}

-- a list with another item at a number
pub replaced : (xs : List Hole) (i : ℕ) (y : Hole) → i < length xs → set xs i y ≡ take i xs ++ (y ∷ drop (suc i) xs)
replaced [] i y within = absurd (omega arith)
replaced (x ∷ xs) zero y within = refl
replaced (x ∷ xs) (suc i) y within = ap (λ ys. x ∷ ys) (replaced xs i y (omega arith))

-- the bytes between two places
pub between_some : (start end : ℕ) → start < end → hole_between start end ≡ record { start = start; length = end - start } ∷ []
between_some start end some = grind (arith, nat_tests)

pub between_none : (start end : ℕ) → end ≤ start → hole_between start end ≡ []
between_none start end none = grind (arith, nat_tests)

-- what is left of a hole that has all the bytes: the holes before and behind them
pub left_of : (at size : ℕ) (hole : Hole) → hole.start ≤ at → at + size ≤ hole.start + hole.length → without_one at size hole ≡ hole_between hole.start at ++ hole_between (at + size) (hole.start + hole.length)
left_of at size hole above inside =
    let first : min at (hole.start + hole.length) ≡ at = omega arith in
    let last : max hole.start (at + size) ≡ at + size = omega arith in
    ap (λ k. hole_between hole.start k ++ hole_between (max hole.start (at + size)) (hole.start + hole.length)) first
    ∙ ap (λ k. hole_between hole.start at ++ hole_between k (hole.start + hole.length)) last

-- the hole at a number of the list has the bytes that are taken
pub record HasBytes (xs : List Hole) (i : ℕ) (hole : Hole) (at size : ℕ) : Type 0 where
  pub is_at : drop i xs ≡ hole ∷ drop (i + 1) xs
  pub above : hole.start ≤ at
  pub inside : at + size ≤ hole.start + hole.length

-- what is left, by the holes before and behind
in_parts :
    {xs : List Hole} {i : ℕ} {hole : Hole} {at size : ℕ} (before behind : List Hole)
    → HasBytes xs i hole at size
    → hole_between hole.start at ≡ before
    → hole_between (at + size) (hole.start + hole.length) ≡ behind
    → take i xs ++ without_one at size hole ++ drop (i + 1) xs ≡ take i xs ++ (before ++ (behind ++ drop (i + 1) xs))
in_parts {xs} {i} {hole} {at} {size} before behind has first last =
    ap (λ ys. take i xs ++ ys ++ drop (i + 1) xs) (left_of at size hole has.above has.inside ∙ ap (λ ys. ys ++ hole_between (at + size) (hole.start + hole.length)) first ∙ ap (λ ys. before ++ ys) last)
    ∙ append_assoc (take i xs) (before ++ behind) (drop (i + 1) xs)
    ∙ ap (λ ys. take i xs ++ ys) (append_assoc before behind (drop (i + 1) xs))

-- bytes are left before
pub left_before :
    (xs : List Hole) (i : ℕ) (hole : Hole) (at size : ℕ)
    → HasBytes xs i hole at size
    → 0 < at - hole.start
    → hole.start + hole.length - (at + size) ≡ 0
    → set xs i (record { start = hole.start; length = at - hole.start }) ≡ take i xs ++ without_one at size hole ++ drop (i + 1) xs
left_before xs i hole at size has before behind =
    let part : Hole = record { start = hole.start; length = at - hole.start } in
    replaced xs i part (is_within xs i hole has.is_at)
    ∙ ap (λ k. take i xs ++ (part ∷ drop k xs)) (sym (add-one i))
    ∙ sym (in_parts (part ∷ []) [] has (between_some hole.start at (omega arith)) (between_none (at + size) (hole.start + hole.length) (omega arith)))

-- bytes are left behind
pub left_behind :
    (xs : List Hole) (i : ℕ) (hole : Hole) (at size : ℕ)
    → HasBytes xs i hole at size
    → at - hole.start ≡ 0
    → 0 < hole.start + hole.length - (at + size)
    → set xs i (record { start = at + size; length = hole.start + hole.length - (at + size) }) ≡ take i xs ++ without_one at size hole ++ drop (i + 1) xs
left_behind xs i hole at size has before behind =
    let part : Hole = record { start = at + size; length = hole.start + hole.length - (at + size) } in
    replaced xs i part (is_within xs i hole has.is_at)
    ∙ ap (λ k. take i xs ++ (part ∷ drop k xs)) (sym (add-one i))
    ∙ sym (in_parts [] (part ∷ []) has (between_none hole.start at (omega arith)) (between_some (at + size) (hole.start + hole.length) (omega arith)))
