-- A range apart from every hole has no free byte.
use Rattle.std.proofs.Common.{◌≡◌, ℕ, Bool, true, false, ◌||◌, ◌+◌, ◌<◌, ◌≤◌, List, [], ◌∷◌, refl, ap, ◌∙◌, arith, nat_le}
use Rattle.std.specs.List.{list_all}
use Rattle.std.proofs.lemmas.Bool.Decides.{nat_tests}
use Rattle.lk_model.specs.declared.layouts.Hole.{Hole}
use Rattle.lk_freelist.proofs.TwoTests.{and_first, and_second}
use Rattle.lk_freelist.specs.FreeBytes.{NoneFree, end_of, is_free, is_in}

-- a hole and a range apart from it
abbrev pub lies_apart : ℕ → ℕ → Hole → Bool
lies_apart start size hole = nat_le (end_of hole) start || nat_le (start + size) hole.start

apart_here : (start size byte : ℕ) (h : Hole) → lies_apart start size h ≡ true → start ≤ byte → byte < start + size → is_in h.start h.length byte ≡ false
apart_here start size byte h apart above below = grind (arith, nat_tests)

pub none_of_apart : (holes : List Hole) (start size : ℕ) → list_all (lies_apart start size) holes ≡ true → NoneFree holes start size
none_of_apart [] start size apart byte above below = refl
none_of_apart (h ∷ hs) start size apart byte above below =
    let here = and_first (lies_apart start size h) (list_all (lies_apart start size) hs) apart in
    let later = and_second (lies_apart start size h) (list_all (lies_apart start size) hs) apart in
    ap (λ b. b || is_free hs byte) (apart_here start size byte h here above below) ∙ none_of_apart hs start size later byte above below
