-- The holes of a section share no byte with one another, nor with what covers the section, and lie in its
-- room.
use Rattle.std.specs.Prelude.{◌≡◌, ℕ, Bool, true, false, IsTrue, List, [], ◌∷◌, ◌+◌, ◌-◌, ◌<◌, ◌≤◌, ◌==◌, Some, nat_lt, max, min, flat_map, fold, refl}
use Rattle.std.specs.List.{AllByRecursion, slice_get}
use Rattle.std.proofs.Common.{ap, arith, subst, sym}
use Rattle.std.proofs.lemmas.Bool.{eqb-true, ltb-true}
use Rattle.lk_model.specs.Holes.{covered, hole_between, holes_in, holes_of, without, without_one}
use Rattle.lk_model.specs.Lawful.{Pairs, share_nothing}
use Rattle.lk_model.specs.declared.layouts.Hole.{Hole}
use Rattle.lk_model.specs.declared.layouts.Placement.{Placement}
use Rattle.lk_model.specs.declared.layouts.SectionRow.{SectionRow}
use Rattle.lk_model.proofs.Rising.{all_map}
use Rattle.lk_law_placement.proofs.DistinctLists.{all_always, all_joined}
use Rattle.lk_law_loading.proofs.PairsInOrder.{pairs_joined, pairs_map}
use Rattle.lk_law_writes.proofs.PairsOfLists.{all_flat, pairs_flat}
use Rattle.lk_law_writes.proofs.SpansApart.{above_apart, below_apart, nothing_apart, smaller_apart, turned_apart}

-- two holes share no byte
abbrev pub HolesApart : Hole → Hole → Type 0
HolesApart a b = IsTrue (share_nothing a.start a.length b.start b.length)

-- a hole is a part of another
abbrev pub IsPart : Hole → Hole → Type 0
IsPart whole part = (whole.start ≤ part.start) × (part.start + part.length ≤ whole.start + whole.length)

abbrev hole_of : ℕ → ℕ → Hole
hole_of start length = record { start = start; length = length }

-- ---- between two places

all_between : (P : Hole → Type 0) (start end : ℕ) → (start < end → P (hole_of start (end - start))) → AllByRecursion P (hole_between start end)
all_between P start end holds = go (nat_lt start end) refl
  where
    go : (b : Bool) → nat_lt start end ≡ b → AllByRecursion P (hole_between start end)
    go true e = rw e (holds (ltb-true start end e), tt)
    go false e = rw e tt

pairs_between : (R : Hole → Hole → Type 0) (start end : ℕ) → Pairs R (hole_between start end)
pairs_between R start end = go (nat_lt start end) refl
  where
    go : (b : Bool) → nat_lt start end ≡ b → Pairs R (hole_between start end)
    go true e = rw e (tt, tt)
    go false e = rw e tt

-- ---- what is left of one hole

parts_of_one : (start length : ℕ) (h : Hole) → AllByRecursion (IsPart h) (without_one start length h)
parts_of_one start length h =
    all_joined (IsPart h) (hole_between h.start (min start (h.start + h.length))) (hole_between (max h.start (start + length)) (h.start + h.length))
    (all_between (IsPart h) h.start (min start (h.start + h.length)) (λ less. (omega arith, omega (arith, less))))
    (all_between (IsPart h) (max h.start (start + length)) (h.start + h.length) (λ less. (omega arith, omega (arith, less))))

apart_of_one : (start length : ℕ) (h : Hole) → AllByRecursion (λ p. HolesApart p (hole_of start length)) (without_one start length h)
apart_of_one start length h =
    all_joined (λ p. HolesApart p (hole_of start length)) (hole_between h.start (min start (h.start + h.length))) (hole_between (max h.start (start + length)) (h.start + h.length))
    (all_between (λ p. HolesApart p (hole_of start length)) h.start (min start (h.start + h.length))
    (λ less. above_apart h.start (min start (h.start + h.length) - h.start) start length (omega (arith, less))))
    (all_between (λ p. HolesApart p (hole_of start length)) (max h.start (start + length)) (h.start + h.length)
    (λ less. below_apart (max h.start (start + length)) (h.start + h.length - max h.start (start + length)) start length (omega (arith, less))))

pairs_of_one : (start length : ℕ) (h : Hole) → Pairs HolesApart (without_one start length h)
pairs_of_one start length h =
    let front : ℕ = min start (h.start + h.length) in
    let back : ℕ = max h.start (start + length) in
    pairs_joined HolesApart (hole_between h.start front) (hole_between back (h.start + h.length))
    (pairs_between HolesApart h.start front)
    (all_between (λ p. AllByRecursion (HolesApart p) (hole_between back (h.start + h.length))) h.start front
    (λ less. all_between (HolesApart (hole_of h.start (front - h.start))) back (h.start + h.length)
    (λ more. above_apart h.start (front - h.start) back (h.start + h.length - back) (omega (arith, less, more)))))
    (pairs_between HolesApart back (h.start + h.length))

-- parts of holes that are apart are apart
parts_apart : (a b p q : Hole) → IsPart a p → IsPart b q → HolesApart a b → HolesApart p q
parts_apart a b p q one other apart =
    let first : HolesApart p b = smaller_apart a.start a.length b.start b.length p.start p.length one.0 one.1 apart in
    turned_apart q.start q.length p.start p.length
    (smaller_apart b.start b.length p.start p.length q.start q.length other.0 other.1 (turned_apart p.start p.length b.start b.length first))

-- ---- what is left of holes

nothing_taken : (holes : List Hole) (taken : Hole) → (taken.length == 0) ≡ true → without holes taken ≡ holes
nothing_taken holes taken e = rw e refl

some_taken : (holes : List Hole) (taken : Hole) → (taken.length == 0) ≡ false → without holes taken ≡ flat_map (without_one taken.start taken.length) holes
some_taken holes taken e = rw e refl

-- what holds of a hole's parts where it holds of the hole holds of all that is left
parts_keep : (P : Hole → Type 0) → ((h p : Hole) → IsPart h p → P h → P p) → (holes : List Hole) (taken : Hole) → AllByRecursion P holes → AllByRecursion P (without holes taken)
parts_keep P keeps holes taken all = go (taken.length == 0) refl
  where
    go : (b : Bool) → (taken.length == 0) ≡ b → AllByRecursion P (without holes taken)
    go true e = rw e all
    go false e =
        rw e
        (all_flat P (without_one taken.start taken.length) holes
        (all_map {Q = λ h. AllByRecursion P (without_one taken.start taken.length h)}
        (λ h holds. all_map {Q = P} (λ p part. keeps h p part holds) (without_one taken.start taken.length h) (parts_of_one taken.start taken.length h))
        holes all))

-- what is taken is apart from what is left
taken_apart : (holes : List Hole) (taken : Hole) → AllByRecursion (λ h. HolesApart h taken) (without holes taken)
taken_apart holes taken = go (taken.length == 0) refl
  where
    go : (b : Bool) → (taken.length == 0) ≡ b → AllByRecursion (λ h. HolesApart h taken) (without holes taken)
    go true e =
        subst (AllByRecursion (λ h. HolesApart h taken)) (sym (nothing_taken holes taken e))
        (all_always (λ h. nothing_apart h.start h.length taken.start taken.length (eqb-true taken.length 0 e)) holes)
    go false e =
        subst (AllByRecursion (λ h. HolesApart h taken)) (sym (some_taken holes taken e))
        (all_flat (λ h. HolesApart h taken) (without_one taken.start taken.length) holes (all_always (λ h. apart_of_one taken.start taken.length h) holes))

pairs_keep : (holes : List Hole) (taken : Hole) → Pairs HolesApart holes → Pairs HolesApart (without holes taken)
pairs_keep holes taken pairs = go (taken.length == 0) refl
  where
    between : (a b : Hole) → HolesApart a b → AllByRecursion (λ p. AllByRecursion (HolesApart p) (without_one taken.start taken.length b)) (without_one taken.start taken.length a)
    between a b apart =
        all_map {Q = λ p. AllByRecursion (HolesApart p) (without_one taken.start taken.length b)}
        (λ p one. all_map {Q = HolesApart p} (λ q other. parts_apart a b p q one other apart) (without_one taken.start taken.length b) (parts_of_one taken.start taken.length b))
        (without_one taken.start taken.length a) (parts_of_one taken.start taken.length a)

    go : (b : Bool) → (taken.length == 0) ≡ b → Pairs HolesApart (without holes taken)
    go true e = rw e pairs
    go false e =
        rw e
        (pairs_flat HolesApart (without_one taken.start taken.length) holes
        (all_always (λ h. pairs_of_one taken.start taken.length h) holes)
        (pairs_map {R = HolesApart} between holes pairs))

-- ---- what is left of holes without some ranges

folded_keep : (P : Hole → Type 0) → ((h p : Hole) → IsPart h p → P h → P p) → (holes taken : List Hole) → AllByRecursion P holes → AllByRecursion P (fold without holes taken)
folded_keep P keeps holes [] all = all
folded_keep P keeps holes (t ∷ ts) all = folded_keep P keeps (without holes t) ts (parts_keep P keeps holes t all)

folded_pairs : (holes taken : List Hole) → Pairs HolesApart holes → Pairs HolesApart (fold without holes taken)
folded_pairs holes [] pairs = pairs
folded_pairs holes (t ∷ ts) pairs = folded_pairs (without holes t) ts (pairs_keep holes t pairs)

folded_apart : (holes taken : List Hole) → AllByRecursion (λ t. AllByRecursion (λ h. HolesApart h t) (fold without holes taken)) taken
folded_apart holes [] = tt
folded_apart holes (t ∷ ts) = (
  folded_keep (λ h. HolesApart h t) (λ h p part apart. smaller_apart h.start h.length t.start t.length p.start p.length part.0 part.1 apart) (without holes t) ts (taken_apart holes t),
  folded_apart (without holes t) ts,
)

-- ---- the holes of a section

pub record HolesLie (place : Placement) (number : ℕ) (row : SectionRow) : Type 0 where
  pub within : AllByRecursion (λ (h : Hole). h.start + h.length ≤ row.room) (holes_of place number)
  pub apart : Pairs HolesApart (holes_of place number)
  pub free : AllByRecursion (λ (c : Hole). AllByRecursion (λ (h : Hole). HolesApart h c) (holes_of place number)) (covered place number row)

-- what is left of the room
abbrev left_in : Placement → ℕ → SectionRow → List Hole
left_in place number row = fold without (hole_between 0 row.room) (covered place number row)

holes_are : (place : Placement) (number : ℕ) (row : SectionRow) → slice_get place.sections number ≡ Some row → holes_of place number ≡ left_in place number row
unfolding holes_of
holes_are place number row there = ap (holes_in place number) there

left_within : (place : Placement) (number : ℕ) (row : SectionRow) → AllByRecursion (λ (h : Hole). h.start + h.length ≤ row.room) (left_in place number row)
left_within place number row =
    folded_keep (λ h. h.start + h.length ≤ row.room) (λ h p part under. let high = part.1 in omega (arith, high, under)) (hole_between 0 row.room) (covered place number row)
    (all_between (λ h. h.start + h.length ≤ row.room) 0 row.room (λ less. omega (arith, less)))

pub holes_lie : (place : Placement) (number : ℕ) (row : SectionRow) → slice_get place.sections number ≡ Some row → HolesLie place number row
holes_lie place number row there =
    let are = holes_are place number row there in
    record {
      within = subst (AllByRecursion (λ (h : Hole). h.start + h.length ≤ row.room)) (sym are) (left_within place number row);
      apart = subst (Pairs HolesApart) (sym are) (folded_pairs (hole_between 0 row.room) (covered place number row) (pairs_between HolesApart 0 row.room));
      free =
          subst (λ (holes : List Hole). AllByRecursion (λ (c : Hole). AllByRecursion (λ (h : Hole). HolesApart h c) holes) (covered place number row)) (sym are)
          (folded_apart (hole_between 0 row.room) (covered place number row));
    }
