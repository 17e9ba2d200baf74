-- The holes of all rows, written into an image row by row: where a placement can be filled, each of its
-- holes can be written.
use Rattle.std.proofs.Common.{◌≡◌, ℕ, zero, suc, Bool, true, false, cond, IsTrue, ◌==◌, ◌&&◌, ◌||◌, not, nat_le, ◌+◌, ◌^◌, ◌<◌, ◌≤◌, min, max, List, [], ◌∷◌, ◌++◌, length, drop, map, filter, fold, get_or, Some, if◌then◌else◌, refl, sym, ap, ◌∙◌, subst, arith, inl, inr, append_assoc}
use Rattle.std.specs.List.{AllByRecursion, enumerate_from, flat_map, list_all, slice_get}
use Rattle.std.proofs.lemmas.Bool.{cases_lt}
use Rattle.std.proofs.lemmas.Grind.{fold-append}
use Rattle.std.proofs.lemmas.List.{drop_more}
use Rattle.std.proofs.lemmas.Option.{slice_get_read}
use Rattle.lk_model.specs.FullPlace.{tail_start}
use Rattle.lk_model.specs.Holes.{covered, hole_between, holes_in, holes_of, without, without_one}
use Rattle.lk_model.specs.Lawful.{holes_are_fillable}
use Rattle.lk_model.specs.LinkedBytes.{patch}
use Rattle.lk_model.specs.SectionKeys.{in_file, is_patched, least_of}
use Rattle.lk_model.specs.Stretches.{Stretch}
use Rattle.lk_model.specs.declared.layouts.Hole.{Hole}
use Rattle.lk_model.specs.declared.layouts.Placement.{Placement}
use Rattle.lk_model.specs.declared.layouts.SectionRow.{SectionRow}
use Rattle.lk_freelist.proofs.Splitting.{between_none, between_some}
use Rattle.lk_fill.specs.Filled.{all_holes, fill_with, row_fill, written, CanBeFilled, IsWritable}

-- ---- the holes of a row lie in its room

abbrev AreWithin : ℕ → List Hole → Type 0
AreWithin room holes = AllByRecursion (λ (hole : Hole). hole.start + hole.length ≤ room) holes

between_within : (room start end : ℕ) (holes : List Hole) → end ≤ room → AreWithin room holes → AreWithin room (hole_between start end ++ holes)
between_within room start end holes low within =
    elim (cases_lt start end) [
      | inl less ↦ subst (λ hs. AreWithin room (hs ++ holes)) (sym (between_some start end less)) (omega arith, within)
      | inr none ↦ subst (λ hs. AreWithin room (hs ++ holes)) (sym (between_none start end none)) within
    ]

one_within : (room start length : ℕ) (hole : Hole) (holes : List Hole) → hole.start + hole.length ≤ room → AreWithin room holes → AreWithin room (without_one start length hole ++ holes)
one_within room start length hole holes low within =
    let end : ℕ = hole.start + hole.length in
    let second = between_within room (max hole.start (start + length)) end holes low within in
    subst (AreWithin room) (sym (append_assoc (hole_between hole.start (min start end)) (hole_between (max hole.start (start + length)) end) holes))
    (between_within room hole.start (min start end) (hole_between (max hole.start (start + length)) end ++ holes) (omega arith) second)

each_within : (room start length : ℕ) (holes : List Hole) → AreWithin room holes → AreWithin room (flat_map (without_one start length) holes)
each_within room start length [] within = tt
each_within room start length (h ∷ hs) within = one_within room start length h (flat_map (without_one start length) hs) within.0 (each_within room start length hs within.1)

without_within : (room : ℕ) (holes : List Hole) (taken : Hole) → AreWithin room holes → AreWithin room (without holes taken)
without_within room holes taken within = by_test (taken.length == 0)
  where
    by_test : (b : Bool) → AreWithin room (if b then holes else flat_map (without_one taken.start taken.length) holes)
    by_test true = within
    by_test false = each_within room taken.start taken.length holes within

fold_within : (room : ℕ) (taken holes : List Hole) → AreWithin room holes → AreWithin room (fold without holes taken)
fold_within room [] holes within = within
fold_within room (t ∷ ts) holes within = fold_within room ts (without holes t) (without_within room holes t within)

whole_within : (room : ℕ) → AreWithin room (hole_between 0 room)
whole_within room =
    elim (cases_lt 0 room) [
      | inl some ↦ subst (AreWithin room) (sym (between_some 0 room some)) (omega arith, tt)
      | inr none ↦ subst (AreWithin room) (sym (between_none 0 room none)) tt
    ]

holes_within : (place : Placement) (n : ℕ) (row : SectionRow) → slice_get place.sections n ≡ Some row → AreWithin row.room (holes_of place n)
unfolding holes_of
holes_within place n row there = subst (AreWithin row.room) (sym (ap (holes_in place n) there)) (fold_within row.room (covered place n row) (hole_between 0 row.room) (whole_within row.room))

-- ---- the rooms that the file holds end before its tail

abbrev end_of : SectionRow → ℕ
end_of row = row.offset + row.room

abbrev is_stored : SectionRow → Bool
is_stored row = in_file row.key.class

max_above : (most : ℕ) (ends : List ℕ) → most ≤ fold max most ends
max_above most [] = omega arith
max_above most (e ∷ es) = let later = max_above (max most e) es in omega (arith, later)

row_below : (most n : ℕ) (rows : List SectionRow) (row : SectionRow) → slice_get rows n ≡ Some row → is_stored row ≡ true → end_of row ≤ fold max most (map end_of (filter is_stored rows))
row_below most n [] row there stored = absurd (cc)
row_below most zero (r ∷ rs) row there stored =
    let same : r ≡ row = cc in
    let first : is_stored r ≡ true = ap is_stored same ∙ stored in
    let above = max_above (max most (end_of r)) (map end_of (filter is_stored rs)) in
    let below : end_of r ≤ fold max (max most (end_of r)) (map end_of (filter is_stored rs)) = omega (arith, above) in
    subst (λ b. end_of row ≤ fold max most (map end_of (cond b (r ∷ filter is_stored rs) (filter is_stored rs)))) (sym first)
    (subst (λ (x : SectionRow). end_of x ≤ fold max (max most (end_of r)) (map end_of (filter is_stored rs))) same below)
row_below most (suc n) (r ∷ rs) row there stored = by_test (is_stored r) (λ m. row_below m n rs row there stored)
  where
    by_test : (b : Bool) → ((m : ℕ) → end_of row ≤ fold max m (map end_of (filter is_stored rs))) → end_of row ≤ fold max most (map end_of (cond b (r ∷ filter is_stored rs) (filter is_stored rs)))
    by_test true later = later (max most (end_of r))
    by_test false later = later most

-- ---- each hole can be written

first_of : (p a b : Bool) → IsTrue (not p || (a && b)) → IsTrue (not p || a)
first_of true true b is = refl
first_of true false b is = is
first_of false a b is = refl

second_of : (p a b : Bool) → IsTrue (not p || (a && b)) → IsTrue (not p || b)
second_of true true b is = is
second_of true false b is = absurd (cc)
second_of false a b is = refl

all_writable :
    (row : SectionRow) (size : ℕ) (holes : List Hole)
    → end_of row ≤ size
    → end_of row < 2 ^ 32
    → AreWithin row.room holes
    → IsTrue (not (is_patched row.key) || list_all (λ (hole : Hole). nat_le (least_of row.key) hole.length) holes)
    → AllByRecursion (IsWritable row size) holes
all_writable row size [] inside short within fill = tt
all_writable row size (h ∷ hs) inside short within fill =
    let here = within.0 in
    let later = list_all (λ (hole : Hole). nat_le (least_of row.key) hole.length) hs in (
      record {
        lies = omega (arith, here);
        enough = first_of (is_patched row.key) (nat_le (least_of row.key) h.length) later fill;
        short = omega (arith, here);
      },
      all_writable row size hs inside short within.1 (second_of (is_patched row.key) (nat_le (least_of row.key) h.length) later fill),
    )

fillable_at :
    (place : Placement) (rows : List SectionRow) (k i n : ℕ) (row : SectionRow)
    → AllByRecursion (λ (entry : ℕ × SectionRow). IsTrue (holes_are_fillable place entry.0 entry.1)) (enumerate_from k rows)
    → slice_get rows i ≡ Some row
    → n ≡ k + i
    → IsTrue (holes_are_fillable place n row)
fillable_at place [] k i n row all there number = absurd (cc)
fillable_at place (r ∷ rs) k zero n row all there number =
    let same : r ≡ row = cc in
    let first : k ≡ n = omega arith in
    subst (λ (x : SectionRow). IsTrue (holes_are_fillable place n x)) same (subst (λ (j : ℕ). IsTrue (holes_are_fillable place j r)) first all.0)
fillable_at place (r ∷ rs) k (suc i) n row all there number = fillable_at place rs (k + 1) i n row all.1 there (omega arith)

row_writable : (place : Placement) (size n : ℕ) (row : SectionRow) → CanBeFilled place size → slice_get place.sections n ≡ Some row → IsTrue (in_file row.key.class) → AllByRecursion (IsWritable row size) (holes_of place n)
row_writable place size n row can there stored =
    let below : row.offset + row.room ≤ tail_start place = row_below 0 n place.sections row there stored in
    let inside = can.inside in
    let short = can.short in
    all_writable row size (holes_of place n) (omega (arith, below, inside)) (omega (arith, below, short)) (holes_within place n row there) (fillable_at place place.sections 0 n n row can.fillable there (omega arith))

-- ---- row by row

holes_from : (place : Placement) (rows : List SectionRow) (k n : ℕ) (d : List Hole) → n < length rows → get_or (map (λ (entry : ℕ × SectionRow). holes_of place entry.0) (enumerate_from k rows)) n d ≡ holes_of place (k + n)
holes_from place [] k n d within = absurd (omega arith)
holes_from place (r ∷ rs) k zero d within = let same : k ≡ k + 0 = omega arith in ap (holes_of place) same
holes_from place (r ∷ rs) k (suc n) d within =
    let same : k + 1 + n ≡ k + suc n = omega arith in
    holes_from place rs (k + 1) n d (omega arith) ∙ ap (holes_of place) same

length_from : (place : Placement) (rows : List SectionRow) (k : ℕ) → length (map (λ (entry : ℕ × SectionRow). holes_of place entry.0) (enumerate_from k rows)) ≡ length rows
length_from place [] k = refl
length_from place (r ∷ rs) k = ap suc (length_from place rs (k + 1))

-- there are holes for each row
pub holes_there : (place : Placement) (rows : List SectionRow) (found : List (List Hole)) (n : ℕ) → rows ≡ place.sections → found ≡ all_holes place → n < length rows → n < length found
holes_there place rows found n rows_are found_is within =
    let long : length found ≡ length place.sections = ap length found_is ∙ length_from place place.sections 0 in
    omega (arith, long, ap length rows_are)

-- the holes that were found at a number are those of the row
pub holes_at : (place : Placement) (found : List (List Hole)) (n : ℕ) (holes : List Hole) → found ≡ all_holes place → n < length place.sections → holes ≡ get_or found n holes → holes ≡ holes_of place n
holes_at place found n holes found_is within holes_is =
    let same : 0 + n ≡ n = omega arith in
    holes_is ∙ ap (λ f. get_or f n holes) found_is ∙ holes_from place place.sections 0 n holes within ∙ ap (holes_of place) same

-- one more row
pub rows_more :
    (place : Placement) (size n : ℕ) (rows : List SectionRow) (row : SectionRow) (holes : List Hole) (image next whole : List ℕ)
    → rows ≡ place.sections
    → n < length rows
    → row ≡ get_or rows n row
    → holes ≡ holes_of place n
    → ((IsTrue (in_file row.key.class) → AllByRecursion (IsWritable row size) holes) → next ≡ written image (fill_with row holes))
    → (CanBeFilled place size → written image (flat_map (row_fill place) (enumerate_from n (drop n rows))) ≡ whole)
    → CanBeFilled place size
    → written next (flat_map (row_fill place) (enumerate_from (n + 1) (drop (n + 1) rows))) ≡ whole
rows_more place size n rows row holes image next whole rows_are within row_is holes_are filled before can =
    let there : slice_get place.sections n ≡ Some row = ap (λ rs. slice_get rs n) (sym rows_are) ∙ slice_get_read rows (length rows) n row refl within row_is in
    let wrote : next ≡ written image (fill_with row holes) = filled (λ stored. subst (AllByRecursion (IsWritable row size)) (sym holes_are) (row_writable place size n row can there stored)) in
    let rest : List SectionRow = drop (n + 1) rows in
    let later : List Stretch = flat_map (row_fill place) (enumerate_from (n + 1) rest) in
    let is_at : drop n rows ≡ row ∷ rest = drop_more rows n row within ∙ ap (λ r. r ∷ rest) (sym row_is) in
    ap (λ bytes. written bytes later) (wrote ∙ ap (λ hs. written image (fill_with row hs)) holes_are)
    ∙ sym (fold-append (λ bytes (s : Stretch). patch bytes s.at s.bytes) image (row_fill place (n, row)) later)
    ∙ sym (ap (λ rs. written image (flat_map (row_fill place) (enumerate_from n rs))) is_at)
    ∙ before can
