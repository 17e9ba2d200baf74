-- The holes of a patched section, piece after piece: those below a cursor stay, and the room behind it is
-- parted by the next piece.
use Rattle.std.specs.Prelude.{◌≡◌, ℕ, false, IsTrue, List, [], ◌∷◌, ◌++◌, ◌+◌, ◌-◌, ◌==◌, ◌<◌, ◌≤◌, nat_le, max, min, flat_map, refl}
use Rattle.std.specs.List.{AllByRecursion, list_all}
use Rattle.std.proofs.Common.{arith, inl, inr, sym, ap, ◌∙◌}
use Rattle.std.proofs.lemmas.Bool.{cases_lt, le-leb, le-ltb, lt-ltb, ne_eqb}
use Rattle.std.proofs.lemmas.Grind.{flat_map-append}
use Rattle.std.proofs.lemmas.List.{append-nil, append_assoc}
use Rattle.lk_model.specs.Holes.{hole_between, without, without_one}
use Rattle.lk_model.specs.Rooms.{is_fillable}
use Rattle.lk_model.specs.declared.layouts.Hole.{Hole}
use Rattle.lk_model.proofs.Multiples.{fillable_reports}
use Rattle.lk_model.proofs.Rising.{all_map}
use Rattle.lk_law_placement.proofs.DistinctLists.{all_joined, all_of_each}

-- a hole, by its start and length
abbrev pub hole_of : ℕ → ℕ → Hole
hole_of start length = record { start = start; length = length }

-- a hole can be filled
abbrev pub CanBeFilled : ℕ → Hole → Type 0
CanBeFilled least hole = least ≤ hole.length

-- all holes can be filled and end at or below the cursor
abbrev pub LeftBelow : ℕ → ℕ → List Hole → Type 0
LeftBelow least cursor holes = AllByRecursion (λ (hole : Hole). (least ≤ hole.length) × (hole.start + hole.length ≤ cursor)) holes

hole_some : (start end : ℕ) → start < end → hole_between start end ≡ hole_of start (end - start) ∷ []
hole_some start end less = rw (lt-ltb start end less) refl

hole_none : (start end : ℕ) → end ≤ start → hole_between start end ≡ []
hole_none start end more = rw (le-ltb start end more) refl

-- where nothing is between, the hole is whole
hole_whole : (start length : ℕ) → 0 < length → hole_between start (start + length) ≡ hole_of start length ∷ []
hole_whole start length some =
    let back : start + length - start ≡ length = omega arith in
    hole_some start (start + length) (omega (arith, some)) ∙ ap (λ n. hole_of start n ∷ []) back

-- a hole below what is taken stays
keep_one : (start length from size : ℕ) → 0 < size → from + size ≤ start → without_one start length (hole_of from size) ≡ hole_of from size ∷ []
keep_one start length from size some below =
    let near : min start (from + size) ≡ from + size = omega (arith, below) in
    let far = hole_none (max from (start + length)) (from + size) (omega (arith, below)) in
    ap (λ n. hole_between from n ++ hole_between (max from (start + length)) (from + size)) near
    ∙ (ap (λ xs. hole_between from (from + size) ++ xs) far
    ∙ (append-nil (hole_between from (from + size))
    ∙ hole_whole from size some))

keep_all : (start length least cursor : ℕ) (holes : List Hole) → 0 < least → cursor ≤ start → LeftBelow least cursor holes → flat_map (without_one start length) holes ≡ holes
keep_all start length least cursor [] some under below = refl
keep_all start length least cursor (hole ∷ holes) some under below =
    let enough = below.0.0 in
    let ends = below.0.1 in
    ap (λ xs. xs ++ flat_map (without_one start length) holes) (keep_one start length hole.start hole.length (omega (arith, some, enough)) (omega (arith, ends, under)))
    ∙ ap (λ xs. hole ∷ xs) (keep_all start length least cursor holes some under below.1)

-- the room behind the cursor is parted by what is taken
take_one :
    (cursor limit start length : ℕ)
    → cursor ≤ start
    → 0 < length
    → start + length ≤ limit
    → flat_map (without_one start length) (hole_between cursor limit) ≡ hole_between cursor start ++ hole_between (start + length) limit
take_one cursor limit start length above some within =
    let end : cursor + (limit - cursor) ≡ limit = omega (arith, above, within) in
    let near : min start (cursor + (limit - cursor)) ≡ start = omega (arith, above, within) in
    let far : max cursor (start + length) ≡ start + length = omega (arith, above) in
    ap (flat_map (without_one start length)) (hole_some cursor limit (omega (arith, above, some, within)))
    ∙ (append-nil (without_one start length (hole_of cursor (limit - cursor)))
    ∙ (ap (λ n. hole_between cursor n ++ hole_between (max cursor (start + length)) (cursor + (limit - cursor))) near
    ∙ (ap (λ n. hole_between cursor start ++ hole_between n (cursor + (limit - cursor))) far
    ∙ ap (λ n. hole_between cursor start ++ hole_between (start + length) n) end)))

-- no bytes take nothing
pub without_none : (holes : List Hole) (start length : ℕ) → length ≡ 0 → without holes (hole_of start length) ≡ holes
without_none holes start length none = rw none refl

without_some : (holes : List Hole) (start length : ℕ) → 0 < length → without holes (hole_of start length) ≡ flat_map (without_one start length) holes
without_some holes start length some = let filled : (length == 0) ≡ false = ne_eqb length 0 (λ none. omega (arith, none, some)) in rw filled refl

-- a piece behind the cursor takes its bytes
pub without_piece :
    (least cursor limit start length : ℕ) (closed : List Hole)
    → 0 < least
    → LeftBelow least cursor closed
    → cursor ≤ start
    → 0 < length
    → start + length ≤ limit
    → without (closed ++ hole_between cursor limit) (hole_of start length) ≡ (closed ++ hole_between cursor start) ++ hole_between (start + length) limit
without_piece least cursor limit start length closed positive below above some within =
    without_some (closed ++ hole_between cursor limit) start length some
    ∙ (flat_map-append (without_one start length) closed (hole_between cursor limit)
    ∙ (ap (λ xs. xs ++ flat_map (without_one start length) (hole_between cursor limit)) (keep_all start length least cursor closed positive above below)
    ∙ (ap (λ xs. closed ++ xs) (take_one cursor limit start length above some within)
    ∙ sym (append_assoc closed (hole_between cursor start) (hole_between (start + length) limit)))))

-- a hole that can be filled
pub between_fillable : (least start end : ℕ) → IsTrue (is_fillable least (end - start)) → AllByRecursion (CanBeFilled least) (hole_between start end)
between_fillable least start end fillable =
    elim (cases_lt start end) [
      | inl less ↦
          rw (hole_some start end less) (
            elim (fillable_reports least (end - start) fillable) [
              | inl none ↦ absurd (omega (arith, none, less))
              | inr enough ↦ enough
            ],
            tt,
          )
      | inr more ↦ rw (hole_none start end more) tt
    ]

-- the holes below a cursor, and the one from there to the next piece
pub left_below :
    (least cursor start end : ℕ) (closed : List Hole)
    → LeftBelow least cursor closed
    → cursor ≤ start
    → start ≤ end
    → IsTrue (is_fillable least (start - cursor))
    → LeftBelow least end (closed ++ hole_between cursor start)
left_below least cursor start end closed below above under fillable =
    all_joined (λ (hole : Hole). (least ≤ hole.length) × (hole.start + hole.length ≤ end)) closed (hole_between cursor start)
    (weaker closed below)
    (elim (cases_lt cursor start) [
      | inl less ↦
          rw (hole_some cursor start less) (
            (
              elim (fillable_reports least (start - cursor) fillable) [
                | inl none ↦ absurd (omega (arith, none, less))
                | inr enough ↦ enough
              ],
              omega (arith, less, under),
            ),
            tt,
          )
      | inr more ↦ rw (hole_none cursor start more) tt
    ])
  where
    weaker : (holes : List Hole) → LeftBelow least cursor holes → LeftBelow least end holes
    weaker [] all = tt
    weaker (hole ∷ holes) all = let ends = all.0.1 in ((all.0.0, omega (arith, ends, above, under)), weaker holes all.1)

-- holes below a cursor can be filled
pub left_fillable : (least cursor : ℕ) (holes : List Hole) → LeftBelow least cursor holes → AllByRecursion (CanBeFilled least) holes
left_fillable least cursor [] below = tt
left_fillable least cursor (hole ∷ holes) below = (below.0.0, left_fillable least cursor holes below.1)

pub fillable_reported : (least : ℕ) (holes : List Hole) → AllByRecursion (CanBeFilled least) holes → IsTrue (list_all (λ (hole : Hole). nat_le least hole.length) holes)
fillable_reported least holes all = all_of_each (λ (hole : Hole). nat_le least hole.length) holes (all_map (λ (hole : Hole) enough. le-leb least hole.length enough) holes all)

-- the room without its reserved end
pub without_end : (room reserved : ℕ) → reserved ≤ room → without (hole_between 0 room) (hole_of (room - reserved) reserved) ≡ hole_between 0 (room - reserved)
without_end room reserved within =
    elim (cases_lt 0 reserved) [
      | inl some ↦
          let back : room - reserved + reserved ≡ room = omega (arith, within) in
          let nothing = hole_none (room - reserved + reserved) room (omega (arith, within)) in
          without_some (hole_between 0 room) (room - reserved) reserved some
          ∙ (take_one 0 room (room - reserved) reserved (omega arith) some (omega (arith, within))
          ∙ (ap (λ xs. hole_between 0 (room - reserved) ++ xs) nothing
          ∙ append-nil (hole_between 0 (room - reserved))))
      | inr none ↦
          let zero_reserved : reserved ≡ 0 = omega (arith, none) in
          let whole : room - reserved ≡ room = omega (arith, none) in
          without_none (hole_between 0 room) (room - reserved) reserved zero_reserved ∙ ap (λ n. hole_between 0 n) (sym whole)
    ]
