-- Free lists and lk_model's holes, first fit and fill.
use Rattle.std.specs.Prelude.{◌≡◌, ℕ, true, List, ◌+◌, ◌%◌, ◌<◌, ◌≤◌, ◌&&◌, not, fold, nat_le, IsTrue, Some}
use Rattle.std.specs.List.{list_all}
use Rattle.lk_model.specs.FirstFit.{first_fit}
use Rattle.lk_model.specs.Holes.{without}
use Rattle.lk_model.specs.SectionKeys.{fill_kind, least_of}
use Rattle.lk_model.specs.declared.layouts.Hole.{Hole}
use Rattle.lk_model.specs.declared.layouts.SectionKey.{SectionKey}
use Rattle.lk_freelist.specs.Filling.{least_for}
use Rattle.lk_freelist.specs.FreeBytes.{AreHoles, is_free}

-- holes with the same free bytes are the same
abbrev pub SameBytesSameHoles : Type 0
SameBytesSameHoles = (xs ys : List Hole) → AreHoles xs → AreHoles ys → ((byte : ℕ) → is_free xs byte ≡ is_free ys byte) → xs ≡ ys

-- what is left of holes without some ranges are holes
abbrev pub LeftAreHoles : Type 0
LeftAreHoles = (holes taken : List Hole) → AreHoles holes → AreHoles (fold without holes taken)

-- the bytes of these holes are the free ones that are in none of the ranges
abbrev pub LeftAreFree : Type 0
LeftAreFree = (holes taken : List Hole) (byte : ℕ) → is_free (fold without holes taken) byte ≡ (is_free holes byte && not (is_free taken byte))

-- the place that first fit gives is a multiple of the alignment, and all its bytes are free
abbrev pub PlacesAreFree : Type 0
PlacesAreFree =
    (holes : List Hole) (least size align at : ℕ)
    → 0 < align
    → first_fit holes least size align ≡ Some at
    → (at % align ≡ 0) × ((byte : ℕ) → at ≤ byte → byte < at + size → is_free holes byte ≡ true)

-- each of the holes can be filled
abbrev pub CanBeFilled : ℕ → List Hole → Type 0
CanBeFilled least holes = IsTrue (list_all (λ (hole : Hole). nat_le least hole.length) holes)

-- a piece placed by first fit leaves no hole that is too short
abbrev pub NoneTooShort : Type 0
NoneTooShort =
    (holes : List Hole) (least size align at : ℕ)
    → 0 < size
    → 0 < align
    → AreHoles holes
    → CanBeFilled least holes
    → first_fit holes least size align ≡ Some at
    → CanBeFilled least (without holes (record { start = at; length = size }))

-- the shortest hole of a section is the shortest of the kind that fills it
abbrev pub LeastOfKind : Type 0
LeastOfKind = (key : SectionKey) → least_for (fill_kind key) ≡ least_of key
