-- This project's own: the place that a new piece takes among the holes of a section.
use Rattle.std.specs.Prelude.{ℕ, Bool, List, [], ◌∷◌, Option, Some, None, ◌+◌, ◌-◌, ◌*◌, ◌/◌, ◌&&◌, nat_le, map, find}
use Rattle.std.specs.List.{range_with_len}
use Rattle.lk_model.specs.Amounts.{round_up}
use Rattle.lk_model.specs.Rooms.{is_fillable}
use Rattle.lk_model.specs.declared.layouts.Hole.{Hole}

-- the multiples of the alignment in a hole, by rising
abbrev pub multiples_in : Hole → ℕ → List ℕ
multiples_in hole align = map (λ k. round_up hole.start align + k * align) (range_with_len 0 (hole.length / align + 1))

-- whether the bytes lie in the hole, and what is left before and behind them can be filled
abbrev pub fits_at : Hole → ℕ → ℕ → ℕ → Bool
fits_at hole least size at =
    is_fillable least (at - hole.start)
    && nat_le (at + size) (hole.start + hole.length)
    && is_fillable least (hole.start + hole.length - (at + size))

-- the least place in a hole
abbrev pub fit_in : Hole → ℕ → ℕ → ℕ → Option ℕ
fit_in hole least size align = find (fits_at hole least size) (multiples_in hole align)

-- the first place, or else the other
abbrev pub or_else : Option ℕ → Option ℕ → Option ℕ
or_else (Some at) other = Some at
or_else None other = other

-- the place in the first of the holes that has one; `None` where none has
unfoldable pub first_fit : List Hole → ℕ → ℕ → ℕ → Option ℕ
first_fit [] least size align = None
first_fit (hole ∷ holes) least size align = or_else (fit_in hole least size align) (first_fit holes least size align)
