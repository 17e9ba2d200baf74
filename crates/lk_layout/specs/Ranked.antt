-- This project's own: the pieces of an array of functions by the numbers in their names.
use Rattle.std.specs.Prelude.{ℕ, unwrap_or, ◌+◌, ◌==◌, nat_lt, Bool, cond, List, [], ◌∷◌, ◌++◌, map, fold, filter, take_while, drop, length, codes, nat_eq, ◌&&◌, if◌then◌else◌, Option, Some, None}
use Rattle.std.specs.List.{list_any, starts_with}
use Rattle.lk_model.specs.Amounts.{round_up}
use Rattle.lk_model.specs.Rooms.{array_rank, decimal_of, is_short_decimal}
use Rattle.lk_model.specs.Views.{KeptPiece}
use Rattle.lk_layout.specs.declared.ranks.Ranked.{Ranked}

-- what a piece asks for, with its number
abbrev pub ranked_of : KeptPiece → Ranked
ranked_of piece = record { rank = array_rank piece; size = piece.size; align = piece.align }

-- where it is, where those before it end at the cursor, and the cursor after it
abbrev pub ranked_offset : ℕ → Ranked → ℕ
ranked_offset cursor r = round_up cursor r.align

abbrev pub ranked_next : ℕ → Ranked → ℕ
ranked_next cursor r = ranked_offset cursor r + r.size

-- where they end
abbrev pub ranked_end : List Ranked → ℕ
ranked_end rs = fold ranked_next 0 rs

-- whether it has a number, and whether its number is less
abbrev pub has_rank : ℕ → Ranked → Bool
has_rank rank r = r.rank == rank

abbrev pub is_below : ℕ → Ranked → Bool
is_below rank r = nat_lt r.rank rank

-- where the next piece with a number may be, where the pieces are `sorted` by their numbers and these
-- earlier ones are already; `None` where there is no piece with this number
abbrev pub lane_at : List Ranked → List Ranked → ℕ → Option ℕ
lane_at sorted earlier rank = cond (list_any (has_rank rank) sorted) (Some (ranked_end (take_while (is_below rank) sorted ++ filter (has_rank rank) earlier))) None

-- the offsets of pieces in their own order
abbrev pub lane_offsets : List Ranked → List Ranked → List Ranked → List ℕ
lane_offsets sorted earlier [] = []
lane_offsets sorted earlier (r ∷ rs) = ranked_offset (ranked_end (take_while (is_below r.rank) sorted ++ filter (has_rank r.rank) earlier)) r ∷ lane_offsets sorted (earlier ++ r ∷ []) rs

-- the number of a piece of this name in an array of this name
abbrev pub rank_of_name : List ℕ → List ℕ → ℕ
rank_of_name name base =
    if starts_with nat_eq name (base ++ codes ".") && is_short_decimal (drop (length base + 1) name) then decimal_of (drop (length base + 1) name) else 100000

-- a piece's number
abbrev pub rank_in : Ranked → ℕ
rank_in r = r.rank

-- where the first piece with a number is, where the pieces are sorted by their numbers and those before
-- them end at the cursor; `None` where there is no piece with this number
abbrev pub first_lane : ℕ → List Ranked → ℕ → Option ℕ
first_lane cursor sorted rank = cond (list_any (has_rank rank) sorted) (Some (fold ranked_next cursor (take_while (is_below rank) sorted))) None

-- the lane `r`, once that of a number was opened at a place where there was none
abbrev pub lane_opened : Option ℕ → ℕ → ℕ → ℕ → Option ℕ
lane_opened (Some cursor) rank at r = Some cursor
lane_opened None rank at r = cond (nat_eq r rank) (Some at) None

-- the lane `r`, once that of a piece was moved
abbrev pub lane_moved : Option ℕ → Option ℕ → Ranked → ℕ → Option ℕ
lane_moved own other piece r = cond (nat_eq r piece.rank) (Some (ranked_next (unwrap_or own 0) piece)) other
