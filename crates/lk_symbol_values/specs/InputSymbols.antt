-- Symbols of inputs that are not LOCAL, by their numbers (gABI "Symbol Table").
use Rattle.std.specs.Prelude.{ℕ, ◌-◌, ◌==◌, ◌&&◌, Bool, true, nat_lt, cond, List, [], ◌∷◌, Option, Some, None, find, slice_get}
use Rattle.lk_model.specs.declared.summaries.Global.{Global}
use Rattle.lk_model.specs.declared.summaries.InputSummary.{InputSummary}

-- whether a symbol has this number
abbrev pub has_number : ℕ → Global → Bool
has_number symbol g = g.symbol == symbol

-- a symbol of an input, by its number
abbrev pub symbol_in : List InputSummary → ℕ → ℕ → Option Global
symbol_in summaries input symbol =
    elim (slice_get summaries input) [ None ↦ None | Some s ↦ find (has_number symbol) s.globals ]

-- a symbol, where it has this number
abbrev pub where_numbered : ℕ → Option Global → Option Global
where_numbered symbol None = None
where_numbered symbol (Some g) = cond (has_number symbol g) (Some g) None

-- whether the numbers of symbols rise above this one, each above the one before
abbrev pub rise_from : ℕ → List Global → Bool
rise_from least [] = true
rise_from least (g ∷ gs) = nat_lt least g.symbol && rise_from g.symbol gs

-- how far a number is above that of the first symbol
abbrev pub distance : List Global → ℕ → ℕ
distance [] symbol = 0
distance (g ∷ gs) symbol = symbol - g.symbol

-- whether the numbers of an input's symbols rise
abbrev pub numbers_rise : InputSummary → Bool
numbers_rise s = rise_from 0 s.globals
