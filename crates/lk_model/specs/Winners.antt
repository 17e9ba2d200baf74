-- Which definition a name means. Strong before weak, and a common block that yields to a strong
-- definition and is before a weak one, are the gABI's ("Symbol Table", "Common Symbols"); the rest
-- is this project's own.
use Rattle.std.specs.Prelude.{ℕ, Bool, true, false, ◌&&◌, cond, ◌==◌, max, min, List, [], ◌∷◌, filter, find, fold, Option, Some, None, option_map}
use Rattle.lk_elf.specs.Numbers.{stt_tls, stv_default}
use Rattle.lk_model.specs.declared.summaries.Contribution.{Contribution}
use Rattle.lk_model.specs.declared.summaries.Contributions.{Contributions}
use Rattle.lk_model.specs.declared.summaries.Global.{Global}
use Rattle.lk_model.specs.declared.summaries.Winner.{Winner}
use Rattle.lk_model.specs.declared.summaries.Winner.TheVariants as winner
use Rattle.lk_model.specs.Symbols.{is_of_object, is_strong_definition, is_weak_definition, is_object_common, is_shared_definition}

-- the more constraining of two visibilities: INTERNAL, HIDDEN, PROTECTED, DEFAULT (gABI "Symbol Table",
-- st_other, whose numbers rise in this order but for DEFAULT)
abbrev pub stricter : ℕ → ℕ → ℕ
stricter a b = cond (a == stv_default) b (cond (b == stv_default) a (min a b))

-- the visibility of a name: the most constraining one of its symbols in objects
abbrev pub visibility_of : Contributions → ℕ
visibility_of cs = fold (λ visibility (c : Contribution). stricter visibility c.global.visibility) stv_default (filter is_of_object cs.list)

-- the first strong definition in an object
abbrev pub strong_among : List Contribution → Option Winner
strong_among list = option_map (λ (c : Contribution). winner.Strong c.input c.global.symbol) (find is_strong_definition list)

-- the common blocks merged: the greatest size and the greatest alignment, which is a common's value
abbrev pub merged : List Contribution → Option Winner
merged [] = None
merged (c ∷ cs) = Some (winner.Common (fold (λ n (d : Contribution). max n d.global.size) c.global.size cs) (fold (λ n (d : Contribution). max n d.global.value) c.global.value cs))

-- the merged common of the objects
abbrev pub common_among : List Contribution → Option Winner
common_among list = merged (filter is_object_common list)

-- the first weak definition in an object
abbrev pub weak_among : List Contribution → Option Winner
weak_among list = option_map (λ (c : Contribution). winner.Weak c.input c.global.symbol) (find is_weak_definition list)

-- the symbol that the linker makes
abbrev pub made_where : Bool → Option Winner
made_where is_made = cond is_made (Some winner.Made) None

-- the first definition in a shared input, which only a name of default visibility can mean
abbrev pub import_among : ℕ → List Contribution → Option Winner
import_among visibility list = cond (visibility == stv_default) (option_map (λ (c : Contribution). winner.Import c.input c.global.symbol) (find is_shared_definition list)) None

-- the first alternative that is offered, and nothing where none is
abbrev pub first_offered : List (Option Winner) → Winner
first_offered [] = winner.Nothing
first_offered (None ∷ others) = first_offered others
first_offered (Some w ∷ others) = w

-- the definition that a name means
unfoldable pub winner_of : Contributions → Bool → ℕ → Winner
winner_of cs is_made visibility = first_offered (strong_among cs.list ∷ common_among cs.list ∷ weak_among cs.list ∷ made_where is_made ∷ import_among visibility cs.list ∷ [])

-- whether a symbol is this one of this input
abbrev pub is_symbol_of : ℕ → ℕ → Contribution → Bool
is_symbol_of input symbol c = (c.input == input) && (c.global.symbol == symbol)

-- a symbol of a name, by the numbers of its input and its own
abbrev pub symbol_among : List Contribution → ℕ → ℕ → Option Global
symbol_among list input symbol = option_map (λ (c : Contribution). c.global) (find (is_symbol_of input symbol) list)

-- the symbol that a winner is, where it is one of an input
abbrev pub symbol_of_winner : Contributions → Winner → Option Global
symbol_of_winner cs (winner.Strong input symbol) = symbol_among cs.list input symbol
symbol_of_winner cs (winner.Weak input symbol) = symbol_among cs.list input symbol
symbol_of_winner cs (winner.Import input symbol) = symbol_among cs.list input symbol
symbol_of_winner cs (winner.Common size align) = None
symbol_of_winner cs winner.Made = None
symbol_of_winner cs winner.Nothing = None

-- the symbol in a shared input that a winner is, where it is an import
abbrev pub import_symbol : Contributions → Winner → Option Global
import_symbol cs (winner.Import input symbol) = symbol_among cs.list input symbol
import_symbol cs (winner.Strong input symbol) = None
import_symbol cs (winner.Weak input symbol) = None
import_symbol cs (winner.Common size align) = None
import_symbol cs winner.Made = None
import_symbol cs winner.Nothing = None

-- whether a winner is thread-local, as its symbol says
abbrev pub is_tls_winner : Contributions → Winner → Bool
is_tls_winner cs w = elim (symbol_of_winner cs w) [ None ↦ false | Some g ↦ g.code == stt_tls ]

-- whether a winner is none
abbrev pub is_nothing : Winner → Bool
is_nothing w = elim w [ winner.Nothing ↦ true | winner.Strong i s ↦ false | winner.Common n a ↦ false | winner.Weak i s ↦ false | winner.Made ↦ false | winner.Import i s ↦ false ]

-- whether a winner is in an object
abbrev pub is_in_object : Winner → Bool
is_in_object w = elim w [ winner.Nothing ↦ false | winner.Strong i s ↦ true | winner.Common n a ↦ true | winner.Weak i s ↦ true | winner.Made ↦ false | winner.Import i s ↦ false ]
