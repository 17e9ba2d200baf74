-- The value of each name and each LOCAL symbol at a placement, over what is resolved and the summaries of the
-- inputs (gABI "Symbol Table"; psABI x86-64 "Relocation Types").
use Rattle.std.specs.Prelude.{ℕ, ◌+◌, List, [], ◌∷◌, Option, Some, None, unwrap_or, option_map}
use Rattle.lk_model.specs.SymbolValues.{home_value, import_value, is_placed_home, is_placed_winner, placed_address, plt_address}
use Rattle.lk_model.specs.declared.layouts.PieceId.TheVariants as id
use Rattle.lk_model.specs.declared.layouts.Placement.{Placement}
use Rattle.lk_model.specs.declared.summaries.InputSummary.{InputSummary}
use Rattle.lk_model.specs.declared.summaries.Local.{Local}
use Rattle.lk_model.specs.declared.summaries.Winner.{Winner}
use Rattle.lk_model.specs.declared.summaries.Winner.TheVariants as winner
use Rattle.lk_symtab.specs.NameRows.{NameRow, row_winner}
use Rattle.lk_symbol_values.specs.InputSymbols.{symbol_in}
use Rattle.lk_symbol_values.specs.MadeValues.{made_in}
use Rattle.lk_symbol_values.specs.Sections.{low_64}
use Rattle.lk_symbol_values.specs.declared.name_values.SymbolValue.{SymbolValue}

-- the value and the size of a symbol of an input
abbrev pub definition_in : List InputSummary → Placement → ℕ → ℕ → ℕ
definition_in summaries place input symbol =
    elim (symbol_in summaries input symbol) [ None ↦ 0 | Some g ↦ home_value place input g.home g.value ]

abbrev pub symbol_size_in : List InputSummary → ℕ → ℕ → ℕ
symbol_size_in summaries input symbol = elim (symbol_in summaries input symbol) [ None ↦ 0 | Some g ↦ g.size ]

-- what an input or a placed piece says of a name: the value of its definition, the address of its common block or
-- of its copy
abbrev pub given_in : List InputSummary → Placement → ℕ → Winner → ℕ
given_in summaries place n winner.Nothing = 0
given_in summaries place n (winner.Strong i k) = definition_in summaries place i k
given_in summaries place n (winner.Common size align) = placed_address place (id.Common n)
given_in summaries place n (winner.Weak i k) = definition_in summaries place i k
given_in summaries place n winner.Made = 0
given_in summaries place n (winner.Import i k) = placed_address place (id.Copy n)

-- the value of a name by its winner: of what inputs and pieces say of it, and of what the linker makes of it
abbrev pub value_by : Placement → ℕ → ℕ → ℕ → Winner → ℕ
value_by place given made n winner.Nothing = 0
value_by place given made n (winner.Strong i k) = given
value_by place given made n (winner.Common size align) = given
value_by place given made n (winner.Weak i k) = given
value_by place given made n winner.Made = made
value_by place given made n (winner.Import i k) = import_value place n

abbrev pub value_in : List InputSummary → Placement → ℕ → ℕ → Winner → ℕ
value_in summaries place made n w = value_by place (given_in summaries place n w) made n w

-- the PLT entry of an import, and the value otherwise
abbrev pub call_in : Placement → Winner → ℕ → ℕ → ℕ
call_in place (winner.Import i k) n s = unwrap_or (option_map low_64 (plt_address place n)) s
call_in place _ n s = s

-- the size of what a name means
abbrev pub size_in : List InputSummary → Winner → ℕ
size_in summaries winner.Nothing = 0
size_in summaries (winner.Strong i k) = symbol_size_in summaries i k
size_in summaries (winner.Common size align) = size
size_in summaries (winner.Weak i k) = symbol_size_in summaries i k
size_in summaries winner.Made = 0
size_in summaries (winner.Import i k) = symbol_size_in summaries i k

-- what a GOT slot holds: of an import the address of its copy, which is given, else the value
abbrev pub slot_content_by : ℕ → Winner → ℕ → ℕ
slot_content_by given (winner.Import i k) s = low_64 given
slot_content_by given _ s = s

-- the value of a name
abbrev pub value_of_winner : List InputSummary → Placement → ℕ → ℕ → Winner → SymbolValue
value_of_winner summaries place made n w =
    let s = low_64 (value_in summaries place made n w) in
    record {
      value = s;
      call = call_in place w n s;
      size = size_in summaries w;
      placed = is_placed_winner w;
      got_content = slot_content_by (given_in summaries place n w) w s;
    }

-- what the linker makes of a name; 0 where it does not make it
abbrev pub made_by : Placement → List ℕ → Winner → ℕ
made_by place name winner.Made = made_in place name
made_by place name _ = 0

-- the value of the name of a row
abbrev pub value_of_row : List InputSummary → Placement → Placement → ℕ → NameRow → SymbolValue
value_of_row summaries place made n row =
    value_of_winner summaries place (made_by made row.contributions.name (row_winner row)) n (row_winner row)

-- what inputs and placed pieces give of the name of a row; 0 without a row
abbrev pub given_at : List InputSummary → Placement → ℕ → Option NameRow → ℕ
given_at summaries place n None = 0
given_at summaries place n (Some row) = given_in summaries place n (row_winner row)

abbrev pub values_at : List InputSummary → Placement → Placement → ℕ → Option NameRow → List SymbolValue
values_at summaries place made n None = []
values_at summaries place made n (Some row) = value_of_row summaries place made n row ∷ []

-- the value of the names of rows, where the first has this number
abbrev pub values_from : List InputSummary → Placement → Placement → ℕ → List NameRow → List SymbolValue
values_from summaries place made n [] = []
values_from summaries place made n (row ∷ rows) = value_of_row summaries place made n row ∷ values_from summaries place made (n + 1) rows

-- the value of a LOCAL symbol
abbrev pub local_value_of : Placement → ℕ → Local → SymbolValue
local_value_of place input l =
    let s = low_64 (home_value place input l.home l.value) in
    record {
      value = s;
      call = s;
      size = l.size;
      placed = is_placed_home place input l.home;
      got_content = s;
    }
