-- This project's own: which names are wanted, and which members of a lib group, as the table of the names
-- reports.
use Rattle.std.specs.Prelude.{ℕ, Bool, true, false, ◌&&◌, ◌||◌, List, Option, Some, None, slice_get, option_and_then}
use Rattle.std.specs.List.{list_any}
use Rattle.std.specs.Str.{bytes_eq}
use Rattle.lk_comdat.specs.Claims.{signatures_of}
use Rattle.lk_model.specs.declared.summaries.Global.{Global}
use Rattle.lk_model.specs.declared.summaries.Home.{Home}
use Rattle.lk_model.specs.declared.summaries.Home.TheVariants as home
use Rattle.lk_model.specs.Numbered.{Numbered, is_number_in}
use Rattle.lk_model.specs.Winners.{is_nothing}
use Rattle.lk_resolve.specs.LeftSections.{left_in}
use Rattle.lk_resolve.specs.States.{State}
use Rattle.lk_symtab.specs.NameRows.{NameRow, number_of, row_needed, row_winner}

-- whether the name of a row is wanted: it is the entry name or an object needs it, and it means nothing
abbrev pub is_row_wanted : List ℕ → List ℕ → NameRow → Bool
is_row_wanted entry name row = (bytes_eq entry name || row_needed row) && is_nothing (row_winner row)

-- whether a name with a row is wanted, or one without, which is where it is the entry name
abbrev pub wants_row : List ℕ → List ℕ → Option NameRow → Bool
wants_row entry name None = bytes_eq entry name
wants_row entry name (Some row) = is_row_wanted entry name row

-- whether a name is wanted, by its row in a table
abbrev pub wants_name : List ℕ → List NameRow → List ℕ → Bool
wants_name entry rows name = wants_row entry name (option_and_then (slice_get rows) (number_of rows name))

-- whether a symbol has a place, in whatever section, and where these sections are left
abbrev pub is_home_placed : Home → Bool
is_home_placed h = elim h [ home.Undefined ↦ false | home.Section s ↦ true | home.Absolute ↦ true | home.Common ↦ false | home.Shared ↦ false ]

abbrev pub is_placed_in : List ℕ → Home → Bool
is_placed_in left h = elim h [ home.Undefined ↦ false | home.Section s ↦ is_number_in left s | home.Absolute ↦ true | home.Common ↦ false | home.Shared ↦ false ]

-- whether some symbol with a place has a wanted name
abbrev pub places_wanted : List ℕ → List NameRow → List Global → Bool
places_wanted entry rows globals = list_any (λ (g : Global). is_home_placed g.home && wants_name entry rows g.name) globals

-- whether some symbol defines a wanted name, where these sections are left
abbrev pub defines_wanted : List ℕ → List NameRow → List ℕ → List Global → Bool
defines_wanted entry rows left globals = list_any (λ (g : Global). is_placed_in left g.home && wants_name entry rows g.name) globals

-- whether an input is wanted: with its groups claimed as if it came next, it defines a wanted name
unfoldable pub wants : State → Numbered → Bool
wants s x = defines_wanted s.entry s.rows (left_in (signatures_of s.claims) x.summary) x.summary.globals
