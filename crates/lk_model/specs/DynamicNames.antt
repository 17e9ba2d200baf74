-- Which names the dynamic symbol table has (gABI "Symbol Table", "Dynamic Section", DT_SYMTAB). The
-- choice is this project's own: the imports that the link needs, and the definitions that a shared
-- input may ask for.
use Rattle.std.specs.Prelude.{ℕ, ◌+◌, ◌==◌, Bool, false, ◌&&◌, ◌||◌, not, if◌then◌else◌, List, [], map, filter, zip}
use Rattle.std.specs.List.{list_any, enumerate_from, position_or_len}
use Rattle.lk_elf.specs.Numbers.{stv_default, stv_protected}
use Rattle.lk_model.specs.declared.layouts.GotKey.{GotKey}
use Rattle.lk_model.specs.declared.layouts.GotOwner.TheVariants as owner
use Rattle.lk_model.specs.declared.layouts.Needs.{Needs}
use Rattle.lk_model.specs.declared.summaries.Contribution.{Contribution}
use Rattle.lk_model.specs.declared.summaries.Contributions.{Contributions}
use Rattle.lk_model.specs.declared.summaries.Winner.{Winner}
use Rattle.lk_model.specs.declared.summaries.Winner.TheVariants as winner
use Rattle.lk_model.specs.Numbered.{is_number_in}
use Rattle.lk_model.specs.Symbols.{is_of_object}
use Rattle.lk_model.specs.Views.{Resolved}

-- whether a slot is that of a name
abbrev pub is_slot_of_name : ℕ → GotKey → Bool
is_slot_of_name n key = elim key.owner [ owner.Global m ↦ n == m | owner.Local i k ↦ false ]

-- whether an import has a PLT entry, a GOT slot or a copy
abbrev pub is_needed_import : Needs → ℕ → Bool
is_needed_import needs n = is_number_in needs.plt n || (list_any (is_slot_of_name n) needs.got || is_number_in needs.copies n)

-- whether a shared input defines a name or refers to it
abbrev pub is_named_by_shared : Contributions → Bool
is_named_by_shared cs = list_any (λ (c : Contribution). not (is_of_object c)) cs.list

-- whether a definition of this visibility can be seen from outside its image (gABI "Symbol Table",
-- st_other)
abbrev pub is_seen_outside : ℕ → Bool
is_seen_outside visibility = (visibility == stv_default) || (visibility == stv_protected)

-- whether a definition in an object is exported, where all are asked for or only those that a shared
-- input names
abbrev pub is_exported : Bool → Contributions → ℕ → Bool
is_exported all cs visibility = is_seen_outside visibility && (all || is_named_by_shared cs)

-- whether a name is a dynamic one, by its number, its symbols, its winner and its visibility; a symbol
-- that the linker makes is none
abbrev pub is_dynamic_name : Resolved → ℕ → Contributions → Winner → ℕ → Bool
is_dynamic_name r n cs (winner.Import i k) visibility = is_needed_import r.needs n
is_dynamic_name r n cs (winner.Strong i k) visibility = is_exported r.options.export_dynamic cs visibility
is_dynamic_name r n cs (winner.Common size align) visibility = is_exported r.options.export_dynamic cs visibility
is_dynamic_name r n cs (winner.Weak i k) visibility = is_exported r.options.export_dynamic cs visibility
is_dynamic_name r n cs winner.Made visibility = false
is_dynamic_name r n cs winner.Nothing visibility = false

-- a name's number with its symbols, its winner and its visibility
abbrev pub RankedName : Type 0
RankedName = ℕ × (Contributions × (Winner × ℕ))

-- the names with what resolution finds of them, in their order
abbrev pub name_rows : Resolved → List RankedName
name_rows r = enumerate_from 0 (zip r.names (zip r.winners r.visibilities))

-- the dynamic names with what resolution finds of them, in order of names; a static link has none
unfoldable pub dynamic_rows : Resolved → List RankedName
dynamic_rows r =
    if r.options.dynamic then filter (λ (x : RankedName). is_dynamic_name r x.0 x.1.0 x.1.1.0 x.1.1.1) (name_rows r) else []

-- their numbers
unfoldable pub dynamic_names : Resolved → List ℕ
dynamic_names r = map (λ (x : RankedName). x.0) (dynamic_rows r)

-- their texts
abbrev pub dynamic_name_texts : Resolved → List (List ℕ)
dynamic_name_texts r = map (λ (x : RankedName). x.1.0.name) (dynamic_rows r)

-- the number of a dynamic name's entry in the table, whose entry 0 is the null symbol
abbrev pub dynsym_number : List ℕ → ℕ → ℕ
dynsym_number names n = position_or_len (λ m. m == n) names + 1
