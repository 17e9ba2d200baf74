-- The entries of symbol tables by what code has of a link (gABI "Symbol Table"; psABI x86-64 "Function Addresses": the
-- value of an import whose PLT entry is the function's address).
use Rattle.std.specs.Prelude.{◌≡◌, ℕ, ◌==◌, nat_eq, Bool, ◌&&◌, if◌then◌else◌, List, Option, Some, None, unwrap_or}
use Rattle.lk_elf.specs.Numbers.{shn_undef, stb_global, stb_weak}
use Rattle.lk_elf.specs.Records.{sym_bytes}
use Rattle.lk_elf.specs.declared.symbol.Sym.{Sym}
use Rattle.lk_model.specs.DynamicSymbols.{dynsym_entry, is_global_in_object}
use Rattle.lk_model.specs.Numbered.{distinct, is_number_in}
use Rattle.lk_model.specs.SymbolEntries.{name_visibility, piece_header_number}
use Rattle.lk_model.specs.SymbolTable.{symtab_entry}
use Rattle.lk_model.specs.SymbolValues.{name_value, placed_address, plt_address}
use Rattle.lk_model.specs.Symbols.{is_of_object}
use Rattle.lk_model.specs.Views.{Resolved}
use Rattle.lk_model.specs.declared.layouts.Needs.{Needs}
use Rattle.lk_model.specs.declared.layouts.PieceId.TheVariants as id
use Rattle.lk_model.specs.declared.layouts.Placement.{Placement}
use Rattle.lk_model.specs.declared.summaries.Contribution.{Contribution}
use Rattle.lk_model.specs.declared.summaries.Contributions.{Contributions}
use Rattle.lk_model.specs.declared.summaries.Global.{Global}
use Rattle.lk_model.specs.declared.summaries.InputSummary.{InputSummary}
use Rattle.lk_model.specs.declared.summaries.Winner.{Winner}
use Rattle.lk_model.specs.declared.summaries.Winner.TheVariants as winner
use Rattle.lk_resolve.specs.Settling.{ResolutionValue}
use Rattle.lk_symbol_values.specs.InputSymbols.{symbol_in}
use Rattle.lk_symbol_values.specs.SymbolNumbering.{ValueInputs}
use Rattle.lk_dyn.specs.LowBits.{low_64}
use Rattle.lk_dyn_tables.specs.SymbolEntries.{common_of, copy_of, definition_of, imported_of, made_of, null_of, undefined_of}
use Rattle.lk_dyn_tables.specs.declared.symbol_entries.NameFields.{NameFields}
use Rattle.lk_dyn_tables.specs.declared.symbol_entries.SymbolEntry.{SymbolEntry}
use Rattle.lk_dyn_tables.specs.declared.symbols.SymbolTable.{SymbolTable}
use Rattle.lk_dyn_tables.specs.declared.symbols.SymbolTable.TheVariants as table

-- what symbol tables are made of: the resolution, the summaries of the inputs, the placement, the needs
pub record SymbolInputs : Type 0 where
  pub resolution : ResolutionValue
  pub summaries : List InputSummary
  pub place : Placement
  pub needs : Needs

-- that without the needs
abbrev pub known_of : SymbolInputs → ValueInputs
known_of s = record { resolution = s.resolution; summaries = s.summaries; place = s.place }

-- the rows and sets that are looked up are those of the placement and the needs
pub record AreSymbols (places : Placement) (copied addressed : List ℕ) (place : Placement) (needs : Needs) : Type 0 where
  pub place_is : places ≡ place
  pub copied_are : copied ≡ distinct nat_eq needs.copies
  pub addressed_are : addressed ≡ distinct nat_eq needs.address

-- whether a symbol of a name is a GLOBAL one of an object
abbrev pub is_global_here : Contribution → Bool
is_global_here c = is_of_object c && (c.global.binding == stb_global)

-- the binding by which an image refers to an import with these symbols
abbrev pub binding_of : Contributions → ℕ
binding_of cs = if is_global_in_object cs then stb_global else stb_weak

-- what a name alone decides of its entry; the value by its low bits
abbrev pub fields_of : Resolved → Placement → ℕ → ℕ → NameFields
fields_of r place text n = record { text = text; visibility = name_visibility r n; value = low_64 (name_value r place n) }

-- the low bits of the value of an import without a copy
abbrev pub uncopied_in : SymbolInputs → ℕ → ℕ
uncopied_in s n = if is_number_in s.needs.address n then low_64 (unwrap_or (plt_address s.place n) 0) else 0

-- the entry of an import in `.dynsym`, and in `.symtab`
abbrev pub dynsym_import_in : SymbolInputs → ℕ → ℕ → ℕ → Global → SymbolEntry
dynsym_import_in s text binding n g =
    if is_number_in s.needs.copies n then copy_of s.place text binding n g else undefined_of text binding (uncopied_in s n) g

abbrev pub symtab_import_in : SymbolInputs → NameFields → ℕ → Global → SymbolEntry
symtab_import_in s name n g =
    if is_number_in s.needs.copies n then imported_of name (piece_header_number s.place (id.Copy n)) (placed_address s.place (id.Copy n)) g
    else imported_of name shn_undef (uncopied_in s n) g

abbrev pub import_at : SymbolInputs → SymbolTable → NameFields → ℕ → ℕ → Global → SymbolEntry
import_at s table.Dynsym name binding n g = dynsym_import_in s name.text binding n g
import_at s table.Symtab name binding n g = symtab_import_in s name n g

abbrev pub import_in : SymbolInputs → SymbolTable → NameFields → ℕ → ℕ → Option Global → SymbolEntry
import_in s t name binding n None = null_of
import_in s t name binding n (Some g) = import_at s t name binding n g

-- the entry of a definition that is a symbol of an input
abbrev pub definition_in : SymbolInputs → NameFields → ℕ → Option Global → SymbolEntry
definition_in s name input None = null_of
definition_in s name input (Some g) = definition_of s.place name input g

-- the entry of a symbol that the linker makes
abbrev pub made_in : SymbolTable → NameFields → SymbolEntry
made_in table.Dynsym name = null_of
made_in table.Symtab name = made_of name

-- the entry of a name by its winner
abbrev pub entry_in : SymbolInputs → SymbolTable → NameFields → ℕ → ℕ → Winner → SymbolEntry
entry_in s t name binding n winner.Nothing = null_of
entry_in s t name binding n (winner.Strong i k) = definition_in s name i (symbol_in s.summaries i k)
entry_in s t name binding n (winner.Common size align) = common_of s.place name n size
entry_in s t name binding n (winner.Weak i k) = definition_in s name i (symbol_in s.summaries i k)
entry_in s t name binding n winner.Made = made_in t name
entry_in s t name binding n (winner.Import i k) = import_in s t name binding n (symbol_in s.summaries i k)

-- lk_model's entry of a name in one of the two tables, and its bytes
abbrev pub symbol_entry : SymbolTable → Resolved → Placement → List (List ℕ) → ℕ → Sym
symbol_entry table.Dynsym r place texts n = dynsym_entry r place texts n
symbol_entry table.Symtab r place texts n = symtab_entry r place texts n

abbrev pub entry_bytes : SymbolTable → Resolved → Placement → List (List ℕ) → ℕ → List ℕ
entry_bytes t r place texts n = sym_bytes (symbol_entry t r place texts n)
