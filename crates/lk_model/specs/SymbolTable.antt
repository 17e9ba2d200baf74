-- `.symtab` and `.strtab` (gABI "Symbol Table", "String Table"), entry by entry. That the table has
-- exactly the names with a winner is this project's own.
use Rattle.std.specs.Prelude.{ℕ, not, if◌then◌else◌, List, ◌∷◌, map, flat_map, filter, length, Option, Some, None, option_map, unwrap_or}
use Rattle.std.specs.List.{range_with_len}
use Rattle.lk_elf.specs.Numbers.{shn_undef, shn_abs, stb_global, stt_notype}
use Rattle.lk_elf.specs.Records.{sym_bytes}
use Rattle.lk_elf.specs.declared.symbol.Sym.{Sym}
use Rattle.lk_model.specs.DynamicSymbols.{uncopied_value}
use Rattle.lk_model.specs.Numbered.{is_number_in}
use Rattle.lk_model.specs.SymbolEntries.{symbol_info, null_entry, piece_header_number, name_visibility, definition_entry, common_entry}
use Rattle.lk_model.specs.SymbolValues.{name_of, winner_of_name, name_value, symbol_of, placed_address}
use Rattle.lk_model.specs.Texts.{table_of, table_bytes, offset_in}
use Rattle.lk_model.specs.Views.{Resolved}
use Rattle.lk_model.specs.Winners.{is_nothing}
use Rattle.lk_model.specs.declared.layouts.PieceId.TheVariants as id
use Rattle.lk_model.specs.declared.layouts.Placement.{Placement}
use Rattle.lk_model.specs.declared.summaries.Global.{Global}
use Rattle.lk_model.specs.declared.summaries.Winner.{Winner}
use Rattle.lk_model.specs.declared.summaries.Winner.TheVariants as winner

-- the names that have a winner, by their numbers, in order of names
abbrev pub names_with_winner : Resolved → List ℕ
names_with_winner r = filter (λ n. not (is_nothing (winner_of_name r n))) (range_with_len 0 (length r.names))

-- their texts, after an empty one
unfoldable pub symbol_texts : Resolved → List (List ℕ)
symbol_texts r = table_of (map (name_of r) (names_with_winner r))

-- the section number and the value of an import: those of its copy, else none, and the value that the
-- dynamic symbol has
abbrev pub import_header_number : Resolved → Placement → ℕ → ℕ
import_header_number r place n = if is_number_in r.needs.copies n then piece_header_number place (id.Copy n) else shn_undef

abbrev pub import_address : Resolved → Placement → ℕ → ℕ
import_address r place n = if is_number_in r.needs.copies n then placed_address place (id.Copy n) else uncopied_value r place n

-- the entry of an import, as its shared input has it but for the place
unfoldable pub imported_entry : Resolved → Placement → ℕ → ℕ → Global → Sym
imported_entry r place text n g = record {
  st_name = text;
  st_info = symbol_info g.binding g.code;
  st_other = name_visibility r n;
  st_shndx = import_header_number r place n;
  st_value = import_address r place n;
  st_size = g.size;
}

-- the entry of a symbol that the linker makes: an absolute value
unfoldable pub made_entry : Resolved → Placement → ℕ → ℕ → Sym
made_entry r place text n = record {
  st_name = text;
  st_info = symbol_info stb_global stt_notype;
  st_other = name_visibility r n;
  st_shndx = shn_abs;
  st_value = name_value r place n;
  st_size = 0;
}

-- the entry of a name by its winner
abbrev pub symtab_entry_by_winner : Resolved → Placement → ℕ → ℕ → Winner → Option Sym
symtab_entry_by_winner r place text n (winner.Strong i k) = option_map (definition_entry r place text n i) (symbol_of r i k)
symtab_entry_by_winner r place text n (winner.Weak i k) = option_map (definition_entry r place text n i) (symbol_of r i k)
symtab_entry_by_winner r place text n (winner.Common size align) = Some (common_entry r place text n size)
symtab_entry_by_winner r place text n (winner.Import i k) = option_map (imported_entry r place text n) (symbol_of r i k)
symtab_entry_by_winner r place text n winner.Made = Some (made_entry r place text n)
symtab_entry_by_winner r place text n winner.Nothing = None

-- the entry of a name that has a winner, each of which has one
abbrev pub symtab_entry : Resolved → Placement → List (List ℕ) → ℕ → Sym
symtab_entry r place texts n = unwrap_or (symtab_entry_by_winner r place (offset_in texts (name_of r n)) n (winner_of_name r n)) null_entry

-- the entries of `.symtab`: the null symbol, then each name that has a winner, in order of names
unfoldable pub symtab_entries : Resolved → Placement → List Sym
symtab_entries r place =
    let texts = symbol_texts r in
    null_entry ∷ map (symtab_entry r place texts) (names_with_winner r)

-- the bytes of `.symtab`
unfoldable pub symbol_table_bytes : Resolved → Placement → List ℕ
symbol_table_bytes r place = flat_map sym_bytes (symtab_entries r place)

-- the bytes of `.strtab`
unfoldable pub symbol_names_bytes : Resolved → List ℕ
symbol_names_bytes r = table_bytes (symbol_texts r)
