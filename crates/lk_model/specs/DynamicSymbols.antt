-- `.dynsym` (gABI "Symbol Table", "Dynamic Section"; psABI x86-64 "Function Addresses": the value of an
-- import whose PLT entry is the function's address), entry by entry.
use Rattle.std.specs.Prelude.{ℕ, ◌==◌, Bool, ◌&&◌, if◌then◌else◌, List, ◌∷◌, map, flat_map, Option, Some, None, option_map, unwrap_or}
use Rattle.std.specs.List.{list_any}
use Rattle.lk_elf.specs.Numbers.{shn_undef, stb_global, stb_weak}
use Rattle.lk_elf.specs.Records.{sym_bytes}
use Rattle.lk_elf.specs.declared.symbol.Sym.{Sym}
use Rattle.lk_model.specs.DynamicNames.{dynamic_names}
use Rattle.lk_model.specs.DynamicTexts.{dynamic_texts}
use Rattle.lk_model.specs.Numbered.{is_number_in}
use Rattle.lk_model.specs.Resolving.{contributions_at}
use Rattle.lk_model.specs.SymbolEntries.{symbol_info, null_entry, piece_header_number, definition_entry, common_entry}
use Rattle.lk_model.specs.SymbolValues.{name_of, winner_of_name, symbol_of, placed_address, plt_address}
use Rattle.lk_model.specs.Symbols.{is_of_object}
use Rattle.lk_model.specs.Texts.{offset_in}
use Rattle.lk_model.specs.Views.{Resolved}
use Rattle.lk_model.specs.declared.layouts.PieceId.TheVariants as id
use Rattle.lk_model.specs.declared.layouts.Placement.{Placement}
use Rattle.lk_model.specs.declared.summaries.Contribution.{Contribution}
use Rattle.lk_model.specs.declared.summaries.Contributions.{Contributions}
use Rattle.lk_model.specs.declared.summaries.Global.{Global}
use Rattle.lk_model.specs.declared.summaries.Winner.{Winner}
use Rattle.lk_model.specs.declared.summaries.Winner.TheVariants as winner

-- whether one of a name's symbols in objects is GLOBAL
abbrev pub is_global_in_object : Contributions → Bool
is_global_in_object cs = list_any (λ (c : Contribution). is_of_object c && (c.global.binding == stb_global)) cs.list

-- the binding by which an image refers to an import: that of its objects, the stronger one
abbrev pub import_binding : Resolved → ℕ → ℕ
import_binding r n =
    elim (contributions_at r n) [ None ↦ stb_weak | Some cs ↦ if is_global_in_object cs then stb_global else stb_weak ]

-- the value of an import without a copy: its PLT entry where that is the function's address, else 0
abbrev pub uncopied_value : Resolved → Placement → ℕ → ℕ
uncopied_value r place n = if is_number_in r.needs.address n then unwrap_or (plt_address place n) 0 else 0

-- the entry of a copy, which is defined in this image, with the import's size and type
unfoldable pub copy_entry : Resolved → Placement → ℕ → ℕ → Global → Sym
copy_entry r place text n g = record {
  st_name = text;
  st_info = symbol_info (import_binding r n) g.code;
  st_other = 0;
  st_shndx = piece_header_number place (id.Copy n);
  st_value = placed_address place (id.Copy n);
  st_size = g.size;
}

-- the entry of any other import, which is undefined here
unfoldable pub undefined_entry : Resolved → Placement → ℕ → ℕ → Global → Sym
undefined_entry r place text n g = record {
  st_name = text;
  st_info = symbol_info (import_binding r n) g.code;
  st_other = 0;
  st_shndx = shn_undef;
  st_value = uncopied_value r place n;
  st_size = 0;
}

abbrev pub import_entry : Resolved → Placement → ℕ → ℕ → Global → Sym
import_entry r place text n g = if is_number_in r.needs.copies n then copy_entry r place text n g else undefined_entry r place text n g

-- the entry of a name by its winner; a symbol that the linker makes and a name without winner have none
abbrev pub entry_by_winner : Resolved → Placement → ℕ → ℕ → Winner → Option Sym
entry_by_winner r place text n (winner.Strong i k) = option_map (definition_entry r place text n i) (symbol_of r i k)
entry_by_winner r place text n (winner.Weak i k) = option_map (definition_entry r place text n i) (symbol_of r i k)
entry_by_winner r place text n (winner.Common size align) = Some (common_entry r place text n size)
entry_by_winner r place text n (winner.Import i k) = option_map (import_entry r place text n) (symbol_of r i k)
entry_by_winner r place text n winner.Made = None
entry_by_winner r place text n winner.Nothing = None

-- the entry of a dynamic name, each of which has one
abbrev pub dynsym_entry : Resolved → Placement → List (List ℕ) → ℕ → Sym
dynsym_entry r place texts n = unwrap_or (entry_by_winner r place (offset_in texts (name_of r n)) n (winner_of_name r n)) null_entry

-- the entries of `.dynsym`: the null symbol, then the dynamic names in order of names
unfoldable pub dynsym_entries : Resolved → Placement → List Sym
dynsym_entries r place =
    let texts = dynamic_texts r in
    null_entry ∷ map (dynsym_entry r place texts) (dynamic_names r)

-- their bytes
unfoldable pub dynsym_bytes : Resolved → Placement → List ℕ
dynsym_bytes r place = flat_map sym_bytes (dynsym_entries r place)
