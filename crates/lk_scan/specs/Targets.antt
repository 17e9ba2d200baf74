-- This project's own: the target of a reference, by the rows of the names and the kept sections alone.
use Rattle.std.specs.Prelude.{ℕ, ◌==◌, Bool, false, ◌&&◌, ◌||◌, not, List, find, length, map, Option, Some, None, option_map, option_and_then, slice_get, unwrap_or}
use Rattle.std.specs.List.{range_with_len}
use Rattle.lk_elf.specs.Numbers.{stb_weak}
use Rattle.lk_elf.specs.declared.relocation.Rela.{Rela}
use Rattle.lk_model.specs.declared.layouts.SectionKey.{SectionKey}
use Rattle.lk_model.specs.declared.summaries.Contributions.{Contributions}
use Rattle.lk_model.specs.declared.summaries.Global.{Global}
use Rattle.lk_model.specs.declared.summaries.InputSummary.{InputSummary}
use Rattle.lk_model.specs.declared.summaries.Winner.{Winner}
use Rattle.lk_model.specs.Objects.{local_in}
use Rattle.lk_model.specs.ScanFaults.{is_tls_local, is_tls_section, needs_local_sections, of_local_section}
use Rattle.lk_model.specs.Views.{Elf, Through}
use Rattle.lk_model.specs.Winners.{import_symbol, is_nothing, is_tls_winner}
use Rattle.lk_resolve.specs.Settling.{ResolutionValue, is_place_kept}
use Rattle.lk_symtab.specs.NameRows.{NameRow, all_symbols, row_winner}
use Rattle.lk_symtab.specs.NamesOfSymbols.{name_of_symbol}
use Rattle.lk_scan.specs.declared.targets.Import.{Import}
use Rattle.lk_scan.specs.declared.targets.Referral.{Referral}
use Rattle.lk_scan.specs.declared.targets.Setting.{Setting}
use Rattle.lk_scan.specs.declared.targets.Target.{Target}
use Rattle.lk_scan.specs.declared.targets.Way.TheVariants as way
use Rattle.lk_model.specs.SectionKeys.{is_alloc}
use Rattle.lk_elf.specs.RelocationInfo.{r_type_of}
use Rattle.lk_elf.specs.RelocationInfo.{r_symbol_of}

-- the symbol in a shared input that the name with a number means, where it means an import
abbrev pub row_import : NameRow → Option Global
row_import row = import_symbol row.contributions (row_winner row)

abbrev pub import_in : List NameRow → ℕ → Option Global
import_in rows number = option_and_then row_import (slice_get rows number)

-- what is kept of an import
abbrev pub import_seen : ℕ → Global → Import
import_seen number g = record { name = number; code = g.code; size = g.size }

-- the target of a name that has no symbol, and of one with these symbols and this winner
abbrev pub unknown_target : ℕ → Bool → Target
unknown_target number weak = record { way = way.Name number weak; is_undefined = false; is_dropped = false; is_tls = false; is_no_tls = false; import = None }

abbrev pub target_with : ℕ → Bool → Contributions → Winner → Target
target_with number weak cs w = record {
  way = way.Name number weak;
  is_undefined = not weak && is_nothing w;
  is_dropped = false;
  is_tls = is_tls_winner cs w;
  is_no_tls = not (is_nothing w) && not (is_tls_winner cs w);
  import = option_map (import_seen number) (import_symbol cs w);
}

-- the target of the name with a number
abbrev pub name_target : List NameRow → ℕ → Bool → Target
name_target rows number weak = elim (slice_get rows number) [ None ↦ unknown_target number weak | Some row ↦ target_with number weak row.contributions (row_winner row) ]

-- the targets of all names, by their numbers, for references that are not weak; and the target of a name for a
-- reference that is weak or not
abbrev pub meanings_of : List NameRow → List Target
meanings_of rows = map (λ n. name_target rows n false) (range_with_len 0 (length rows))

abbrev pub to_weak : ℕ → Bool → Target → Target
to_weak number weak t = record t { way = way.Name number weak; is_undefined = not weak && t.is_undefined }

-- the target of a LOCAL symbol of this file
abbrev pub local_target : ResolutionValue → Elf → ℕ → ℕ → Target
local_target resolution elf input symbol = record {
  way = way.Local symbol;
  is_undefined = false;
  is_dropped = of_local_section (local_in elf symbol) (λ s. not (is_place_kept resolution.kept input s));
  is_tls = is_tls_local (local_in elf symbol);
  is_no_tls = not (is_tls_local (local_in elf symbol) || of_local_section (local_in elf symbol) (is_tls_section elf));
  import = None;
}

-- the target of a reference
abbrev pub target_at : ResolutionValue → Elf → ℕ → Through → Target
target_at resolution elf input (Through.ByName number weak) = name_target resolution.rows number weak
target_at resolution elf input (Through.ByLocal symbol) = local_target resolution elf input symbol

-- the number of the name of a symbol of an input, by the symbol's number, or how many names there are where it was not
-- added; and through what a relocation of the input goes that names a symbol
abbrev pub number_of_symbol : List NameRow → ℕ → ℕ → ℕ
number_of_symbol rows input symbol = unwrap_or (name_of_symbol (all_symbols rows) input symbol) (length rows)

abbrev pub through_symbol : List NameRow → InputSummary → ℕ → ℕ → Through
through_symbol rows summary input symbol = elim (find (λ (g : Global). g.symbol == symbol) summary.globals) [
  | None ↦ Through.ByLocal symbol
  | Some g ↦ Through.ByName (number_of_symbol rows input g.symbol) (g.binding == stb_weak)
]

-- the target of the relocations that name a symbol of an object
abbrev pub symbol_target : ResolutionValue → Elf → InputSummary → ℕ → ℕ → Target
symbol_target resolution elf summary input symbol = target_at resolution elf input (through_symbol resolution.rows summary input symbol)

-- a relocation of a section as it is looked at
abbrev pub referral_of : ResolutionValue → Elf → InputSummary → ℕ → ℕ → Rela → Referral
referral_of resolution elf summary input section rela = record {
  input = input;
  section = section;
  offset = rela.r_offset;
  code = r_type_of rela;
  addend = rela.r_addend;
  target = symbol_target resolution elf summary input (r_symbol_of rela);
}

-- whether an output section is loaded, and whether references in it want their sections to be kept
abbrev pub setting_of : SectionKey → Setting
setting_of key = record { is_loaded = is_alloc key.class; wants_sections = needs_local_sections key }
