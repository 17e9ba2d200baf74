-- How many bytes each table of a link has (gABI "Dynamic Linking"; psABI x86-64 "Global Offset Table",
-- "Procedure Linkage Table"), by a `Resolution`, the summaries of the inputs, the needs and the options.
use Rattle.std.specs.Prelude.{ℕ, ◌+◌, ◌*◌, cond, List, [], ◌∷◌, ◌++◌, length}
use Rattle.lk_report.specs.declared.causes.OptionRecord.{OptionRecord}
use Rattle.lk_elf.specs.Numbers.{sym_size, rela_size, dyn_size}
use Rattle.lk_model.specs.declared.layouts.Needs.{Needs}
use Rattle.lk_model.specs.declared.layouts.SectionKey.{SectionKey}
use Rattle.lk_model.specs.declared.summaries.InputSummary.{InputSummary}
use Rattle.lk_model.specs.DynamicKeys.{interp_key, hash_key, dynsym_key, dynstr_key, rela_dyn_key, rela_plt_key, plt_key, dynamic_key}
use Rattle.lk_model.specs.DynamicSizes.{plt_entry_size}
use Rattle.lk_model.specs.DynamicTexts.{interpreter_path}
use Rattle.lk_model.specs.HashTable.{word_count}
use Rattle.lk_model.specs.SectionKeys.{got_key, got_plt_key}
use Rattle.lk_model.specs.Texts.{table_bytes}
use Rattle.lk_resolve.specs.Settling.{ResolutionValue}
use Rattle.lk_dyn_sizes.specs.declared.size_rows.DynamicCounts.{DynamicCounts}
use Rattle.lk_dyn_sizes.specs.declared.size_rows.DynamicSizes.{DynamicSizes}
use Rattle.lk_dyn_sizes.specs.DynamicRows.{copied_in, copied_numbers, dynamic_in}
use Rattle.lk_dyn_sizes.specs.DynamicStrings.{needed_in, strings_in}
use Rattle.lk_dyn_sizes.specs.EntryCounts.{entry_count_in}
use Rattle.lk_dyn_sizes.specs.Fills.{filled_count}

-- the counts of the tables of a dynamic link: the bytes of the two texts, and the numbers of entries
abbrev pub counts_in : List SectionKey → ResolutionValue → List InputSummary → Needs → OptionRecord → DynamicCounts
counts_in keys resolution summaries needs options = record {
  interp = length (interpreter_path options.interp) + 1;
  symbols = length (dynamic_in resolution needs options) + 1;
  strings = length (table_bytes (strings_in resolution summaries needs options));
  fills = filled_count resolution.rows (copied_numbers needs) needs.got + length (copied_in resolution needs);
  calls = length needs.plt;
  entries = entry_count_in (length (needed_in resolution summaries)) options.runpath resolution.rows keys;
}

-- their sizes
abbrev pub sizes_of : DynamicCounts → DynamicSizes
sizes_of c = record {
  interp = c.interp;
  hash = 4 * word_count c.symbols;
  dynsym = sym_size * c.symbols;
  dynstr = c.strings;
  rela_dyn = rela_size * c.fills;
  rela_plt = rela_size * c.calls;
  plt = plt_entry_size * (1 + c.calls);
  dynamic = dyn_size * c.entries;
}

-- the tables that every link has
abbrev pub static_pairs : Needs → List (SectionKey × ℕ)
static_pairs needs = (got_key, 8 * length needs.got) ∷ (got_plt_key, 8 * (3 + length needs.plt)) ∷ []

-- those that a dynamic one has besides: of symbols and texts; of what the dynamic linker fills and calls,
-- and the dynamic section
abbrev pub symbol_pairs : DynamicSizes → List (SectionKey × ℕ)
symbol_pairs s = (interp_key, s.interp) ∷ (hash_key, s.hash) ∷ (dynsym_key, s.dynsym) ∷ (dynstr_key, s.dynstr) ∷ []

abbrev pub call_pairs : DynamicSizes → List (SectionKey × ℕ)
call_pairs s = (rela_dyn_key, s.rela_dyn) ∷ (rela_plt_key, s.rela_plt) ∷ (plt_key, s.plt) ∷ (dynamic_key, s.dynamic) ∷ []

abbrev pub dynamic_pairs : DynamicSizes → List (SectionKey × ℕ)
dynamic_pairs s = symbol_pairs s ++ call_pairs s

-- the tables of a link with their sizes, where output sections of these keys exist
abbrev pub sizes_in : List SectionKey → ResolutionValue → List InputSummary → Needs → OptionRecord → List (SectionKey × ℕ)
sizes_in keys resolution summaries needs options =
    static_pairs needs ++ cond resolution.dynamic (dynamic_pairs (sizes_of (counts_in keys resolution summaries needs options))) []
