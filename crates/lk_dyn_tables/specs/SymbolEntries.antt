-- The entries of symbol tables by what code has of a name (gABI "Symbol Table"; psABI x86-64 "Function Addresses").
use Rattle.std.specs.Prelude.{ℕ}
use Rattle.lk_elf.specs.Numbers.{shn_abs, shn_undef, stb_global, stt_notype, stt_object}
use Rattle.lk_elf.specs.declared.symbol.Sym.{Sym}
use Rattle.lk_model.specs.SymbolEntries.{home_header_number, piece_header_number, symbol_info, tabled_value}
use Rattle.lk_model.specs.SymbolValues.{placed_address}
use Rattle.lk_model.specs.declared.layouts.PieceId.TheVariants as id
use Rattle.lk_model.specs.declared.layouts.Placement.{Placement}
use Rattle.lk_model.specs.declared.summaries.Global.{Global}
use Rattle.lk_dyn_tables.specs.declared.symbol_entries.NameFields.{NameFields}
use Rattle.lk_dyn_tables.specs.declared.symbol_entries.SymbolEntry.{SymbolEntry}

-- an entry as the symbol that it is
abbrev pub as_sym : SymbolEntry → Sym
as_sym e = record {
  st_name = e.text;
  st_info = symbol_info e.binding e.code;
  st_other = e.visibility;
  st_shndx = e.shndx;
  st_value = e.value;
  st_size = e.size;
}

abbrev pub null_of : SymbolEntry
null_of = record { text = 0; binding = 0; code = 0; visibility = 0; shndx = 0; value = 0; size = 0 }

abbrev pub definition_of : Placement → NameFields → ℕ → Global → SymbolEntry
definition_of place name input g = record {
  text = name.text;
  binding = g.binding;
  code = g.code;
  visibility = name.visibility;
  shndx = home_header_number place input g.home;
  value = tabled_value place g.code name.value;
  size = g.size;
}

abbrev pub common_of : Placement → NameFields → ℕ → ℕ → SymbolEntry
common_of place name n size = record {
  text = name.text;
  binding = stb_global;
  code = stt_object;
  visibility = name.visibility;
  shndx = piece_header_number place (id.Common n);
  value = name.value;
  size = size;
}

abbrev pub copy_of : Placement → ℕ → ℕ → ℕ → Global → SymbolEntry
copy_of place text binding n g = record {
  text = text;
  binding = binding;
  code = g.code;
  visibility = 0;
  shndx = piece_header_number place (id.Copy n);
  value = placed_address place (id.Copy n);
  size = g.size;
}

abbrev pub undefined_of : ℕ → ℕ → ℕ → Global → SymbolEntry
undefined_of text binding value g = record {
  text = text;
  binding = binding;
  code = g.code;
  visibility = 0;
  shndx = shn_undef;
  value = value;
  size = 0;
}

abbrev pub imported_of : NameFields → ℕ → ℕ → Global → SymbolEntry
imported_of name shndx value g = record {
  text = name.text;
  binding = g.binding;
  code = g.code;
  visibility = name.visibility;
  shndx = shndx;
  value = value;
  size = g.size;
}

abbrev pub made_of : NameFields → SymbolEntry
made_of name = record {
  text = name.text;
  binding = stb_global;
  code = stt_notype;
  visibility = name.visibility;
  shndx = shn_abs;
  value = name.value;
  size = 0;
}
