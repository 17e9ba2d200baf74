-- What an entry of a symbol table says of a name that has a place in the image (gABI "Symbol Table",
-- "Thread-Local Storage": st_value of a thread-local symbol counts from its segment).
use Rattle.std.specs.Prelude.{ℕ, ◌+◌, ◌*◌, ◌==◌, if◌then◌else◌, Some, None, slice_get}
use Rattle.lk_elf.specs.Numbers.{shn_undef, shn_abs, stb_global, stt_object, stt_tls, stv_default}
use Rattle.lk_elf.specs.declared.symbol.Sym.{Sym}
use Rattle.lk_model.specs.Amounts.{minus}
use Rattle.lk_model.specs.Keys.{piece_row_of}
use Rattle.lk_model.specs.Segments.{tls_start}
use Rattle.lk_model.specs.SymbolValues.{name_value}
use Rattle.lk_model.specs.Views.{Resolved}
use Rattle.lk_model.specs.declared.layouts.PieceId.{PieceId}
use Rattle.lk_model.specs.declared.layouts.PieceId.TheVariants as id
use Rattle.lk_model.specs.declared.layouts.Placement.{Placement}
use Rattle.lk_model.specs.declared.summaries.Global.{Global}
use Rattle.lk_model.specs.declared.summaries.Home.{Home}
use Rattle.lk_model.specs.declared.summaries.Home.TheVariants as home

-- binding and type in one field (gABI "Symbol Table", st_info)
abbrev pub symbol_info : ℕ → ℕ → ℕ
symbol_info binding code = 16 * binding + code

-- the null symbol, which is entry 0 of each table
abbrev pub null_entry : Sym
null_entry = record { st_name = 0; st_info = 0; st_other = 0; st_shndx = shn_undef; st_value = 0; st_size = 0 }

-- the number of the section header of a piece's output section: header 0 is the null one, so that row n
-- has header n + 1
abbrev pub piece_header_number : Placement → PieceId → ℕ
piece_header_number place p = elim (piece_row_of place p) [ None ↦ shn_undef | Some row ↦ row.section + 1 ]

-- the section number of a definition of an input
abbrev pub home_header_number : Placement → ℕ → Home → ℕ
home_header_number place input (home.Section s) = piece_header_number place (id.Section input s)
home_header_number place input home.Absolute = shn_abs
home_header_number place input home.Undefined = shn_undef
home_header_number place input home.Common = shn_undef
home_header_number place input home.Shared = shn_undef

-- the value in an entry, of a symbol of this type and address
abbrev pub tabled_value : Placement → ℕ → ℕ → ℕ
tabled_value place code address = if code == stt_tls then minus address (tls_start place) else address

-- the visibility of a name
abbrev pub name_visibility : Resolved → ℕ → ℕ
name_visibility r n = elim (slice_get r.visibilities n) [ None ↦ stv_default | Some visibility ↦ visibility ]

-- the entry of a definition in an input; `text` is where its name is, `n` its name's number
unfoldable pub definition_entry : Resolved → Placement → ℕ → ℕ → ℕ → Global → Sym
definition_entry r place text n input g = record {
  st_name = text;
  st_info = symbol_info g.binding g.code;
  st_other = name_visibility r n;
  st_shndx = home_header_number place input g.home;
  st_value = tabled_value place g.code (name_value r place n);
  st_size = g.size;
}

-- the entry of a common block, which is a GLOBAL variable
unfoldable pub common_entry : Resolved → Placement → ℕ → ℕ → ℕ → Sym
common_entry r place text n size = record {
  st_name = text;
  st_info = symbol_info stb_global stt_object;
  st_other = name_visibility r n;
  st_shndx = piece_header_number place (id.Common n);
  st_value = name_value r place n;
  st_size = size;
}
