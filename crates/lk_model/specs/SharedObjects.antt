-- What a link keeps of a shared object (gABI "Symbol Table", "Dynamic Section"; STB_GNU_UNIQUE of the GNU
-- gABI): the symbols that other files may mean, and the name by which an image needs it.
use Rattle.std.specs.Prelude.{ℕ, ◌==◌, Bool, true, false, not, ◌&&◌, ◌||◌, if◌then◌else◌, nat_lt, List, [], filter, flat_map, filter_map, drop, bytes_eq, Option, Some, unwrap_or, option_map, option_to_list, option_and_then}
use Rattle.std.specs.List.{list_any, enumerate_from, after_last}
use Rattle.lk_elf.specs.Numbers.{sht_dynsym, sht_dynamic, stb_global, stb_weak, stt_func, stt_gnu_ifunc, stv_default, stv_protected, shn_undef, dt_soname}
use Rattle.lk_elf.specs.declared.dynamic_entry.Dyn.{Dyn}
use Rattle.lk_elf.specs.declared.section_header.Shdr.{Shdr}
use Rattle.lk_elf.specs.declared.symbol.Sym.{Sym}
use Rattle.lk_model.specs.declared.summaries.Global.{Global}
use Rattle.lk_model.specs.declared.summaries.Home.{Home}
use Rattle.lk_model.specs.declared.summaries.Home.TheVariants as home
use Rattle.lk_model.specs.declared.summaries.InputSummary.{InputSummary}
use Rattle.lk_model.specs.declared.summaries.Kind.TheVariants as kind
use Rattle.lk_model.specs.DynamicEntries.{counted_entries, first_with_tag}
use Rattle.lk_model.specs.Elf.{lies_in, first_of_type, symbols_of, name_at, name_of_symbol}
use Rattle.lk_model.specs.Objects.{binding_of, type_of, visibility_of_symbol}
use Rattle.lk_model.specs.Views.{Elf}

-- ---- the two tables

-- the symbols of dynamic linking: the first section of type DYNSYM, with its number
abbrev pub dynamic_symbol_table : Elf → Option (ℕ × Shdr)
dynamic_symbol_table elf = first_of_type sht_dynsym elf.sections

-- the dynamic section: the first section of type DYNAMIC, with its number
abbrev pub dynamic_section : Elf → Option (ℕ × Shdr)
dynamic_section elf = first_of_type sht_dynamic elf.sections

-- the symbols of a table from entry 1, with their numbers; entry 0 is the null symbol whatever its
-- bytes are
abbrev pub symbols_under : Elf → ℕ × Shdr → List (ℕ × Sym)
symbols_under elf table = enumerate_from 1 (drop 1 (symbols_of elf.bytes (Some table)))

-- the entries of a dynamic section that count; none where its bytes do not lie in the file
unfoldable pub entries_under : Elf → Shdr → List Dyn
entries_under elf header =
    counted_entries elf.bytes header.sh_offset (if lies_in elf.bytes header.sh_offset header.sh_size then header.sh_size else 0)

-- ---- symbols

-- the binding of a symbol that is one in all of a process (GNU gABI, STB_GNU_UNIQUE)
abbrev pub stb_gnu_unique : ℕ
stb_gnu_unique = 10

-- a binding that reaches other files
abbrev pub is_outer_binding : ℕ → Bool
is_outer_binding binding = binding == stb_global || binding == stb_weak || binding == stb_gnu_unique

-- a visibility that lets other files see a symbol
abbrev pub is_seen : ℕ → Bool
is_seen visibility = visibility == stv_default || visibility == stv_protected

-- a symbol that other files may mean
abbrev pub is_offered : Sym → Bool
is_offered symbol = is_outer_binding (binding_of symbol) && is_seen (visibility_of_symbol symbol)

-- the binding that counts: a symbol that is one in all of a process is GLOBAL
abbrev pub shared_binding : Sym → ℕ
shared_binding symbol = if binding_of symbol == stb_gnu_unique then stb_global else binding_of symbol

-- the type that counts: an indirect function is a function
abbrev pub shared_type : Sym → ℕ
shared_type symbol = if type_of symbol == stt_gnu_ifunc then stt_func else type_of symbol

-- where a symbol is defined, by its section number: nowhere, or in the shared object, an absolute one too
abbrev pub shared_home : ℕ → Home
shared_home number = if number == shn_undef then home.Undefined else home.Shared

-- a symbol of a shared object, by its number and name; value and size are those of the file
unfoldable pub shared_global : ℕ → Sym → List ℕ → Global
shared_global k symbol name = record {
  symbol = k;
  name = name;
  binding = shared_binding symbol;
  code = shared_type symbol;
  visibility = visibility_of_symbol symbol;
  home = shared_home symbol.st_shndx;
  value = symbol.st_value;
  size = symbol.st_size;
}

-- the symbols of a table that other files may mean, by rising number
abbrev pub offered_under : Elf → ℕ × Shdr → List Global
offered_under elf table =
    filter_map (λ (row : ℕ × Sym). option_map (shared_global row.0 row.1) (name_of_symbol elf table.1.sh_link row.1))
    (filter (λ (row : ℕ × Sym). is_offered row.1) (symbols_under elf table))

-- a symbol that the shared object defines
abbrev pub is_definition : Global → Bool
is_definition g = elim g.home [ home.Undefined ↦ false | home.Section s ↦ true | home.Absolute ↦ true | home.Common ↦ true | home.Shared ↦ true ]

-- an earlier definition of the same name
abbrev pub is_earlier_of : Global → Global → Bool
is_earlier_of g e = is_definition e && nat_lt e.symbol g.symbol && bytes_eq e.name g.name

-- a definition of a name that an earlier one of these symbols defines
abbrev pub is_repeated : List Global → Global → Bool
is_repeated all g = is_definition g && list_any (is_earlier_of g) all

-- without definitions of names that are defined before; references stay
abbrev pub without_repeated : List Global → List Global
without_repeated all = filter (λ (g : Global). not (is_repeated all g)) all

-- the symbols of a shared object by rising number: references, and the first definition of each name
unfoldable pub shared_globals_in : Elf → List Global
shared_globals_in elf =
    flat_map (λ (table : ℕ × Shdr). without_repeated (offered_under elf table)) (option_to_list (dynamic_symbol_table elf))

-- ---- the name

-- the name that a dynamic section gives its file: the text of its first SONAME
abbrev pub soname_under : Elf → ℕ × Shdr → Option (List ℕ)
soname_under elf table = option_and_then (name_at elf table.1.sh_link) (first_with_tag dt_soname (entries_under elf table.1))

-- the last part of a path, which is after its last slash
abbrev pub last_part : List ℕ → List ℕ
last_part path = after_last (λ b. b == 47) path

-- the name by which an image needs a shared object: its own, also an empty one, else its path's last part
unfoldable pub soname_of : List ℕ → Elf → List ℕ
soname_of path elf = unwrap_or (option_and_then (soname_under elf) (dynamic_section elf)) (last_part path)

-- ---- the whole

-- what a link keeps of a shared object at a path
unfoldable pub shared_summary_in : List ℕ → Elf → InputSummary
shared_summary_in path elf = record {
  kind = kind.Shared;
  soname = soname_of path elf;
  exec_stack = false;
  pieces = [];
  globals = shared_globals_in elf;
  groups = [];
}
