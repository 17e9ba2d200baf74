-- `.dynamic` (gABI "Dynamic Section"; psABI x86-64 "Dynamic Section": DT_PLTGOT, DT_JMPREL), entry by
-- entry.
use Rattle.std.specs.Prelude.{ℕ, pos, List, [], ◌∷◌, ◌++◌, map, flat_map, Option, Some, None}
use Rattle.lk_elf.specs.Numbers.{sym_size, rela_size, dt_null, dt_needed, dt_pltrelsz, dt_pltgot, dt_hash, dt_strtab, dt_symtab, dt_rela, dt_relasz, dt_relaent, dt_strsz, dt_syment, dt_init, dt_fini, dt_pltrel, dt_debug, dt_jmprel, dt_init_array, dt_fini_array, dt_init_arraysz, dt_fini_arraysz, dt_runpath, dt_preinit_array, dt_preinit_arraysz}
use Rattle.lk_elf.specs.Records.{dyn_bytes}
use Rattle.lk_elf.specs.declared.dynamic_entry.Dyn.{Dyn}
use Rattle.lk_model.specs.DynamicKeys.{hash_key, dynsym_key, dynstr_key, rela_dyn_key, rela_plt_key}
use Rattle.lk_model.specs.DynamicSizes.{name_in_object, init_name, fini_name, preinit_array_key, init_array_key, fini_array_key}
use Rattle.lk_model.specs.DynamicTexts.{needed_names, dynamic_texts}
use Rattle.lk_model.specs.Keys.{row_of}
use Rattle.lk_model.specs.MadeSymbols.{start_of}
use Rattle.lk_model.specs.SymbolValues.{name_value, got_address}
use Rattle.lk_model.specs.Texts.{offset_in}
use Rattle.lk_model.specs.Views.{Resolved}
use Rattle.lk_model.specs.declared.layouts.Placement.{Placement}
use Rattle.lk_model.specs.declared.layouts.SectionKey.{SectionKey}
use Rattle.lk_model.specs.declared.layouts.SectionRow.{SectionRow}

-- an entry with its tag and its number or address
abbrev pub tagged : ℕ → ℕ → Dyn
tagged tag value = record { d_tag = pos tag; d_un = value }

-- the entries of the names that are needed, by their places in `.dynstr`
abbrev pub needed_entries : List (List ℕ) → List (List ℕ) → List Dyn
needed_entries texts names = map (λ name. tagged dt_needed (offset_in texts name)) names

-- the entry of the run path, where it is not empty
abbrev pub runpath_entries : List (List ℕ) → List ℕ → List Dyn
runpath_entries texts [] = []
runpath_entries texts (b ∷ bs) = tagged dt_runpath (offset_in texts (b ∷ bs)) ∷ []

-- the entry of a function of an object, where there is one
abbrev pub function_entries : Resolved → Placement → ℕ → Option ℕ → List Dyn
function_entries r place tag None = []
function_entries r place tag (Some n) = tagged tag (name_value r place n) ∷ []

-- the entries of an array, where it exists: its address and its size
abbrev pub array_entries : ℕ → ℕ → Option SectionRow → List Dyn
array_entries address_tag size_tag None = []
array_entries address_tag size_tag (Some row) = tagged address_tag row.addr ∷ tagged size_tag row.size ∷ []

-- the address of a table, and its size
abbrev pub table_start : Placement → SectionKey → ℕ
table_start place key = start_of (row_of place key)

abbrev pub table_length : Placement → SectionKey → ℕ
table_length place key = elim (row_of place key) [ None ↦ 0 | Some row ↦ row.size ]

-- the entries that every dynamic section ends with
unfoldable pub usual_dynamic_entries : Placement → List Dyn
usual_dynamic_entries place =
    tagged dt_hash (table_start place hash_key)
    ∷ tagged dt_strtab (table_start place dynstr_key)
    ∷ tagged dt_symtab (table_start place dynsym_key)
    ∷ tagged dt_strsz (table_length place dynstr_key)
    ∷ tagged dt_syment sym_size
    ∷ tagged dt_debug 0
    ∷ tagged dt_pltgot (got_address place)
    ∷ tagged dt_pltrelsz (table_length place rela_plt_key)
    ∷ tagged dt_pltrel dt_rela
    ∷ tagged dt_jmprel (table_start place rela_plt_key)
    ∷ tagged dt_rela (table_start place rela_dyn_key)
    ∷ tagged dt_relasz (table_length place rela_dyn_key)
    ∷ tagged dt_relaent rela_size
    ∷ tagged dt_null 0
    ∷ []

-- the entries of `.dynamic` in their order
unfoldable pub dynamic_entries : Resolved → Placement → List Dyn
dynamic_entries r place =
    let texts = dynamic_texts r in
    needed_entries texts (needed_names r)
    ++ runpath_entries texts r.options.runpath
    ++ function_entries r place dt_init (name_in_object r init_name)
    ++ function_entries r place dt_fini (name_in_object r fini_name)
    ++ array_entries dt_preinit_array dt_preinit_arraysz (row_of place preinit_array_key)
    ++ array_entries dt_init_array dt_init_arraysz (row_of place init_array_key)
    ++ array_entries dt_fini_array dt_fini_arraysz (row_of place fini_array_key)
    ++ usual_dynamic_entries place

-- their bytes
unfoldable pub dynamic_bytes : Resolved → Placement → List ℕ
dynamic_bytes r place = flat_map dyn_bytes (dynamic_entries r place)
