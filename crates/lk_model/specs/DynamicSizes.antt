-- How many bytes each table of a dynamic link has (gABI "Dynamic Linking"; psABI x86-64 "Procedure
-- Linkage Table"), from what resolution finds, the output sections that exist and the slots alone.
use Rattle.std.specs.Prelude.{ℕ, ◌+◌, ◌*◌, if◌then◌else◌, List, [], ◌∷◌, length, filter, codes, Option, Some, None, option_and_then, slice_get}
use Rattle.std.specs.List.{list_any}
use Rattle.lk_elf.specs.Numbers.{sym_size, rela_size, dyn_size}
use Rattle.lk_model.specs.declared.layouts.Class.TheVariants.{W}
use Rattle.lk_model.specs.declared.layouts.SectionKey.{SectionKey}
use Rattle.lk_model.specs.declared.layouts.SlotTable.{SlotTable}
use Rattle.lk_model.specs.declared.summaries.Winner.{Winner}
use Rattle.lk_model.specs.DynamicKeys.{interp_key, hash_key, dynsym_key, dynstr_key, rela_dyn_key, rela_plt_key, plt_key, dynamic_key}
use Rattle.lk_model.specs.DynamicNames.{dynamic_names}
use Rattle.lk_model.specs.DynamicSlots.{slot_fills, copied_names}
use Rattle.lk_model.specs.DynamicTexts.{needed_names, dynamic_texts, interp_bytes}
use Rattle.lk_model.specs.Finding.{number_among}
use Rattle.lk_model.specs.HashTable.{word_count}
use Rattle.lk_model.specs.SectionKeys.{named, same_key}
use Rattle.lk_model.specs.Texts.{table_bytes}
use Rattle.lk_model.specs.Views.{Resolved}
use Rattle.lk_model.specs.Winners.{is_in_object}

-- an entry of the procedure linkage table
abbrev pub plt_entry_size : ℕ
plt_entry_size = 16

-- the number of a name, where its winner is in an object
abbrev pub name_in_object : Resolved → List ℕ → Option ℕ
name_in_object r name =
    option_and_then (λ n. option_and_then (λ (w : Winner). if is_in_object w then Some n else None) (slice_get r.winners n)) (number_among r.names name)

-- the functions that the dynamic linker calls at the start and at the end, where an object has them
abbrev pub init_name : List ℕ
init_name = codes "_init"

abbrev pub fini_name : List ℕ
fini_name = codes "_fini"

-- the arrays of functions that it calls
abbrev pub preinit_array_key : SectionKey
preinit_array_key = named (codes ".preinit_array") W

abbrev pub init_array_key : SectionKey
init_array_key = named (codes ".init_array") W

abbrev pub fini_array_key : SectionKey
fini_array_key = named (codes ".fini_array") W

-- how many of these arrays are among the sections that exist
abbrev pub array_count : List SectionKey → ℕ
array_count keys = length (filter (λ array. list_any (same_key array) keys) (preinit_array_key ∷ init_array_key ∷ fini_array_key ∷ []))

-- one where there is something
abbrev pub count_of_option : Option ℕ → ℕ
count_of_option None = 0
count_of_option (Some n) = 1

-- one where a text is not empty
abbrev pub count_of_text : List ℕ → ℕ
count_of_text [] = 0
count_of_text (b ∷ bs) = 1

-- the entries that every dynamic section has: HASH, STRTAB, SYMTAB, STRSZ, SYMENT, DEBUG, PLTGOT,
-- PLTRELSZ, PLTREL, JMPREL, RELA, RELASZ, RELAENT and NULL
abbrev pub usual_entries : ℕ
usual_entries = 14

-- how many entries the dynamic section has: one for each name that is needed, for the run path and for
-- the two functions where they are there, two for each array that exists, and the usual ones
abbrev pub dynamic_entry_count : Resolved → List SectionKey → ℕ
dynamic_entry_count r keys =
    length (needed_names r) + count_of_text r.options.runpath
    + count_of_option (name_in_object r init_name) + count_of_option (name_in_object r fini_name)
    + 2 * array_count keys + usual_entries

-- the tables of a dynamic link with their sizes, where output sections of these keys exist; a static
-- link has none
unfoldable pub dynamic_table_sizes : Resolved → List SectionKey → SlotTable → List (SectionKey × ℕ)
dynamic_table_sizes r keys slots =
    if r.options.dynamic then
    (let symbols : ℕ = length (dynamic_names r) + 1 in
    (interp_key, length (interp_bytes r))
    ∷ (hash_key, 4 * word_count symbols)
    ∷ (dynsym_key, sym_size * symbols)
    ∷ (dynstr_key, length (table_bytes (dynamic_texts r)))
    ∷ (rela_dyn_key, rela_size * (length (slot_fills r slots) + length (copied_names r)))
    ∷ (rela_plt_key, rela_size * length slots.plt)
    ∷ (plt_key, plt_entry_size * (1 + length slots.plt))
    ∷ (dynamic_key, dyn_size * dynamic_entry_count r keys)
    ∷ [])
    else []
