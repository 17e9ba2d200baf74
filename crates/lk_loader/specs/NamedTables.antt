-- What DYNAMIC names in two steps (gABI "Dynamic Section"): the bytes of the tables, and what they say.
use Rattle.std.specs.Prelude.{ℕ, ◌*◌, List, ◌++◌, map, Option, Some, option_map}
use Rattle.lk_elf.specs.Numbers.{dt_hash, dt_strtab, dt_symtab, dt_rela, dt_relasz, dt_strsz, dt_jmprel, dt_pltrelsz, dt_needed, sym_size}
use Rattle.lk_elf.specs.declared.dynamic_entry.Dyn.{Dyn}
use Rattle.lk_model.specs.DynamicEntries.{all_with_tag, first_with_tag}
use Rattle.lk_model.specs.InputsReading.{with_value}
use Rattle.lk_model.specs.Loads.{NamedParts, all_of, hash_at, loaded_relas, loaded_symbols, named_size, symbol_count, table_at, text_of_table}
use Rattle.lk_loader.specs.LoadedImages.{load_symbol}
use Rattle.lk_loader.specs.declared.parts.Named.{Named}
use Rattle.lk_loader.specs.declared.parts.Tables.{Tables}

-- the bytes of the tables that entries name; none where a byte of them is not loaded
unfoldable pub tables_by : (ℕ → Option ℕ) → List Dyn → Option Tables
tables_by memory entries =
    with_value (option_map symbol_count (hash_at memory (first_with_tag dt_hash entries))) (λ count.
    with_value (table_at memory (first_with_tag dt_symtab entries) (sym_size * count)) (λ records.
    with_value (table_at memory (first_with_tag dt_strtab entries) (named_size dt_strsz entries)) (λ strings.
    with_value (table_at memory (first_with_tag dt_rela entries) (named_size dt_relasz entries)) (λ relas.
    with_value (table_at memory (first_with_tag dt_jmprel entries) (named_size dt_pltrelsz entries)) (λ jumps.
    Some (record { records = records; strings = strings; relas = relas; jumps = jumps }))))))

-- what tables say beside the entries; none where a text does not end in the string table
unfoldable pub said_by : List Dyn → Tables → Option NamedParts
said_by entries tables =
    with_value (all_of (map (text_of_table tables.strings) (all_with_tag dt_needed entries))) (λ needed.
    with_value (loaded_symbols tables.strings tables.records) (λ symbols.
    Some (record { needed = needed; symbols = symbols; relocations = loaded_relas tables.relas ++ loaded_relas tables.jumps })))

-- what DYNAMIC names, as the loader returns it
abbrev pub reported : NamedParts → Named
reported parts = record { needed = parts.needed; symbols = map load_symbol parts.symbols; relocations = parts.relocations }
