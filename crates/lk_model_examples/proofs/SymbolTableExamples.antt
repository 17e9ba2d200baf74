-- Worked examples: the symbol tables of images and their names, against numbers computed by other means
-- (gABI "Symbol Table").
use Rattle.std.specs.Prelude.{◌≡◌, [], ◌∷◌, ◌++◌, codes, replicate, refl}
use Rattle.lk_elf.specs.Fields.{bytes_of}
use Rattle.lk_elf.specs.Numbers.{stb_global, stt_notype}
use Rattle.lk_elf.specs.Records.{sym_bytes}
use Rattle.lk_model.specs.declared.layouts.Class.TheVariants as class
use Rattle.lk_model.specs.declared.layouts.Placement.{Placement}
use Rattle.lk_model.specs.declared.summaries.Home.TheVariants as home
use Rattle.lk_model.specs.Segments.{tls_segment}
use Rattle.lk_model.specs.SymbolEntries.{definition_entry, common_entry}
use Rattle.lk_model.specs.SymbolTable.{symbol_texts, imported_entry, made_entry, symtab_entries, symbol_table_bytes, symbol_names_bytes}
use Rattle.lk_model.specs.Texts.{table_bytes}
use Rattle.lk_model.specs.Views.{Resolved}
use Rattle.lk_model_examples.proofs.DynamicLinks.{linked, program, program_place, kinds_exported, kinds_place, entry}
use Rattle.lk_model_examples.proofs.ResolutionInputs.{object_in, no_elf, plain_options, symbol, text}
use Rattle.lk_model.proofs.SmallLinks.{got_rows, placed, row}

-- one object with `_start` in its `.text`
smallest_linked : Resolved
unfolding linked
smallest_linked = linked plain_options (object_in 0 (codes "a.o") (text 1 ∷ []) (symbol 1 (codes "_start") stb_global stt_notype (home.Section 1) ∷ []) [] no_elf ∷ [])

abbrev smallest_at : Placement
smallest_at = record {
  sections = row (codes ".text") class.X 0x401000 64 64 16 ∷ got_rows 0x402000;
  pieces = placed 0 1 0 0x401000 16 16 ∷ [];
  slots = record { got = []; plt = [] };
}

-- 48 bytes of symbols and 8 bytes of names
smallest_table :
    (symbol_table_bytes smallest_linked smallest_at
    ≡ replicate 24 0
    ++ (1 ∷ 0 ∷ 0 ∷ 0 ∷ 0x10 ∷ 0 ∷ 1 ∷ 0 ∷ 0 ∷ 0x10 ∷ 0x40 ∷ 0 ∷ 0 ∷ 0 ∷ 0 ∷ 0 ∷ 0 ∷ 0 ∷ 0 ∷ 0 ∷ 0 ∷ 0 ∷ 0 ∷ 0 ∷ []))
    × (symbol_names_bytes smallest_linked ≡ 0 ∷ codes "_start" ++ 0 ∷ [])
unfolding smallest_linked symbol_table_bytes symbol_names_bytes symtab_entries symbol_texts definition_entry table_bytes sym_bytes bytes_of
smallest_table = (refl, refl)

-- imports keep the size that their library gives; the copy has its place, the others none
program_table :
    symtab_entries program program_place
    ≡ entry 0 0 0 0 0 0
    ∷ entry 1 0x12 0 9 0x402080 0
    ∷ entry 8 0x12 0 0 0 100
    ∷ entry 26 0x12 0 9 0x402090 0
    ∷ entry 31 0x12 0 7 0x402000 0
    ∷ entry 37 0x12 0 0 0 20
    ∷ entry 42 0x11 0 14 0x403200 8
    ∷ entry 49 0x12 0 9 0x4020a0 0
    ∷ entry 54 0x12 0 0 0 30
    ∷ []
unfolding program symtab_entries symbol_texts definition_entry imported_entry
program_table = refl

-- each kind of symbol: a hidden one is here, a name without winner is not; an import has its library's
-- binding, and the value of its PLT entry where that is its address; a made symbol is absolute
kinds_table :
    symtab_entries kinds_exported kinds_place
    ≡ entry 0 0 0 0 0 0
    ∷ entry 1 0x12 0 8 0x402040 0
    ∷ entry 8 0x16 0 9 8 4
    ∷ entry 13 0x12 2 8 0x402042 6
    ∷ entry 17 0x21 3 8 0x402044 4
    ∷ entry 22 0x10 0 0xfff1 0x1234 0
    ∷ entry 26 0x11 0 14 0x403280 12
    ∷ entry 30 0x12 0 0 0x402010 7
    ∷ entry 34 0x16 0 0 0 4
    ∷ entry 42 0x11 0 14 0x403290 24
    ∷ entry 46 0x10 0 0xfff1 0x403240 0
    ∷ entry 68 0x22 0 0 0 9
    ∷ entry 73 0x12 0 0 0 5
    ∷ entry 82 0x12 0 8 0x40204c 0
    ∷ []
unfolding kinds_exported symtab_entries symbol_texts definition_entry common_entry imported_entry made_entry tls_segment
kinds_table = refl

kinds_texts :
    symbol_names_bytes kinds_exported
    ≡ 0 ∷ codes "_start" ++ 0 ∷ codes "tvar" ++ 0 ∷ codes "hid" ++ 0 ∷ codes "prot" ++ 0 ∷ codes "abs" ++ 0 ∷ codes "com" ++ 0 ∷ codes "ext"
    ++ 0 ∷ codes "tls_ext"
    ++ 0 ∷ codes "var"
    ++ 0 ∷ codes "_GLOBAL_OFFSET_TABLE_"
    ++ 0 ∷ codes "func"
    ++ 0 ∷ codes "unneeded"
    ++ 0 ∷ codes "_fini"
    ++ 0 ∷ []
unfolding kinds_exported symbol_names_bytes symbol_texts table_bytes
kinds_texts = refl
