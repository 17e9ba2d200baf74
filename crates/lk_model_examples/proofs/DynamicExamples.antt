-- Worked examples: the tables of dynamic links entry by entry, against numbers computed by other means
-- (gABI "Dynamic Linking"; psABI x86-64 "Procedure Linkage Table").
use Rattle.std.specs.Prelude.{◌≡◌, ℕ, ◌+◌, ◌*◌, ◌^◌, false, List, [], ◌∷◌, ◌++◌, None, map, length, codes, refl}
use Rattle.lk_elf.specs.Fields.{bytes_of, unsigned64}
use Rattle.lk_elf.specs.Records.{sym_bytes, rela_bytes, dyn_bytes}
use Rattle.lk_model.specs.declared.layouts.Class.TheVariants as class
use Rattle.lk_model.specs.declared.layouts.SectionKey.{SectionKey}
use Rattle.lk_model.specs.DynamicKeys.{interp_key, hash_key, dynsym_key, dynstr_key, rela_dyn_key, rela_plt_key, plt_key, dynamic_key}
use Rattle.lk_model.specs.DynamicNames.{dynamic_names, dynamic_name_texts, dynamic_rows}
use Rattle.lk_model.specs.DynamicRelocations.{rela_dyn_entries, rela_plt_entries, rela_dyn_bytes, rela_plt_bytes}
use Rattle.lk_model.specs.DynamicSection.{dynamic_entries, usual_dynamic_entries, dynamic_bytes}
use Rattle.lk_model.specs.DynamicSizes.{dynamic_table_sizes}
use Rattle.lk_model.specs.DynamicSlots.{slot_fills}
use Rattle.lk_model.specs.DynamicSymbols.{dynsym_entries, copy_entry, undefined_entry, dynsym_bytes}
use Rattle.lk_model.specs.DynamicTables.{dynamic_table_of_key}
use Rattle.lk_model.specs.DynamicTexts.{needed_names, dynamic_texts, interp_bytes}
use Rattle.lk_model.specs.FullPlace.{rows_of, piece_rows}
use Rattle.lk_model.specs.HashTable.{sysv_hash, hash_words, hash_bytes}
use Rattle.lk_model.specs.PltEntries.{plt_bytes}
use Rattle.lk_model.specs.Rooms.{room_of, step_to, patched_room}
use Rattle.lk_model.specs.SectionKeys.{is_patched, named}
use Rattle.lk_model.specs.SectionOrder.{section_rank, in_order}
use Rattle.lk_model.specs.Segments.{tls_segment}
use Rattle.lk_model.specs.SymbolEntries.{definition_entry, common_entry}
use Rattle.lk_model.specs.Tables.{table_of_key}
use Rattle.lk_model.specs.Texts.{table_bytes}
use Rattle.lk_model.specs.Views.{Resolved}
use Rattle.lk_model.specs.declared.layouts.Placement.{Placement}
use Rattle.lk_model_examples.proofs.DynamicLinks.{program, program_place, kinds, kinds_exported, kinds_place, dynamic_place, kept_keys, slot, thread_slot, entry, fill, tag}

-- the program is where these sizes put it
program_is_at : dynamic_place program ≡ program_place
unfolding program dynamic_table_sizes dynamic_names dynamic_rows needed_names dynamic_texts interp_bytes slot_fills table_bytes in_order section_rank is_patched room_of step_to patched_room rows_of piece_rows
program_is_at = refl

-- its dynamic names are the three functions and the variable; nothing of its own is asked for
program_names : dynamic_names program ≡ 1 ∷ 4 ∷ 5 ∷ 7 ∷ []
unfolding program dynamic_names dynamic_rows
program_names = refl

-- it needs one library, and the texts are the names and the library's
program_texts :
    (needed_names program ≡ codes "libc.so.6" ∷ [])
    × (dynamic_texts program ≡ [] ∷ codes "__libc_start_main" ∷ codes "puts" ∷ codes "stdout" ∷ codes "exit" ∷ codes "libc.so.6" ∷ [])
unfolding program dynamic_names dynamic_rows needed_names dynamic_texts
program_texts = (refl, refl)

-- the entry that calls the dynamic linker, and the entries of `puts` and `exit`
program_plt :
    plt_bytes program program_place
    ≡ (0xff ∷ 0x35 ∷ 0x42 ∷ 0x11 ∷ 0x00 ∷ 0x00 ∷ 0xff ∷ 0x25 ∷ 0x44 ∷ 0x11 ∷ 0x00 ∷ 0x00 ∷ 0x0f ∷ 0x1f ∷ 0x40 ∷ 0x00 ∷ [])
    ++ (0xff ∷ 0x25 ∷ 0x42 ∷ 0x11 ∷ 0x00 ∷ 0x00 ∷ 0x68 ∷ 0x00 ∷ 0x00 ∷ 0x00 ∷ 0x00 ∷ 0xe9 ∷ 0xe0 ∷ 0xff ∷ 0xff ∷ 0xff ∷ [])
    ++ (0xff ∷ 0x25 ∷ 0x3a ∷ 0x11 ∷ 0x00 ∷ 0x00 ∷ 0x68 ∷ 0x01 ∷ 0x00 ∷ 0x00 ∷ 0x00 ∷ 0xe9 ∷ 0xd0 ∷ 0xff ∷ 0xff ∷ 0xff ∷ [])
unfolding plt_bytes bytes_of
program_plt = refl

-- the address of `.dynamic`, two words of the dynamic linker, and the two slots, which hold 0x402056 and
-- 0x402066
program_got_plt :
    table_of_key program program_place (named (codes ".got.plt") class.W)
    ≡ bytes_of 8 0x403000 ++ bytes_of 8 0 ++ bytes_of 8 0 ++ bytes_of 8 0x402056 ++ bytes_of 8 0x402066
unfolding table_of_key bytes_of
program_got_plt = refl

-- the slot of `__libc_start_main` is 0 until it is filled
program_got : table_of_key program program_place (named (codes ".got") class.W) ≡ bytes_of 8 0
unfolding program table_of_key bytes_of
program_got = refl

-- JUMP_SLOT of `puts`, then of `exit`
program_jumps : rela_plt_entries program program_place ≡ fill 0x403198 (2 * 2 ^ 32 + 7) ∷ fill 0x4031a0 (4 * 2 ^ 32 + 7) ∷ []
unfolding program dynamic_names dynamic_rows rela_plt_entries
program_jumps = refl

-- one GLOB_DAT, one COPY
program_fills : rela_dyn_entries program program_place ≡ fill 0x403140 (1 * 2 ^ 32 + 6) ∷ fill 0x403200 (3 * 2 ^ 32 + 5) ∷ []
unfolding program dynamic_names dynamic_rows slot_fills rela_dyn_entries
program_fills = refl

-- the copy is defined in `.bss`, whose header is number 14; the others are undefined
program_symbols :
    dynsym_entries program program_place
    ≡ entry 0 0 0 0 0 0
    ∷ entry 1 0x12 0 0 0 0
    ∷ entry 19 0x12 0 0 0 0
    ∷ entry 24 0x11 0 14 0x403200 8
    ∷ entry 31 0x12 0 0 0 0
    ∷ []
unfolding program dynamic_names dynamic_rows needed_names dynamic_texts dynsym_entries copy_entry undefined_entry
program_symbols = refl

-- one bucket, which begins with entry 4
program_hash : hash_words (dynamic_name_texts program) ≡ 1 ∷ 5 ∷ 4 ∷ 0 ∷ 0 ∷ 1 ∷ 2 ∷ 3 ∷ []
unfolding program dynamic_names dynamic_rows hash_words sysv_hash
program_hash = refl

-- the dynamic section: it begins with the library's name and `_init`
program_dynamic :
    dynamic_entries program program_place
    ≡ tag 1 36
    ∷ tag 12 0x402000
    ∷ tag 4 0x401040
    ∷ tag 5 0x401140
    ∷ tag 6 0x401080
    ∷ tag 10 46
    ∷ tag 11 24
    ∷ tag 21 0
    ∷ tag 3 0x403180
    ∷ tag 2 48
    ∷ tag 20 7
    ∷ tag 23 0x4011c0
    ∷ tag 7 0x401180
    ∷ tag 8 48
    ∷ tag 9 24
    ∷ tag 0 0
    ∷ []
unfolding program dynamic_names dynamic_rows needed_names dynamic_texts dynamic_entries usual_dynamic_entries
program_dynamic = refl

-- a table's bytes as they are reported before the placement, and as they are
abbrev sizes_of : Resolved → Placement → List (SectionKey × ℕ)
sizes_of r place = dynamic_table_sizes r (kept_keys r) place.slots

abbrev lengths_of : Resolved → Placement → List (SectionKey × ℕ)
lengths_of r place = map (λ (t : SectionKey × ℕ). (t.0, length (dynamic_table_of_key r place t.0))) (sizes_of r place)

-- the tables with these sizes, in their order
abbrev sized : ℕ → ℕ → ℕ → ℕ → ℕ → ℕ → ℕ → ℕ → List (SectionKey × ℕ)
sized interp hash dynsym dynstr rela_dyn rela_plt plt dynamic =
    (interp_key, interp)
    ∷ (hash_key, hash)
    ∷ (dynsym_key, dynsym)
    ∷ (dynstr_key, dynstr)
    ∷ (rela_dyn_key, rela_dyn)
    ∷ (rela_plt_key, rela_plt)
    ∷ (plt_key, plt)
    ∷ (dynamic_key, dynamic)
    ∷ []

program_sizes :
    (sizes_of program program_place ≡ sized 28 32 120 46 48 48 48 256)
    × (lengths_of program program_place ≡ sized 28 32 120 46 48 48 48 256)
unfolding program dynamic_table_sizes dynamic_table_of_key dynamic_names dynamic_rows needed_names dynamic_texts interp_bytes slot_fills table_bytes hash_bytes hash_words sysv_hash dynsym_bytes dynsym_entries copy_entry undefined_entry rela_dyn_bytes rela_dyn_entries rela_plt_bytes rela_plt_entries plt_bytes dynamic_bytes dynamic_entries usual_dynamic_entries bytes_of sym_bytes rela_bytes dyn_bytes unsigned64
program_sizes = (refl, refl)

-- its texts as bytes
program_dynstr :
    dynamic_table_of_key program program_place dynstr_key
    ≡ 0 ∷ codes "__libc_start_main" ++ 0 ∷ codes "puts" ++ 0 ∷ codes "stdout" ++ 0 ∷ codes "exit" ++ 0 ∷ codes "libc.so.6" ++ 0 ∷ []
unfolding program dynamic_table_of_key dynamic_names dynamic_rows needed_names dynamic_texts table_bytes
program_dynstr = refl

-- the usual path of the dynamic linker, and one that is given
interpreters :
    (dynamic_table_of_key program program_place interp_key ≡ codes "/lib64/ld-linux-x86-64.so.2" ++ 0 ∷ [])
    × (dynamic_table_of_key kinds kinds_place interp_key ≡ codes "/lib/ld.so" ++ 0 ∷ [])
unfolding program kinds dynamic_table_of_key interp_bytes
interpreters = (refl, refl)

-- a static link has no dynamic name and no such table, whatever is asked to be exported
static_has_none :
    (dynamic_names (record kinds_exported { options = record kinds_exported.options { dynamic = false } }) ≡ [])
    × (dynamic_table_sizes (record kinds_exported { options = record kinds_exported.options { dynamic = false } }) [] (record { got = []; plt = [] }) ≡ [])
unfolding kinds_exported dynamic_names dynamic_rows dynamic_table_sizes
static_has_none = (refl, refl)

-- the names that shared inputs define or refer to, and the imports; hidden and made ones never
kinds_names : dynamic_names kinds ≡ 4 ∷ 5 ∷ 6 ∷ 7 ∷ 8 ∷ 11 ∷ []
unfolding kinds dynamic_names dynamic_rows
kinds_names = refl

-- with all definitions exported: hidden ones still not, nor a name without winner, nor an import that
-- nothing needs
exported_names : dynamic_names kinds_exported ≡ 0 ∷ 1 ∷ 3 ∷ 4 ∷ 5 ∷ 6 ∷ 7 ∷ 8 ∷ 11 ∷ 13 ∷ []
unfolding kinds_exported dynamic_names dynamic_rows
exported_names = refl

-- one soname of two inputs is needed once
kinds_needed : needed_names kinds ≡ codes "l.so" ∷ codes "m.so" ∷ []
unfolding kinds needed_names
kinds_needed = refl

-- a run path that is a text already is once
repeated_text :
    dynamic_texts (record kinds { options = record kinds.options { runpath = codes "m.so" } })
    ≡ [] ∷ codes "abs" ∷ codes "com" ∷ codes "ext" ∷ codes "tls_ext" ∷ codes "var" ∷ codes "func" ∷ codes "l.so" ∷ codes "m.so" ∷ []
unfolding kinds dynamic_rows needed_names dynamic_texts
repeated_text = refl

-- without entries the table is what calls the dynamic linker alone
plt_alone :
    plt_bytes program (record program_place { slots = record { got = []; plt = [] } })
    ≡ 0xff ∷ 0x35 ∷ 0x42 ∷ 0x11 ∷ 0x00 ∷ 0x00 ∷ 0xff ∷ 0x25 ∷ 0x44 ∷ 0x11 ∷ 0x00 ∷ 0x00 ∷ 0x0f ∷ 0x1f ∷ 0x40 ∷ 0x00 ∷ []
unfolding plt_bytes bytes_of
plt_alone = refl

-- where everything is
kinds_are_at : dynamic_place kinds_exported ≡ kinds_place
unfolding kinds_exported dynamic_table_sizes dynamic_names dynamic_rows needed_names dynamic_texts interp_bytes slot_fills table_bytes in_order section_rank is_patched room_of step_to patched_room rows_of piece_rows
kinds_are_at = refl

-- thread-local values count from their segment; an absolute one is what it is; a common is a variable;
-- an import whose address is taken has that of its PLT entry; a copy has the import's size and type, but
-- the binding of the objects
kinds_symbols :
    dynsym_entries kinds_exported kinds_place
    ≡ entry 0 0 0 0 0 0
    ∷ entry 1 0x12 0 8 0x402040 0
    ∷ entry 8 0x16 0 9 8 4
    ∷ entry 13 0x21 3 8 0x402044 4
    ∷ entry 18 0x10 0 0xfff1 0x1234 0
    ∷ entry 22 0x11 0 14 0x403280 12
    ∷ entry 26 0x12 0 0 0x402010 0
    ∷ entry 30 0x16 0 0 0 0
    ∷ entry 38 0x21 0 14 0x403290 24
    ∷ entry 42 0x22 0 0 0 0
    ∷ entry 47 0x12 0 8 0x40204c 0
    ∷ []
unfolding kinds_exported dynamic_names dynamic_rows needed_names dynamic_texts dynsym_entries copy_entry undefined_entry definition_entry common_entry tls_segment
kinds_symbols = refl

-- the slot of a thread-local import is filled by its own type; the slot of an import that is copied, of
-- a LOCAL symbol and of a definition are not
kinds_fills :
    (rela_dyn_entries kinds_exported kinds_place
    ≡ fill 0x403200 (7 * 2 ^ 32 + 18) ∷ fill 0x403218 (9 * 2 ^ 32 + 6) ∷ fill 0x403290 (8 * 2 ^ 32 + 5) ∷ [])
    × (rela_plt_entries kinds_exported kinds_place ≡ fill 0x403258 (6 * 2 ^ 32 + 7) ∷ [])
unfolding kinds_exported dynamic_names dynamic_rows slot_fills rela_dyn_entries rela_plt_entries
kinds_fills = (refl, refl)

-- a slot that is free is passed over, and counts
free_slot :
    slot_fills kinds_exported (record { got = None ∷ thread_slot 7 ∷ slot 8 ∷ None ∷ slot 11 ∷ []; plt = [] })
    ≡ record { slot = 1; name = 7; code = 18 } ∷ record { slot = 4; name = 11; code = 6 } ∷ []
unfolding kinds_exported slot_fills
free_slot = refl

-- the dynamic section with a run path, a function at the end and an array
kinds_dynamic :
    dynamic_entries kinds_exported kinds_place
    ≡ tag 1 0x35
    ∷ tag 1 0x3a
    ∷ tag 29 0x3f
    ∷ tag 13 0x40204c
    ∷ tag 25 0x403040
    ∷ tag 27 16
    ∷ tag 4 0x401040
    ∷ tag 5 0x401200
    ∷ tag 6 0x4010c0
    ∷ tag 10 72
    ∷ tag 11 24
    ∷ tag 21 0
    ∷ tag 3 0x403240
    ∷ tag 2 24
    ∷ tag 20 7
    ∷ tag 23 0x401300
    ∷ tag 7 0x401280
    ∷ tag 8 72
    ∷ tag 9 24
    ∷ tag 0 0
    ∷ []
unfolding kinds_exported dynamic_names dynamic_rows needed_names dynamic_texts dynamic_entries usual_dynamic_entries
kinds_dynamic = refl

kinds_sizes : sizes_of kinds_exported kinds_place ≡ sized 11 60 264 72 72 24 32 320
unfolding kinds_exported dynamic_table_sizes dynamic_names dynamic_rows needed_names dynamic_texts interp_bytes slot_fills table_bytes
kinds_sizes = refl

kinds_lengths : lengths_of kinds_exported kinds_place ≡ sized 11 60 264 72 72 24 32 320
unfolding kinds_exported dynamic_table_sizes dynamic_table_of_key dynamic_names dynamic_rows needed_names dynamic_texts interp_bytes slot_fills table_bytes hash_bytes hash_words sysv_hash dynsym_bytes dynsym_entries copy_entry undefined_entry definition_entry common_entry tls_segment rela_dyn_bytes rela_dyn_entries rela_plt_bytes rela_plt_entries plt_bytes dynamic_bytes dynamic_entries usual_dynamic_entries bytes_of sym_bytes rela_bytes dyn_bytes unsigned64
kinds_lengths = refl

-- one whole symbol, relocation and entry as bytes
table_bytes_of_program :
    (dynamic_table_of_key program program_place rela_plt_key
    ≡ (0x98 ∷ 0x31 ∷ 0x40 ∷ 0 ∷ 0 ∷ 0 ∷ 0 ∷ 0 ∷ 7 ∷ 0 ∷ 0 ∷ 0 ∷ 2 ∷ 0 ∷ 0 ∷ 0 ∷ 0 ∷ 0 ∷ 0 ∷ 0 ∷ 0 ∷ 0 ∷ 0 ∷ 0 ∷ [])
    ++ (0xa0 ∷ 0x31 ∷ 0x40 ∷ 0 ∷ 0 ∷ 0 ∷ 0 ∷ 0 ∷ 7 ∷ 0 ∷ 0 ∷ 0 ∷ 4 ∷ 0 ∷ 0 ∷ 0 ∷ 0 ∷ 0 ∷ 0 ∷ 0 ∷ 0 ∷ 0 ∷ 0 ∷ 0 ∷ []))
    × (dynamic_table_of_key program program_place hash_key
    ≡ (1 ∷ 0 ∷ 0 ∷ 0 ∷ 5 ∷ 0 ∷ 0 ∷ 0 ∷ 4 ∷ 0 ∷ 0 ∷ 0 ∷ 0 ∷ 0 ∷ 0 ∷ 0 ∷ 0 ∷ 0 ∷ 0 ∷ 0 ∷ 1 ∷ 0 ∷ 0 ∷ 0 ∷ 2 ∷ 0 ∷ 0 ∷ 0 ∷ 3 ∷ 0 ∷ 0 ∷ 0 ∷ []))
unfolding program dynamic_table_of_key dynamic_names dynamic_rows needed_names dynamic_texts table_bytes hash_bytes hash_words sysv_hash rela_plt_bytes rela_plt_entries bytes_of rela_bytes unsigned64
table_bytes_of_program = (refl, refl)
