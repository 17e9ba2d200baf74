-- Worked examples: what a loader makes of small images, and each refusal with a neighbour that is none; a
-- false one is refused.
use Rattle.std.specs.Prelude.{◌≡◌, ℕ, ◌+◌, true, false, List, [], ◌∷◌, ◌++◌, length, take, drop, pos, negsuc, codes, Some, None, refl}
use Rattle.lk_elf.specs.Fields.{number_of, num, signed64}
use Rattle.lk_elf.specs.Records.{ehdr_at, phdr_at, sym_at, rela_at, dyn_at}
use Rattle.lk_model.specs.DynamicEntries.{counted_entries}
use Rattle.lk_model.specs.Loading.{headers_in, loaded, tls_in}
use Rattle.lk_model.specs.Loads.{LoadRefusal, load_checks, entry_in, named_by, named_in, needed_in, dynamic_symbols_in, dynamic_relocations_in, load_refusal}

-- bytes with others in their place from `at` on
abbrev patched : ℕ → List ℕ → List ℕ → List ℕ
patched at bytes file = take at file ++ bytes ++ drop (at + length bytes) file

-- an image of 188 bytes with two LOADs: 180 bytes at 0x400000 (R X), and 8 bytes at 0x4010b4 with 16 in
-- memory (R W)
abbrev tiny : List ℕ
tiny =
    127 ∷ 69 ∷ 76 ∷ 70 ∷ 2 ∷ 1 ∷ 1 ∷ 0 ∷ 0 ∷ 0 ∷ 0 ∷ 0 ∷ 0 ∷ 0 ∷ 0 ∷ 0 ∷ 2 ∷ 0 ∷ 62 ∷ 0 ∷ 1 ∷ 0 ∷ 0 ∷ 0 ∷ 176 ∷ 0 ∷ 64 ∷ 0
    ∷ 0 ∷ 0 ∷ 0 ∷ 0 ∷ 64 ∷ 0 ∷ 0 ∷ 0 ∷ 0 ∷ 0 ∷ 0 ∷ 0 ∷ 0 ∷ 0 ∷ 0 ∷ 0 ∷ 0 ∷ 0 ∷ 0 ∷ 0 ∷ 0 ∷ 0 ∷ 0 ∷ 0 ∷ 64 ∷ 0 ∷ 56 ∷ 0
    ∷ 2 ∷ 0 ∷ 0 ∷ 0 ∷ 0 ∷ 0 ∷ 0 ∷ 0 ∷ 1 ∷ 0 ∷ 0 ∷ 0 ∷ 5 ∷ 0 ∷ 0 ∷ 0 ∷ 0 ∷ 0 ∷ 0 ∷ 0 ∷ 0 ∷ 0 ∷ 0 ∷ 0 ∷ 0 ∷ 0 ∷ 64 ∷ 0
    ∷ 0 ∷ 0 ∷ 0 ∷ 0 ∷ 0 ∷ 0 ∷ 64 ∷ 0 ∷ 0 ∷ 0 ∷ 0 ∷ 0 ∷ 180 ∷ 0 ∷ 0 ∷ 0 ∷ 0 ∷ 0 ∷ 0 ∷ 0 ∷ 180 ∷ 0 ∷ 0 ∷ 0 ∷ 0 ∷ 0 ∷ 0 ∷ 0
    ∷ 0 ∷ 16 ∷ 0 ∷ 0 ∷ 0 ∷ 0 ∷ 0 ∷ 0 ∷ 1 ∷ 0 ∷ 0 ∷ 0 ∷ 6 ∷ 0 ∷ 0 ∷ 0 ∷ 180 ∷ 0 ∷ 0 ∷ 0 ∷ 0 ∷ 0 ∷ 0 ∷ 0 ∷ 180 ∷ 16 ∷ 64 ∷ 0
    ∷ 0 ∷ 0 ∷ 0 ∷ 0 ∷ 180 ∷ 16 ∷ 64 ∷ 0 ∷ 0 ∷ 0 ∷ 0 ∷ 0 ∷ 8 ∷ 0 ∷ 0 ∷ 0 ∷ 0 ∷ 0 ∷ 0 ∷ 0 ∷ 16 ∷ 0 ∷ 0 ∷ 0 ∷ 0 ∷ 0 ∷ 0 ∷ 0
    ∷ 0 ∷ 16 ∷ 0 ∷ 0 ∷ 0 ∷ 0 ∷ 0 ∷ 0 ∷ 15 ∷ 5 ∷ 195 ∷ 144 ∷ 11 ∷ 12 ∷ 13 ∷ 14 ∷ 15 ∷ 16 ∷ 17 ∷ 18 ∷ []

-- an image of 672 bytes with the headers DYNAMIC, LOAD at 0x400000 (R), LOAD at 0x4011d0 (R W, 32 bytes
-- of zeros at its end), TLS. It holds the hash table at 288, three symbols at 312, their texts at 384 (29 bytes),
-- a relocation at 416, one more for the PLT at 440, the dynamic section at 464: two of NEEDED, two of STRSZ,
-- and a NEEDED after the NULL
abbrev linked : List ℕ
linked =
    127 ∷ 69 ∷ 76 ∷ 70 ∷ 2 ∷ 1 ∷ 1 ∷ 0 ∷ 0 ∷ 0 ∷ 0 ∷ 0 ∷ 0 ∷ 0 ∷ 0 ∷ 0 ∷ 2 ∷ 0 ∷ 62 ∷ 0 ∷ 1 ∷ 0 ∷ 0 ∷ 0 ∷ 32 ∷ 1 ∷ 64 ∷ 0
    ∷ 0 ∷ 0 ∷ 0 ∷ 0 ∷ 64 ∷ 0 ∷ 0 ∷ 0 ∷ 0 ∷ 0 ∷ 0 ∷ 0 ∷ 0 ∷ 0 ∷ 0 ∷ 0 ∷ 0 ∷ 0 ∷ 0 ∷ 0 ∷ 0 ∷ 0 ∷ 0 ∷ 0 ∷ 64 ∷ 0 ∷ 56 ∷ 0
    ∷ 4 ∷ 0 ∷ 0 ∷ 0 ∷ 0 ∷ 0 ∷ 0 ∷ 0 ∷ 2 ∷ 0 ∷ 0 ∷ 0 ∷ 6 ∷ 0 ∷ 0 ∷ 0 ∷ 208 ∷ 1 ∷ 0 ∷ 0 ∷ 0 ∷ 0 ∷ 0 ∷ 0 ∷ 208 ∷ 17 ∷ 64 ∷ 0
    ∷ 0 ∷ 0 ∷ 0 ∷ 0 ∷ 208 ∷ 17 ∷ 64 ∷ 0 ∷ 0 ∷ 0 ∷ 0 ∷ 0 ∷ 208 ∷ 0 ∷ 0 ∷ 0 ∷ 0 ∷ 0 ∷ 0 ∷ 0 ∷ 208 ∷ 0 ∷ 0 ∷ 0 ∷ 0 ∷ 0 ∷ 0 ∷ 0
    ∷ 8 ∷ 0 ∷ 0 ∷ 0 ∷ 0 ∷ 0 ∷ 0 ∷ 0 ∷ 1 ∷ 0 ∷ 0 ∷ 0 ∷ 4 ∷ 0 ∷ 0 ∷ 0 ∷ 0 ∷ 0 ∷ 0 ∷ 0 ∷ 0 ∷ 0 ∷ 0 ∷ 0 ∷ 0 ∷ 0 ∷ 64 ∷ 0
    ∷ 0 ∷ 0 ∷ 0 ∷ 0 ∷ 0 ∷ 0 ∷ 64 ∷ 0 ∷ 0 ∷ 0 ∷ 0 ∷ 0 ∷ 208 ∷ 1 ∷ 0 ∷ 0 ∷ 0 ∷ 0 ∷ 0 ∷ 0 ∷ 208 ∷ 1 ∷ 0 ∷ 0 ∷ 0 ∷ 0 ∷ 0 ∷ 0
    ∷ 0 ∷ 16 ∷ 0 ∷ 0 ∷ 0 ∷ 0 ∷ 0 ∷ 0 ∷ 1 ∷ 0 ∷ 0 ∷ 0 ∷ 6 ∷ 0 ∷ 0 ∷ 0 ∷ 208 ∷ 1 ∷ 0 ∷ 0 ∷ 0 ∷ 0 ∷ 0 ∷ 0 ∷ 208 ∷ 17 ∷ 64 ∷ 0
    ∷ 0 ∷ 0 ∷ 0 ∷ 0 ∷ 208 ∷ 17 ∷ 64 ∷ 0 ∷ 0 ∷ 0 ∷ 0 ∷ 0 ∷ 208 ∷ 0 ∷ 0 ∷ 0 ∷ 0 ∷ 0 ∷ 0 ∷ 0 ∷ 240 ∷ 0 ∷ 0 ∷ 0 ∷ 0 ∷ 0 ∷ 0 ∷ 0
    ∷ 0 ∷ 16 ∷ 0 ∷ 0 ∷ 0 ∷ 0 ∷ 0 ∷ 0 ∷ 7 ∷ 0 ∷ 0 ∷ 0 ∷ 4 ∷ 0 ∷ 0 ∷ 0 ∷ 208 ∷ 1 ∷ 0 ∷ 0 ∷ 0 ∷ 0 ∷ 0 ∷ 0 ∷ 208 ∷ 17 ∷ 64 ∷ 0
    ∷ 0 ∷ 0 ∷ 0 ∷ 0 ∷ 208 ∷ 17 ∷ 64 ∷ 0 ∷ 0 ∷ 0 ∷ 0 ∷ 0 ∷ 8 ∷ 0 ∷ 0 ∷ 0 ∷ 0 ∷ 0 ∷ 0 ∷ 0 ∷ 24 ∷ 0 ∷ 0 ∷ 0 ∷ 0 ∷ 0 ∷ 0 ∷ 0
    ∷ 8 ∷ 0 ∷ 0 ∷ 0 ∷ 0 ∷ 0 ∷ 0 ∷ 0 ∷ 1 ∷ 0 ∷ 0 ∷ 0 ∷ 3 ∷ 0 ∷ 0 ∷ 0 ∷ 2 ∷ 0 ∷ 0 ∷ 0 ∷ 0 ∷ 0 ∷ 0 ∷ 0 ∷ 0 ∷ 0 ∷ 0 ∷ 0
    ∷ 1 ∷ 0 ∷ 0 ∷ 0 ∷ 0 ∷ 0 ∷ 0 ∷ 0 ∷ 0 ∷ 0 ∷ 0 ∷ 0 ∷ 0 ∷ 0 ∷ 0 ∷ 0 ∷ 0 ∷ 0 ∷ 0 ∷ 0 ∷ 0 ∷ 0 ∷ 0 ∷ 0 ∷ 0 ∷ 0 ∷ 0 ∷ 0
    ∷ 1 ∷ 0 ∷ 0 ∷ 0 ∷ 18 ∷ 0 ∷ 0 ∷ 0 ∷ 0 ∷ 1 ∷ 64 ∷ 0 ∷ 0 ∷ 0 ∷ 0 ∷ 0 ∷ 0 ∷ 0 ∷ 0 ∷ 0 ∷ 0 ∷ 0 ∷ 0 ∷ 0 ∷ 6 ∷ 0 ∷ 0 ∷ 0
    ∷ 17 ∷ 0 ∷ 3 ∷ 0 ∷ 160 ∷ 18 ∷ 64 ∷ 0 ∷ 0 ∷ 0 ∷ 0 ∷ 0 ∷ 8 ∷ 0 ∷ 0 ∷ 0 ∷ 0 ∷ 0 ∷ 0 ∷ 0 ∷ 0 ∷ 112 ∷ 117 ∷ 116 ∷ 115 ∷ 0 ∷ 115 ∷ 116
    ∷ 100 ∷ 111 ∷ 117 ∷ 116 ∷ 0 ∷ 108 ∷ 105 ∷ 98 ∷ 99 ∷ 46 ∷ 115 ∷ 111 ∷ 46 ∷ 54 ∷ 0 ∷ 108 ∷ 100 ∷ 46 ∷ 115 ∷ 111 ∷ 0 ∷ 0 ∷ 0 ∷ 0 ∷ 160 ∷ 18 ∷ 64 ∷ 0
    ∷ 0 ∷ 0 ∷ 0 ∷ 0 ∷ 5 ∷ 0 ∷ 0 ∷ 0 ∷ 2 ∷ 0 ∷ 0 ∷ 0 ∷ 0 ∷ 0 ∷ 0 ∷ 0 ∷ 0 ∷ 0 ∷ 0 ∷ 0 ∷ 168 ∷ 18 ∷ 64 ∷ 0 ∷ 0 ∷ 0 ∷ 0 ∷ 0
    ∷ 7 ∷ 0 ∷ 0 ∷ 0 ∷ 1 ∷ 0 ∷ 0 ∷ 0 ∷ 254 ∷ 255 ∷ 255 ∷ 255 ∷ 255 ∷ 255 ∷ 255 ∷ 255 ∷ 1 ∷ 0 ∷ 0 ∷ 0 ∷ 0 ∷ 0 ∷ 0 ∷ 0 ∷ 13 ∷ 0 ∷ 0 ∷ 0
    ∷ 0 ∷ 0 ∷ 0 ∷ 0 ∷ 4 ∷ 0 ∷ 0 ∷ 0 ∷ 0 ∷ 0 ∷ 0 ∷ 0 ∷ 32 ∷ 1 ∷ 64 ∷ 0 ∷ 0 ∷ 0 ∷ 0 ∷ 0 ∷ 5 ∷ 0 ∷ 0 ∷ 0 ∷ 0 ∷ 0 ∷ 0 ∷ 0
    ∷ 128 ∷ 1 ∷ 64 ∷ 0 ∷ 0 ∷ 0 ∷ 0 ∷ 0 ∷ 6 ∷ 0 ∷ 0 ∷ 0 ∷ 0 ∷ 0 ∷ 0 ∷ 0 ∷ 56 ∷ 1 ∷ 64 ∷ 0 ∷ 0 ∷ 0 ∷ 0 ∷ 0 ∷ 10 ∷ 0 ∷ 0 ∷ 0
    ∷ 0 ∷ 0 ∷ 0 ∷ 0 ∷ 29 ∷ 0 ∷ 0 ∷ 0 ∷ 0 ∷ 0 ∷ 0 ∷ 0 ∷ 1 ∷ 0 ∷ 0 ∷ 0 ∷ 0 ∷ 0 ∷ 0 ∷ 0 ∷ 23 ∷ 0 ∷ 0 ∷ 0 ∷ 0 ∷ 0 ∷ 0 ∷ 0
    ∷ 10 ∷ 0 ∷ 0 ∷ 0 ∷ 0 ∷ 0 ∷ 0 ∷ 0 ∷ 1 ∷ 0 ∷ 0 ∷ 0 ∷ 0 ∷ 0 ∷ 0 ∷ 0 ∷ 7 ∷ 0 ∷ 0 ∷ 0 ∷ 0 ∷ 0 ∷ 0 ∷ 0 ∷ 160 ∷ 1 ∷ 64 ∷ 0
    ∷ 0 ∷ 0 ∷ 0 ∷ 0 ∷ 8 ∷ 0 ∷ 0 ∷ 0 ∷ 0 ∷ 0 ∷ 0 ∷ 0 ∷ 24 ∷ 0 ∷ 0 ∷ 0 ∷ 0 ∷ 0 ∷ 0 ∷ 0 ∷ 23 ∷ 0 ∷ 0 ∷ 0 ∷ 0 ∷ 0 ∷ 0 ∷ 0
    ∷ 184 ∷ 1 ∷ 64 ∷ 0 ∷ 0 ∷ 0 ∷ 0 ∷ 0 ∷ 2 ∷ 0 ∷ 0 ∷ 0 ∷ 0 ∷ 0 ∷ 0 ∷ 0 ∷ 24 ∷ 0 ∷ 0 ∷ 0 ∷ 0 ∷ 0 ∷ 0 ∷ 0 ∷ 0 ∷ 0 ∷ 0 ∷ 0
    ∷ 0 ∷ 0 ∷ 0 ∷ 0 ∷ 0 ∷ 0 ∷ 0 ∷ 0 ∷ 0 ∷ 0 ∷ 0 ∷ 0 ∷ 1 ∷ 0 ∷ 0 ∷ 0 ∷ 0 ∷ 0 ∷ 0 ∷ 0 ∷ 232 ∷ 3 ∷ 0 ∷ 0 ∷ 0 ∷ 0 ∷ 0 ∷ 0 ∷ []

-- what is in memory: the ends of both ranges, zeros past the bytes of the file, and nothing beside
tiny_loaded :
    (loaded tiny 4194304 ≡ Some (record { byte = 127; rights = 5 }))
    × (loaded tiny 4194305 ≡ Some (record { byte = 69; rights = 5 }))
    × (loaded tiny 4194480 ≡ Some (record { byte = 15; rights = 5 }))
    × (loaded tiny 4194483 ≡ Some (record { byte = 144; rights = 5 }))
    × (loaded tiny 4194484 ≡ None)
    × (loaded tiny 4194303 ≡ None)
    × (loaded tiny 0 ≡ None)
    × (loaded tiny 4198579 ≡ None)
    × (loaded tiny 4198580 ≡ Some (record { byte = 11; rights = 6 }))
    × (loaded tiny 4198587 ≡ Some (record { byte = 18; rights = 6 }))
    × (loaded tiny 4198588 ≡ Some (record { byte = 0; rights = 6 }))
    × (loaded tiny 4198595 ≡ Some (record { byte = 0; rights = 6 }))
    × (loaded tiny 4198596 ≡ None)
    × (entry_in tiny ≡ 4194480)
    × (tls_in tiny ≡ None)
    × (load_refusal tiny ≡ None)
    × (needed_in tiny ≡ [])
    × (dynamic_symbols_in tiny ≡ [])
    × (dynamic_relocations_in tiny ≡ [])
unfolding number_of num signed64 ehdr_at phdr_at sym_at rela_at dyn_at headers_in loaded tls_in counted_entries load_checks entry_in named_by named_in needed_in dynamic_symbols_in dynamic_relocations_in load_refusal
tiny_loaded = (refl, refl, refl, refl, refl, refl, refl, refl, refl, refl, refl, refl, refl, refl, refl, refl, refl, refl, refl)

-- what is no executable ELF64 file; machine and e_version are not looked at
no_executable :
    (load_refusal [] ≡ Some LoadRefusal.NotElf)
    × (load_refusal (take 63 tiny) ≡ Some LoadRefusal.NotElf)
    × (load_refusal (codes "!<arch>") ≡ Some LoadRefusal.NotElf)
    × (load_refusal (patched 0 (126 ∷ []) tiny) ≡ Some LoadRefusal.NotElf)
    × (load_refusal (patched 4 (1 ∷ []) tiny) ≡ Some LoadRefusal.NotElf)
    × (load_refusal (patched 5 (2 ∷ []) tiny) ≡ Some LoadRefusal.NotElf)
    × (load_refusal (patched 6 (0 ∷ []) tiny) ≡ Some LoadRefusal.NotElf)
    × (load_refusal (patched 16 (3 ∷ 0 ∷ []) tiny) ≡ Some LoadRefusal.NotElf)
    × (load_refusal (patched 16 (1 ∷ 0 ∷ []) tiny) ≡ Some LoadRefusal.NotElf)
    × (load_refusal (patched 18 (3 ∷ 0 ∷ []) tiny) ≡ None)
    × (load_refusal (patched 20 (2 ∷ 0 ∷ 0 ∷ 0 ∷ []) tiny) ≡ None)
    × (load_refusal (patched 7 (3 ∷ []) tiny) ≡ None)
unfolding number_of num signed64 ehdr_at phdr_at sym_at rela_at dyn_at headers_in loaded tls_in counted_entries load_checks entry_in named_by named_in needed_in dynamic_symbols_in dynamic_relocations_in load_refusal
no_executable = (refl, refl, refl, refl, refl, refl, refl, refl, refl, refl, refl, refl)

-- headers that do not fit, and ranges of the file that do not fit, of headers of any type; a range that is
-- longer in the file than in memory is not refused
table_refusals :
    (load_refusal (take 187 tiny) ≡ Some (LoadRefusal.BadTable 1))
    × (load_refusal (take 175 tiny) ≡ Some (LoadRefusal.BadTable 0))
    × (load_refusal (take 119 tiny) ≡ Some (LoadRefusal.BadTable 0))
    × (load_refusal (patched 32 (132 ∷ 0 ∷ 0 ∷ 0 ∷ 0 ∷ 0 ∷ 0 ∷ 0 ∷ []) tiny) ≡ Some (LoadRefusal.BadTable 0))
    × (load_refusal (patched 32 (133 ∷ 0 ∷ 0 ∷ 0 ∷ 0 ∷ 0 ∷ 0 ∷ 0 ∷ []) tiny) ≡ Some (LoadRefusal.BadTable 0))
    × (load_refusal (patched 32 (0 ∷ 0 ∷ 0 ∷ 0 ∷ 0 ∷ 1 ∷ 0 ∷ 0 ∷ []) tiny) ≡ Some (LoadRefusal.BadTable 0))
    × (load_refusal (patched 56 (3 ∷ 0 ∷ []) tiny) ≡ Some (LoadRefusal.BadTable 2))
    × (load_refusal (patched 56 (0 ∷ 0 ∷ []) tiny) ≡ None)
    × (load_refusal (patched 96 (188 ∷ 0 ∷ 0 ∷ 0 ∷ 0 ∷ 0 ∷ 0 ∷ 0 ∷ []) tiny) ≡ None)
    × (load_refusal (patched 96 (189 ∷ 0 ∷ 0 ∷ 0 ∷ 0 ∷ 0 ∷ 0 ∷ 0 ∷ []) tiny) ≡ Some (LoadRefusal.BadTable 0))
    × (load_refusal (patched 128 (181 ∷ 0 ∷ 0 ∷ 0 ∷ 0 ∷ 0 ∷ 0 ∷ 0 ∷ []) tiny) ≡ Some (LoadRefusal.BadTable 1))
    × (load_refusal (patched 128 (248 ∷ 255 ∷ 255 ∷ 255 ∷ 255 ∷ 255 ∷ 255 ∷ 255 ∷ []) tiny) ≡ Some (LoadRefusal.BadTable 1))
    × (load_refusal (patched 96 (189 ∷ 0 ∷ 0 ∷ 0 ∷ 0 ∷ 0 ∷ 0 ∷ 0 ∷ []) (patched 152 (9 ∷ 0 ∷ 0 ∷ 0 ∷ 0 ∷ 0 ∷ 0 ∷ 0 ∷ []) tiny)) ≡ Some (LoadRefusal.BadTable 0))
    × (load_refusal (patched 152 (9 ∷ 0 ∷ 0 ∷ 0 ∷ 0 ∷ 0 ∷ 0 ∷ 0 ∷ []) (patched 120 (0 ∷ 0 ∷ 0 ∷ 0 ∷ []) tiny)) ≡ Some (LoadRefusal.BadTable 1))
    × (load_refusal (patched 120 (0 ∷ 0 ∷ 0 ∷ 0 ∷ []) tiny) ≡ None)
    × (load_refusal (patched 54 (57 ∷ 0 ∷ []) tiny) ≡ None)
unfolding number_of num signed64 ehdr_at phdr_at sym_at rela_at dyn_at headers_in loaded tls_in counted_entries load_checks entry_in named_by named_in needed_in dynamic_symbols_in dynamic_relocations_in load_refusal
table_refusals = (refl, refl, refl, refl, refl, refl, refl, refl, refl, refl, refl, refl, refl, refl, refl, refl)

-- a LOAD that begins below the end of an earlier one, also where the two are apart; the number counts LOADs
-- from 0, so that header 2 of the second image is LOAD 1
overlap_refusals :
    (load_refusal (patched 136 (179 ∷ 0 ∷ 64 ∷ 0 ∷ 0 ∷ 0 ∷ 0 ∷ 0 ∷ []) tiny) ≡ Some (LoadRefusal.Overlap 1))
    × (load_refusal (patched 136 (180 ∷ 0 ∷ 64 ∷ 0 ∷ 0 ∷ 0 ∷ 0 ∷ 0 ∷ []) tiny) ≡ None)
    × (load_refusal (patched 136 (0 ∷ 240 ∷ 63 ∷ 0 ∷ 0 ∷ 0 ∷ 0 ∷ 0 ∷ []) tiny) ≡ Some (LoadRefusal.Overlap 1))
    × (load_refusal (patched 104 (179 ∷ 0 ∷ 0 ∷ 0 ∷ 0 ∷ 0 ∷ 0 ∷ 0 ∷ []) (patched 136 (179 ∷ 0 ∷ 64 ∷ 0 ∷ 0 ∷ 0 ∷ 0 ∷ 0 ∷ []) tiny)) ≡ None)
    × (load_refusal (patched 160 (0 ∷ 0 ∷ 0 ∷ 0 ∷ 0 ∷ 0 ∷ 0 ∷ 0 ∷ []) (patched 136 (179 ∷ 0 ∷ 64 ∷ 0 ∷ 0 ∷ 0 ∷ 0 ∷ 0 ∷ []) tiny)) ≡ Some (LoadRefusal.Overlap 1))
    × (load_refusal (patched 120 (4 ∷ 0 ∷ 0 ∷ 0 ∷ []) (patched 136 (179 ∷ 0 ∷ 64 ∷ 0 ∷ 0 ∷ 0 ∷ 0 ∷ 0 ∷ []) tiny)) ≡ None)
    × (load_refusal (patched 152 (9 ∷ 0 ∷ 0 ∷ 0 ∷ 0 ∷ 0 ∷ 0 ∷ 0 ∷ []) (patched 136 (179 ∷ 0 ∷ 64 ∷ 0 ∷ 0 ∷ 0 ∷ 0 ∷ 0 ∷ []) tiny)) ≡ Some (LoadRefusal.BadTable 1))
    × (load_refusal (patched 80 (207 ∷ 1 ∷ 64 ∷ 0 ∷ 0 ∷ 0 ∷ 0 ∷ 0 ∷ []) (patched 192 (207 ∷ 1 ∷ 64 ∷ 0 ∷ 0 ∷ 0 ∷ 0 ∷ 0 ∷ []) linked)) ≡ Some (LoadRefusal.Overlap 2))
unfolding number_of num signed64 ehdr_at phdr_at sym_at rela_at dyn_at headers_in loaded tls_in counted_entries load_checks entry_in named_by named_in needed_in dynamic_symbols_in dynamic_relocations_in load_refusal
overlap_refusals = (refl, refl, refl, refl, refl, refl, refl, refl)

-- a thread-local segment without a byte in the file may name any offset in it, with one byte none past its
-- end
far_zeros :
    (load_refusal (patched 240 (0 ∷ 64 ∷ 0 ∷ 0 ∷ 0 ∷ 0 ∷ 0 ∷ 0 ∷ []) (patched 264 (0 ∷ 0 ∷ 0 ∷ 0 ∷ 0 ∷ 0 ∷ 0 ∷ 0 ∷ []) linked)) ≡ None)
    × (load_refusal (patched 240 (0 ∷ 64 ∷ 0 ∷ 0 ∷ 0 ∷ 0 ∷ 0 ∷ 0 ∷ []) (patched 264 (1 ∷ 0 ∷ 0 ∷ 0 ∷ 0 ∷ 0 ∷ 0 ∷ 0 ∷ []) linked)) ≡ Some (LoadRefusal.BadTable 3))
unfolding number_of num signed64 ehdr_at phdr_at sym_at rela_at dyn_at headers_in loaded tls_in counted_entries load_checks entry_in named_by named_in needed_in dynamic_symbols_in dynamic_relocations_in load_refusal
far_zeros = (refl, refl)

-- what it names: both of NEEDED, the first STRSZ, nothing after the NULL; symbol k at place k; the
-- relocations of RELA and then those of the PLT
linked_loaded :
    (load_refusal linked ≡ None)
    × (entry_in linked ≡ 4194592)
    × (needed_in linked ≡ (codes "libc.so.6") ∷ (codes "ld.so") ∷ [])
    × (dynamic_symbols_in linked ≡ (record { name = []; value = 0; size = 0; info = 0; defined = false }) ∷ (record { name = codes "puts"; value = 4194560; size = 0; info = 18; defined = false }) ∷ (record { name = codes "stdout"; value = 4199072; size = 8; info = 17; defined = true }) ∷ [])
    × (dynamic_relocations_in linked ≡ (record { r_offset = 4199072; r_info = 8589934597; r_addend = pos 0 }) ∷ (record { r_offset = 4199080; r_info = 4294967303; r_addend = negsuc 1 }) ∷ [])
    × (tls_in linked ≡ Some (record { p_type = 7; p_flags = 4; p_offset = 464; p_vaddr = 4198864; p_paddr = 4198864; p_filesz = 8; p_memsz = 24; p_align = 8 }))
    × (loaded linked 4198864 ≡ Some (record { byte = 1; rights = 6 }))
    × (loaded linked 4199071 ≡ Some (record { byte = 0; rights = 6 }))
    × (loaded linked 4199072 ≡ Some (record { byte = 0; rights = 6 }))
    × (loaded linked 4199103 ≡ Some (record { byte = 0; rights = 6 }))
    × (loaded linked 4199104 ≡ None)
unfolding number_of num signed64 ehdr_at phdr_at sym_at rela_at dyn_at headers_in loaded tls_in counted_entries load_checks entry_in named_by named_in needed_in dynamic_symbols_in dynamic_relocations_in load_refusal
linked_loaded = (refl, refl, refl, refl, refl, refl, refl, refl, refl, refl, refl)

-- a table whose address is not named is empty, a size that is not named is 0; without a DYNAMIC header
-- nothing is named; a NULL ends the entries, and so does the end of the segment
absent_names :
    (dynamic_symbols_in (patched 480 (99 ∷ []) linked) ≡ [])
    × (dynamic_symbols_in (patched 512 (99 ∷ []) linked) ≡ [])
    × (dynamic_relocations_in (patched 592 (99 ∷ []) linked) ≡ (record { r_offset = 4199080; r_info = 4294967303; r_addend = negsuc 1 }) ∷ [])
    × (dynamic_relocations_in (patched 624 (99 ∷ []) linked) ≡ (record { r_offset = 4199072; r_info = 8589934597; r_addend = pos 0 }) ∷ [])
    × (dynamic_relocations_in (patched 576 (99 ∷ []) linked) ≡ (record { r_offset = 4199080; r_info = 4294967303; r_addend = negsuc 1 }) ∷ [])
    × (dynamic_relocations_in (patched 632 (23 ∷ 0 ∷ 0 ∷ 0 ∷ 0 ∷ 0 ∷ 0 ∷ 0 ∷ []) linked) ≡ (record { r_offset = 4199072; r_info = 8589934597; r_addend = pos 0 }) ∷ [])
    × (dynamic_relocations_in (patched 600 (48 ∷ 0 ∷ 0 ∷ 0 ∷ 0 ∷ 0 ∷ 0 ∷ 0 ∷ []) linked) ≡ (record { r_offset = 4199072; r_info = 8589934597; r_addend = pos 0 }) ∷ (record { r_offset = 4199080; r_info = 4294967303; r_addend = negsuc 1 }) ∷ (record { r_offset = 4199080; r_info = 4294967303; r_addend = negsuc 1 }) ∷ [])
    × (needed_in (patched 64 (4 ∷ 0 ∷ 0 ∷ 0 ∷ []) linked) ≡ [])
    × (needed_in (patched 544 (0 ∷ 0 ∷ 0 ∷ 0 ∷ 0 ∷ 0 ∷ 0 ∷ 0 ∷ []) linked) ≡ (codes "libc.so.6") ∷ [])
    × (needed_in (patched 104 (96 ∷ 0 ∷ 0 ∷ 0 ∷ 0 ∷ 0 ∷ 0 ∷ 0 ∷ []) linked) ≡ (codes "libc.so.6") ∷ (codes "ld.so") ∷ [])
    × (needed_in (patched 104 (95 ∷ 0 ∷ 0 ∷ 0 ∷ 0 ∷ 0 ∷ 0 ∷ 0 ∷ []) linked) ≡ (codes "libc.so.6") ∷ [])
unfolding number_of num signed64 ehdr_at phdr_at sym_at rela_at dyn_at headers_in loaded tls_in counted_entries load_checks entry_in named_by named_in needed_in dynamic_symbols_in dynamic_relocations_in load_refusal
absent_names = (refl, refl, refl, refl, refl, refl, refl, refl, refl, refl, refl)

-- a byte that is not loaded of the DYNAMIC segment, of the hash table, of the symbols, of the texts, of the
-- relocations; a text that does not end within the first STRSZ, also that of record 0; a header that does not fit comes first
dynamic_refusals :
    (load_refusal (patched 104 (240 ∷ 0 ∷ 0 ∷ 0 ∷ 0 ∷ 0 ∷ 0 ∷ 0 ∷ []) linked) ≡ None)
    × (load_refusal (patched 104 (241 ∷ 0 ∷ 0 ∷ 0 ∷ 0 ∷ 0 ∷ 0 ∷ 0 ∷ []) linked) ≡ Some LoadRefusal.BadDynamic)
    × (load_refusal (patched 80 (207 ∷ 17 ∷ 64 ∷ 0 ∷ 0 ∷ 0 ∷ 0 ∷ 0 ∷ []) linked) ≡ Some LoadRefusal.BadDynamic)
    × (load_refusal (patched 96 (0 ∷ 0 ∷ 0 ∷ 0 ∷ 0 ∷ 0 ∷ 0 ∷ 0 ∷ []) linked) ≡ None)
    × (load_refusal (patched 488 (0 ∷ 0 ∷ 80 ∷ 0 ∷ 0 ∷ 0 ∷ 0 ∷ 0 ∷ []) linked) ≡ Some LoadRefusal.BadDynamic)
    × (load_refusal (patched 488 (204 ∷ 1 ∷ 64 ∷ 0 ∷ 0 ∷ 0 ∷ 0 ∷ 0 ∷ []) linked) ≡ Some LoadRefusal.BadDynamic)
    × (load_refusal (patched 288 (39 ∷ 0 ∷ 0 ∷ 0 ∷ []) linked) ≡ None)
    × (load_refusal (patched 288 (40 ∷ 0 ∷ 0 ∷ 0 ∷ []) linked) ≡ Some LoadRefusal.BadDynamic)
    × (load_refusal (patched 292 (7 ∷ 0 ∷ 0 ∷ 0 ∷ []) linked) ≡ Some LoadRefusal.BadDynamic)
    × (load_refusal (patched 520 (168 ∷ 18 ∷ 64 ∷ 0 ∷ 0 ∷ 0 ∷ 0 ∷ 0 ∷ []) (patched 292 (1 ∷ 0 ∷ 0 ∷ 0 ∷ []) linked)) ≡ None)
    × (load_refusal (patched 520 (169 ∷ 18 ∷ 64 ∷ 0 ∷ 0 ∷ 0 ∷ 0 ∷ 0 ∷ []) (patched 292 (1 ∷ 0 ∷ 0 ∷ 0 ∷ []) linked)) ≡ Some LoadRefusal.BadDynamic)
    × (load_refusal (patched 536 (80 ∷ 0 ∷ 0 ∷ 0 ∷ 0 ∷ 0 ∷ 0 ∷ 0 ∷ []) linked) ≡ None)
    × (load_refusal (patched 536 (81 ∷ 0 ∷ 0 ∷ 0 ∷ 0 ∷ 0 ∷ 0 ∷ 0 ∷ []) linked) ≡ Some LoadRefusal.BadDynamic)
    × (load_refusal (patched 536 (29 ∷ 0 ∷ 0 ∷ 0 ∷ 0 ∷ 0 ∷ 0 ∷ 0 ∷ []) linked) ≡ None)
    × (load_refusal (patched 536 (28 ∷ 0 ∷ 0 ∷ 0 ∷ 0 ∷ 0 ∷ 0 ∷ 0 ∷ []) linked) ≡ Some LoadRefusal.BadDynamic)
    × (load_refusal (patched 528 (99 ∷ []) linked) ≡ Some LoadRefusal.BadDynamic)
    × (load_refusal (patched 496 (99 ∷ []) linked) ≡ Some LoadRefusal.BadDynamic)
    × (load_refusal (patched 336 (28 ∷ 0 ∷ 0 ∷ 0 ∷ []) linked) ≡ None)
    × (load_refusal (patched 336 (29 ∷ 0 ∷ 0 ∷ 0 ∷ []) linked) ≡ Some LoadRefusal.BadDynamic)
    × (load_refusal (patched 312 (29 ∷ 0 ∷ 0 ∷ 0 ∷ []) linked) ≡ Some LoadRefusal.BadDynamic)
    × (load_refusal (patched 472 (29 ∷ 0 ∷ 0 ∷ 0 ∷ 0 ∷ 0 ∷ 0 ∷ 0 ∷ []) linked) ≡ Some LoadRefusal.BadDynamic)
    × (load_refusal (patched 552 (28 ∷ 0 ∷ 0 ∷ 0 ∷ 0 ∷ 0 ∷ 0 ∷ 0 ∷ []) linked) ≡ None)
    × (load_refusal (patched 552 (29 ∷ 0 ∷ 0 ∷ 0 ∷ 0 ∷ 0 ∷ 0 ∷ 0 ∷ []) linked) ≡ Some LoadRefusal.BadDynamic)
    × (load_refusal (patched 600 (48 ∷ 0 ∷ 0 ∷ 0 ∷ 0 ∷ 0 ∷ 0 ∷ 0 ∷ []) linked) ≡ None)
    × (load_refusal (patched 600 (49 ∷ 0 ∷ 0 ∷ 0 ∷ 0 ∷ 0 ∷ 0 ∷ 0 ∷ []) linked) ≡ Some LoadRefusal.BadDynamic)
    × (load_refusal (patched 632 (24 ∷ 0 ∷ 0 ∷ 0 ∷ 0 ∷ 0 ∷ 0 ∷ 0 ∷ []) linked) ≡ None)
    × (load_refusal (patched 632 (25 ∷ 0 ∷ 0 ∷ 0 ∷ 0 ∷ 0 ∷ 0 ∷ 0 ∷ []) linked) ≡ Some LoadRefusal.BadDynamic)
    × (load_refusal (patched 640 (30 ∷ []) linked) ≡ Some LoadRefusal.BadDynamic)
    × (load_refusal (patched 568 (232 ∷ 3 ∷ 0 ∷ 0 ∷ 0 ∷ 0 ∷ 0 ∷ 0 ∷ []) linked) ≡ None)
    × (load_refusal (patched 480 (98 ∷ []) (patched 560 (98 ∷ []) (patched 544 (98 ∷ []) (patched 464 (98 ∷ []) (patched 528 (99 ∷ []) linked))))) ≡ None)
    × (load_refusal (patched 488 (0 ∷ 0 ∷ 0 ∷ 0 ∷ 0 ∷ 0 ∷ 0 ∷ 0 ∷ []) (patched 240 (153 ∷ 2 ∷ 0 ∷ 0 ∷ 0 ∷ 0 ∷ 0 ∷ 0 ∷ []) linked)) ≡ Some (LoadRefusal.BadTable 3))
unfolding number_of num signed64 ehdr_at phdr_at sym_at rela_at dyn_at headers_in loaded tls_in counted_entries load_checks entry_in named_by named_in needed_in dynamic_symbols_in dynamic_relocations_in load_refusal
dynamic_refusals = (refl, refl, refl, refl, refl, refl, refl, refl, refl, refl, refl, refl, refl, refl, refl, refl, refl, refl, refl, refl, refl, refl, refl, refl, refl, refl, refl, refl, refl, refl, refl)
