-- Worked examples: what a file is, an object as it is read, and each fault once; a false one is
-- refused.
use Rattle.std.specs.Prelude.{◌≡◌, ℕ, ◌+◌, Bool, true, false, List, [], ◌∷◌, ◌++◌, Bool, map, length, take, drop, negsuc, pos, codes, Some, None, Ok, Err, refl}
use Rattle.lk_elf.specs.Fields.{number_of, num, signed64}
use Rattle.lk_elf.specs.Records.{ehdr_at, shdr_at, sym_at, rela_at}
use Rattle.lk_report.specs.declared.faults.InputFault.TheVariants.{Archive, Script, NotElf, WrongClass, WrongMachine, WrongType, BadTable, BadName, BadSymbol, BadRela, BadGroup, Compressed, UnsupportedSection, UnknownAlloc, UnsupportedSymbol}
use Rattle.lk_model.specs.declared.layouts.Class.TheVariants.{R, X, W, WX, Tdata, Tbss, Bss, N}
use Rattle.lk_model.specs.declared.summaries.Kind.TheVariants.{Object, Shared}
use Rattle.lk_model.specs.declared.summaries.Home.TheVariants.{Undefined, Section, Absolute, Common}
use Rattle.lk_model.specs.declared.summaries.PieceInfo.{PieceInfo}
use Rattle.lk_model.specs.ObjectChecks.{section_checks_named, symbol_table_checks, symbol_checks_named, rela_checks, rela_section_checks, group_checks, object_checks, object_fault, table_checks, overlap_checks_after, group_checks_after}
use Rattle.lk_model.specs.Elf.{section_headers_of, symbols_of, elf_with, elf_under, elf_of, name_at, section_name, symbol_name}
use Rattle.lk_model.specs.Kinds.{header_checks, kind_checks, kind_of}
use Rattle.lk_model.specs.Objects.{is_terminator_where, signature_of, piece_named, asks_exec_stack, relas_under, relocations_in, piece_bytes_in, words_under, pieces_in, piece_with, globals_in, global_with, groups_in, summary_in, local_in}
use Rattle.lk_model.specs.Pieces.{class_of, common_names, output_name, is_piece, key_of, table_names, tail_names}
use Rattle.lk_model.specs.RelocationTypes.{relocation_types, relocation_type_of, width_of}

-- bytes with others in their place from `at` on
abbrev patched : ℕ → List ℕ → List ℕ → List ℕ
patched at bytes file = take at file ++ bytes ++ drop (at + length bytes) file

-- an object as an assembler made it: two text sections, one of them in a group, data, a common block,
-- a terminator, thread-local data, debug information
abbrev sample : List ℕ
sample =
    127 ∷ 69 ∷ 76 ∷ 70 ∷ 2 ∷ 1 ∷ 1 ∷ 0 ∷ 0 ∷ 0 ∷ 0 ∷ 0 ∷ 0 ∷ 0 ∷ 0 ∷ 0 ∷ 1 ∷ 0 ∷ 62 ∷ 0 ∷ 1 ∷ 0 ∷ 0 ∷ 0 ∷ 0 ∷ 0 ∷ 0 ∷ 0
    ∷ 0 ∷ 0 ∷ 0 ∷ 0 ∷ 0 ∷ 0 ∷ 0 ∷ 0 ∷ 0 ∷ 0 ∷ 0 ∷ 0 ∷ 0 ∷ 3 ∷ 0 ∷ 0 ∷ 0 ∷ 0 ∷ 0 ∷ 0 ∷ 0 ∷ 0 ∷ 0 ∷ 0 ∷ 64 ∷ 0 ∷ 0 ∷ 0
    ∷ 0 ∷ 0 ∷ 64 ∷ 0 ∷ 17 ∷ 0 ∷ 16 ∷ 0 ∷ 1 ∷ 0 ∷ 0 ∷ 0 ∷ 7 ∷ 0 ∷ 0 ∷ 0 ∷ 232 ∷ 0 ∷ 0 ∷ 0 ∷ 0 ∷ 72 ∷ 139 ∷ 5 ∷ 0 ∷ 0 ∷ 0 ∷ 0
    ∷ 195 ∷ 0 ∷ 0 ∷ 0 ∷ 0 ∷ 0 ∷ 0 ∷ 0 ∷ 0 ∷ 0 ∷ 0 ∷ 0 ∷ 0 ∷ 0 ∷ 0 ∷ 0 ∷ 0 ∷ 0 ∷ 0 ∷ 0 ∷ 0 ∷ 0 ∷ 0 ∷ 0 ∷ 0 ∷ 0 ∷ 0 ∷ 0
    ∷ 0 ∷ 0 ∷ 0 ∷ 0 ∷ 0 ∷ 0 ∷ 0 ∷ 0 ∷ 0 ∷ 0 ∷ 0 ∷ 0 ∷ 0 ∷ 0 ∷ 0 ∷ 0 ∷ 195 ∷ 0 ∷ 0 ∷ 0 ∷ 0 ∷ 5 ∷ 0 ∷ 0 ∷ 0 ∷ 0 ∷ 0 ∷ 0
    ∷ 0 ∷ 0 ∷ 0 ∷ 0 ∷ 0 ∷ 25 ∷ 0 ∷ 0 ∷ 0 ∷ 3 ∷ 0 ∷ 19 ∷ 0 ∷ 0 ∷ 0 ∷ 1 ∷ 1 ∷ 251 ∷ 14 ∷ 13 ∷ 0 ∷ 1 ∷ 1 ∷ 1 ∷ 1 ∷ 0 ∷ 0 ∷ 0
    ∷ 1 ∷ 0 ∷ 0 ∷ 1 ∷ 0 ∷ 0 ∷ 0 ∷ 0 ∷ 0 ∷ 0 ∷ 0 ∷ 0 ∷ 0 ∷ 0 ∷ 0 ∷ 0 ∷ 0 ∷ 0 ∷ 0 ∷ 0 ∷ 0 ∷ 0 ∷ 0 ∷ 0 ∷ 0 ∷ 0 ∷ 0 ∷ 0
    ∷ 0 ∷ 0 ∷ 0 ∷ 0 ∷ 0 ∷ 0 ∷ 0 ∷ 0 ∷ 3 ∷ 0 ∷ 4 ∷ 0 ∷ 0 ∷ 0 ∷ 0 ∷ 0 ∷ 0 ∷ 0 ∷ 0 ∷ 0 ∷ 0 ∷ 0 ∷ 0 ∷ 0 ∷ 0 ∷ 0 ∷ 0 ∷ 0
    ∷ 1 ∷ 0 ∷ 0 ∷ 0 ∷ 0 ∷ 0 ∷ 4 ∷ 0 ∷ 8 ∷ 0 ∷ 0 ∷ 0 ∷ 0 ∷ 0 ∷ 0 ∷ 0 ∷ 0 ∷ 0 ∷ 0 ∷ 0 ∷ 0 ∷ 0 ∷ 0 ∷ 0 ∷ 4 ∷ 0 ∷ 0 ∷ 0
    ∷ 18 ∷ 0 ∷ 2 ∷ 0 ∷ 0 ∷ 0 ∷ 0 ∷ 0 ∷ 0 ∷ 0 ∷ 0 ∷ 0 ∷ 13 ∷ 0 ∷ 0 ∷ 0 ∷ 0 ∷ 0 ∷ 0 ∷ 0 ∷ 43 ∷ 0 ∷ 0 ∷ 0 ∷ 16 ∷ 0 ∷ 0 ∷ 0
    ∷ 0 ∷ 0 ∷ 0 ∷ 0 ∷ 0 ∷ 0 ∷ 0 ∷ 0 ∷ 0 ∷ 0 ∷ 0 ∷ 0 ∷ 0 ∷ 0 ∷ 0 ∷ 0 ∷ 11 ∷ 0 ∷ 0 ∷ 0 ∷ 16 ∷ 0 ∷ 0 ∷ 0 ∷ 0 ∷ 0 ∷ 0 ∷ 0
    ∷ 0 ∷ 0 ∷ 0 ∷ 0 ∷ 0 ∷ 0 ∷ 0 ∷ 0 ∷ 0 ∷ 0 ∷ 0 ∷ 0 ∷ 33 ∷ 0 ∷ 0 ∷ 0 ∷ 16 ∷ 0 ∷ 0 ∷ 0 ∷ 0 ∷ 0 ∷ 0 ∷ 0 ∷ 0 ∷ 0 ∷ 0 ∷ 0
    ∷ 0 ∷ 0 ∷ 0 ∷ 0 ∷ 0 ∷ 0 ∷ 0 ∷ 0 ∷ 35 ∷ 0 ∷ 0 ∷ 0 ∷ 32 ∷ 0 ∷ 0 ∷ 0 ∷ 0 ∷ 0 ∷ 0 ∷ 0 ∷ 0 ∷ 0 ∷ 0 ∷ 0 ∷ 0 ∷ 0 ∷ 0 ∷ 0
    ∷ 0 ∷ 0 ∷ 0 ∷ 0 ∷ 37 ∷ 0 ∷ 0 ∷ 0 ∷ 16 ∷ 2 ∷ 241 ∷ 255 ∷ 7 ∷ 0 ∷ 0 ∷ 0 ∷ 0 ∷ 0 ∷ 0 ∷ 0 ∷ 0 ∷ 0 ∷ 0 ∷ 0 ∷ 0 ∷ 0 ∷ 0 ∷ 0
    ∷ 39 ∷ 0 ∷ 0 ∷ 0 ∷ 34 ∷ 0 ∷ 7 ∷ 0 ∷ 0 ∷ 0 ∷ 0 ∷ 0 ∷ 0 ∷ 0 ∷ 0 ∷ 0 ∷ 0 ∷ 0 ∷ 0 ∷ 0 ∷ 0 ∷ 0 ∷ 0 ∷ 0 ∷ 41 ∷ 0 ∷ 0 ∷ 0
    ∷ 17 ∷ 0 ∷ 242 ∷ 255 ∷ 4 ∷ 0 ∷ 0 ∷ 0 ∷ 0 ∷ 0 ∷ 0 ∷ 0 ∷ 8 ∷ 0 ∷ 0 ∷ 0 ∷ 0 ∷ 0 ∷ 0 ∷ 0 ∷ 9 ∷ 0 ∷ 0 ∷ 0 ∷ 22 ∷ 0 ∷ 9 ∷ 0
    ∷ 0 ∷ 0 ∷ 0 ∷ 0 ∷ 0 ∷ 0 ∷ 0 ∷ 0 ∷ 4 ∷ 0 ∷ 0 ∷ 0 ∷ 0 ∷ 0 ∷ 0 ∷ 0 ∷ 0 ∷ 108 ∷ 48 ∷ 0 ∷ 95 ∷ 115 ∷ 116 ∷ 97 ∷ 114 ∷ 116 ∷ 0 ∷ 95
    ∷ 71 ∷ 76 ∷ 79 ∷ 66 ∷ 65 ∷ 76 ∷ 95 ∷ 79 ∷ 70 ∷ 70 ∷ 83 ∷ 69 ∷ 84 ∷ 95 ∷ 84 ∷ 65 ∷ 66 ∷ 76 ∷ 69 ∷ 95 ∷ 0 ∷ 120 ∷ 0 ∷ 119 ∷ 0 ∷ 104 ∷ 0 ∷ 103
    ∷ 0 ∷ 98 ∷ 117 ∷ 102 ∷ 0 ∷ 0 ∷ 0 ∷ 0 ∷ 1 ∷ 0 ∷ 0 ∷ 0 ∷ 0 ∷ 0 ∷ 0 ∷ 0 ∷ 4 ∷ 0 ∷ 0 ∷ 0 ∷ 4 ∷ 0 ∷ 0 ∷ 0 ∷ 252 ∷ 255 ∷ 255 ∷ 255
    ∷ 255 ∷ 255 ∷ 255 ∷ 255 ∷ 8 ∷ 0 ∷ 0 ∷ 0 ∷ 0 ∷ 0 ∷ 0 ∷ 0 ∷ 42 ∷ 0 ∷ 0 ∷ 0 ∷ 6 ∷ 0 ∷ 0 ∷ 0 ∷ 252 ∷ 255 ∷ 255 ∷ 255 ∷ 255 ∷ 255 ∷ 255 ∷ 255
    ∷ 0 ∷ 0 ∷ 0 ∷ 0 ∷ 0 ∷ 0 ∷ 0 ∷ 0 ∷ 1 ∷ 0 ∷ 0 ∷ 0 ∷ 3 ∷ 0 ∷ 0 ∷ 0 ∷ 0 ∷ 0 ∷ 0 ∷ 0 ∷ 0 ∷ 0 ∷ 0 ∷ 0 ∷ 8 ∷ 0 ∷ 0 ∷ 0
    ∷ 0 ∷ 0 ∷ 0 ∷ 0 ∷ 1 ∷ 0 ∷ 0 ∷ 0 ∷ 1 ∷ 0 ∷ 0 ∷ 0 ∷ 8 ∷ 0 ∷ 0 ∷ 0 ∷ 0 ∷ 0 ∷ 0 ∷ 0 ∷ 0 ∷ 0 ∷ 0 ∷ 0 ∷ 0 ∷ 0 ∷ 0 ∷ 0
    ∷ 1 ∷ 0 ∷ 0 ∷ 0 ∷ 7 ∷ 0 ∷ 0 ∷ 0 ∷ 0 ∷ 0 ∷ 0 ∷ 0 ∷ 0 ∷ 0 ∷ 0 ∷ 0 ∷ 0 ∷ 46 ∷ 115 ∷ 121 ∷ 109 ∷ 116 ∷ 97 ∷ 98 ∷ 0 ∷ 46 ∷ 115 ∷ 116
    ∷ 114 ∷ 116 ∷ 97 ∷ 98 ∷ 0 ∷ 46 ∷ 115 ∷ 104 ∷ 115 ∷ 116 ∷ 114 ∷ 116 ∷ 97 ∷ 98 ∷ 0 ∷ 46 ∷ 114 ∷ 101 ∷ 108 ∷ 97 ∷ 46 ∷ 116 ∷ 101 ∷ 120 ∷ 116 ∷ 0 ∷ 46 ∷ 114
    ∷ 101 ∷ 108 ∷ 97 ∷ 46 ∷ 100 ∷ 97 ∷ 116 ∷ 97 ∷ 0 ∷ 46 ∷ 98 ∷ 115 ∷ 115 ∷ 0 ∷ 46 ∷ 116 ∷ 101 ∷ 120 ∷ 116 ∷ 46 ∷ 103 ∷ 0 ∷ 46 ∷ 101 ∷ 104 ∷ 95 ∷ 102 ∷ 114
    ∷ 97 ∷ 109 ∷ 101 ∷ 0 ∷ 46 ∷ 116 ∷ 100 ∷ 97 ∷ 116 ∷ 97 ∷ 46 ∷ 116 ∷ 0 ∷ 46 ∷ 114 ∷ 101 ∷ 108 ∷ 97 ∷ 46 ∷ 100 ∷ 101 ∷ 98 ∷ 117 ∷ 103 ∷ 95 ∷ 105 ∷ 110 ∷ 102
    ∷ 111 ∷ 0 ∷ 46 ∷ 110 ∷ 111 ∷ 116 ∷ 101 ∷ 46 ∷ 71 ∷ 78 ∷ 85 ∷ 45 ∷ 115 ∷ 116 ∷ 97 ∷ 99 ∷ 107 ∷ 0 ∷ 46 ∷ 100 ∷ 101 ∷ 98 ∷ 117 ∷ 103 ∷ 95 ∷ 108 ∷ 105 ∷ 110
    ∷ 101 ∷ 0 ∷ 46 ∷ 103 ∷ 114 ∷ 111 ∷ 117 ∷ 112 ∷ 0 ∷ 0 ∷ 0 ∷ 0 ∷ 0 ∷ 0 ∷ 0 ∷ 0 ∷ 0 ∷ 0 ∷ 0 ∷ 0 ∷ 0 ∷ 0 ∷ 0 ∷ 0 ∷ 0 ∷ 0 ∷ 0 ∷ 0
    ∷ 0 ∷ 0 ∷ 0 ∷ 0 ∷ 0 ∷ 0 ∷ 0 ∷ 0 ∷ 0 ∷ 0 ∷ 0 ∷ 0 ∷ 0 ∷ 0 ∷ 0 ∷ 0 ∷ 0 ∷ 0 ∷ 0 ∷ 0 ∷ 0 ∷ 0 ∷ 0 ∷ 0 ∷ 0 ∷ 0 ∷ 0 ∷ 0
    ∷ 0 ∷ 0 ∷ 0 ∷ 0 ∷ 0 ∷ 0 ∷ 0 ∷ 0 ∷ 0 ∷ 0 ∷ 0 ∷ 0 ∷ 0 ∷ 0 ∷ 0 ∷ 0 ∷ 0 ∷ 0 ∷ 0 ∷ 0 ∷ 126 ∷ 0 ∷ 0 ∷ 0 ∷ 17 ∷ 0 ∷ 0 ∷ 0
    ∷ 0 ∷ 0 ∷ 0 ∷ 0 ∷ 0 ∷ 0 ∷ 0 ∷ 0 ∷ 0 ∷ 0 ∷ 0 ∷ 0 ∷ 0 ∷ 0 ∷ 0 ∷ 0 ∷ 64 ∷ 0 ∷ 0 ∷ 0 ∷ 0 ∷ 0 ∷ 0 ∷ 0 ∷ 8 ∷ 0 ∷ 0 ∷ 0
    ∷ 0 ∷ 0 ∷ 0 ∷ 0 ∷ 14 ∷ 0 ∷ 0 ∷ 0 ∷ 9 ∷ 0 ∷ 0 ∷ 0 ∷ 4 ∷ 0 ∷ 0 ∷ 0 ∷ 0 ∷ 0 ∷ 0 ∷ 0 ∷ 4 ∷ 0 ∷ 0 ∷ 0 ∷ 0 ∷ 0 ∷ 0 ∷ 0
    ∷ 32 ∷ 0 ∷ 0 ∷ 0 ∷ 1 ∷ 0 ∷ 0 ∷ 0 ∷ 6 ∷ 0 ∷ 0 ∷ 0 ∷ 0 ∷ 0 ∷ 0 ∷ 0 ∷ 0 ∷ 0 ∷ 0 ∷ 0 ∷ 0 ∷ 0 ∷ 0 ∷ 0 ∷ 72 ∷ 0 ∷ 0 ∷ 0
    ∷ 0 ∷ 0 ∷ 0 ∷ 0 ∷ 13 ∷ 0 ∷ 0 ∷ 0 ∷ 0 ∷ 0 ∷ 0 ∷ 0 ∷ 0 ∷ 0 ∷ 0 ∷ 0 ∷ 0 ∷ 0 ∷ 0 ∷ 0 ∷ 1 ∷ 0 ∷ 0 ∷ 0 ∷ 0 ∷ 0 ∷ 0 ∷ 0
    ∷ 0 ∷ 0 ∷ 0 ∷ 0 ∷ 0 ∷ 0 ∷ 0 ∷ 0 ∷ 27 ∷ 0 ∷ 0 ∷ 0 ∷ 4 ∷ 0 ∷ 0 ∷ 0 ∷ 64 ∷ 0 ∷ 0 ∷ 0 ∷ 0 ∷ 0 ∷ 0 ∷ 0 ∷ 0 ∷ 0 ∷ 0 ∷ 0
    ∷ 0 ∷ 0 ∷ 0 ∷ 0 ∷ 0 ∷ 2 ∷ 0 ∷ 0 ∷ 0 ∷ 0 ∷ 0 ∷ 0 ∷ 48 ∷ 0 ∷ 0 ∷ 0 ∷ 0 ∷ 0 ∷ 0 ∷ 0 ∷ 14 ∷ 0 ∷ 0 ∷ 0 ∷ 2 ∷ 0 ∷ 0 ∷ 0
    ∷ 8 ∷ 0 ∷ 0 ∷ 0 ∷ 0 ∷ 0 ∷ 0 ∷ 0 ∷ 24 ∷ 0 ∷ 0 ∷ 0 ∷ 0 ∷ 0 ∷ 0 ∷ 0 ∷ 43 ∷ 0 ∷ 0 ∷ 0 ∷ 1 ∷ 0 ∷ 0 ∷ 0 ∷ 3 ∷ 0 ∷ 0 ∷ 0
    ∷ 0 ∷ 0 ∷ 0 ∷ 0 ∷ 0 ∷ 0 ∷ 0 ∷ 0 ∷ 0 ∷ 0 ∷ 0 ∷ 0 ∷ 85 ∷ 0 ∷ 0 ∷ 0 ∷ 0 ∷ 0 ∷ 0 ∷ 0 ∷ 16 ∷ 0 ∷ 0 ∷ 0 ∷ 0 ∷ 0 ∷ 0 ∷ 0
    ∷ 0 ∷ 0 ∷ 0 ∷ 0 ∷ 0 ∷ 0 ∷ 0 ∷ 0 ∷ 1 ∷ 0 ∷ 0 ∷ 0 ∷ 0 ∷ 0 ∷ 0 ∷ 0 ∷ 0 ∷ 0 ∷ 0 ∷ 0 ∷ 0 ∷ 0 ∷ 0 ∷ 0 ∷ 38 ∷ 0 ∷ 0 ∷ 0
    ∷ 4 ∷ 0 ∷ 0 ∷ 0 ∷ 64 ∷ 0 ∷ 0 ∷ 0 ∷ 0 ∷ 0 ∷ 0 ∷ 0 ∷ 0 ∷ 0 ∷ 0 ∷ 0 ∷ 0 ∷ 0 ∷ 0 ∷ 0 ∷ 48 ∷ 2 ∷ 0 ∷ 0 ∷ 0 ∷ 0 ∷ 0 ∷ 0
    ∷ 48 ∷ 0 ∷ 0 ∷ 0 ∷ 0 ∷ 0 ∷ 0 ∷ 0 ∷ 14 ∷ 0 ∷ 0 ∷ 0 ∷ 4 ∷ 0 ∷ 0 ∷ 0 ∷ 8 ∷ 0 ∷ 0 ∷ 0 ∷ 0 ∷ 0 ∷ 0 ∷ 0 ∷ 24 ∷ 0 ∷ 0 ∷ 0
    ∷ 0 ∷ 0 ∷ 0 ∷ 0 ∷ 49 ∷ 0 ∷ 0 ∷ 0 ∷ 8 ∷ 0 ∷ 0 ∷ 0 ∷ 3 ∷ 0 ∷ 0 ∷ 0 ∷ 0 ∷ 0 ∷ 0 ∷ 0 ∷ 0 ∷ 0 ∷ 0 ∷ 0 ∷ 0 ∷ 0 ∷ 0 ∷ 0
    ∷ 128 ∷ 0 ∷ 0 ∷ 0 ∷ 0 ∷ 0 ∷ 0 ∷ 0 ∷ 40 ∷ 0 ∷ 0 ∷ 0 ∷ 0 ∷ 0 ∷ 0 ∷ 0 ∷ 0 ∷ 0 ∷ 0 ∷ 0 ∷ 0 ∷ 0 ∷ 0 ∷ 0 ∷ 32 ∷ 0 ∷ 0 ∷ 0
    ∷ 0 ∷ 0 ∷ 0 ∷ 0 ∷ 0 ∷ 0 ∷ 0 ∷ 0 ∷ 0 ∷ 0 ∷ 0 ∷ 0 ∷ 54 ∷ 0 ∷ 0 ∷ 0 ∷ 1 ∷ 0 ∷ 0 ∷ 0 ∷ 6 ∷ 2 ∷ 0 ∷ 0 ∷ 0 ∷ 0 ∷ 0 ∷ 0
    ∷ 0 ∷ 0 ∷ 0 ∷ 0 ∷ 0 ∷ 0 ∷ 0 ∷ 0 ∷ 128 ∷ 0 ∷ 0 ∷ 0 ∷ 0 ∷ 0 ∷ 0 ∷ 0 ∷ 1 ∷ 0 ∷ 0 ∷ 0 ∷ 0 ∷ 0 ∷ 0 ∷ 0 ∷ 0 ∷ 0 ∷ 0 ∷ 0
    ∷ 0 ∷ 0 ∷ 0 ∷ 0 ∷ 1 ∷ 0 ∷ 0 ∷ 0 ∷ 0 ∷ 0 ∷ 0 ∷ 0 ∷ 0 ∷ 0 ∷ 0 ∷ 0 ∷ 0 ∷ 0 ∷ 0 ∷ 0 ∷ 62 ∷ 0 ∷ 0 ∷ 0 ∷ 1 ∷ 0 ∷ 0 ∷ 0
    ∷ 2 ∷ 0 ∷ 0 ∷ 0 ∷ 0 ∷ 0 ∷ 0 ∷ 0 ∷ 0 ∷ 0 ∷ 0 ∷ 0 ∷ 0 ∷ 0 ∷ 0 ∷ 0 ∷ 129 ∷ 0 ∷ 0 ∷ 0 ∷ 0 ∷ 0 ∷ 0 ∷ 0 ∷ 4 ∷ 0 ∷ 0 ∷ 0
    ∷ 0 ∷ 0 ∷ 0 ∷ 0 ∷ 0 ∷ 0 ∷ 0 ∷ 0 ∷ 0 ∷ 0 ∷ 0 ∷ 0 ∷ 1 ∷ 0 ∷ 0 ∷ 0 ∷ 0 ∷ 0 ∷ 0 ∷ 0 ∷ 0 ∷ 0 ∷ 0 ∷ 0 ∷ 0 ∷ 0 ∷ 0 ∷ 0
    ∷ 72 ∷ 0 ∷ 0 ∷ 0 ∷ 1 ∷ 0 ∷ 0 ∷ 0 ∷ 3 ∷ 4 ∷ 0 ∷ 0 ∷ 0 ∷ 0 ∷ 0 ∷ 0 ∷ 0 ∷ 0 ∷ 0 ∷ 0 ∷ 0 ∷ 0 ∷ 0 ∷ 0 ∷ 133 ∷ 0 ∷ 0 ∷ 0
    ∷ 0 ∷ 0 ∷ 0 ∷ 0 ∷ 4 ∷ 0 ∷ 0 ∷ 0 ∷ 0 ∷ 0 ∷ 0 ∷ 0 ∷ 0 ∷ 0 ∷ 0 ∷ 0 ∷ 0 ∷ 0 ∷ 0 ∷ 0 ∷ 1 ∷ 0 ∷ 0 ∷ 0 ∷ 0 ∷ 0 ∷ 0 ∷ 0
    ∷ 0 ∷ 0 ∷ 0 ∷ 0 ∷ 0 ∷ 0 ∷ 0 ∷ 0 ∷ 86 ∷ 0 ∷ 0 ∷ 0 ∷ 1 ∷ 0 ∷ 0 ∷ 0 ∷ 0 ∷ 0 ∷ 0 ∷ 0 ∷ 0 ∷ 0 ∷ 0 ∷ 0 ∷ 0 ∷ 0 ∷ 0 ∷ 0
    ∷ 0 ∷ 0 ∷ 0 ∷ 0 ∷ 137 ∷ 0 ∷ 0 ∷ 0 ∷ 0 ∷ 0 ∷ 0 ∷ 0 ∷ 8 ∷ 0 ∷ 0 ∷ 0 ∷ 0 ∷ 0 ∷ 0 ∷ 0 ∷ 0 ∷ 0 ∷ 0 ∷ 0 ∷ 0 ∷ 0 ∷ 0 ∷ 0
    ∷ 1 ∷ 0 ∷ 0 ∷ 0 ∷ 0 ∷ 0 ∷ 0 ∷ 0 ∷ 0 ∷ 0 ∷ 0 ∷ 0 ∷ 0 ∷ 0 ∷ 0 ∷ 0 ∷ 81 ∷ 0 ∷ 0 ∷ 0 ∷ 4 ∷ 0 ∷ 0 ∷ 0 ∷ 64 ∷ 0 ∷ 0 ∷ 0
    ∷ 0 ∷ 0 ∷ 0 ∷ 0 ∷ 0 ∷ 0 ∷ 0 ∷ 0 ∷ 0 ∷ 0 ∷ 0 ∷ 0 ∷ 96 ∷ 2 ∷ 0 ∷ 0 ∷ 0 ∷ 0 ∷ 0 ∷ 0 ∷ 24 ∷ 0 ∷ 0 ∷ 0 ∷ 0 ∷ 0 ∷ 0 ∷ 0
    ∷ 14 ∷ 0 ∷ 0 ∷ 0 ∷ 10 ∷ 0 ∷ 0 ∷ 0 ∷ 8 ∷ 0 ∷ 0 ∷ 0 ∷ 0 ∷ 0 ∷ 0 ∷ 0 ∷ 24 ∷ 0 ∷ 0 ∷ 0 ∷ 0 ∷ 0 ∷ 0 ∷ 0 ∷ 98 ∷ 0 ∷ 0 ∷ 0
    ∷ 1 ∷ 0 ∷ 0 ∷ 0 ∷ 0 ∷ 0 ∷ 0 ∷ 0 ∷ 0 ∷ 0 ∷ 0 ∷ 0 ∷ 0 ∷ 0 ∷ 0 ∷ 0 ∷ 0 ∷ 0 ∷ 0 ∷ 0 ∷ 145 ∷ 0 ∷ 0 ∷ 0 ∷ 0 ∷ 0 ∷ 0 ∷ 0
    ∷ 0 ∷ 0 ∷ 0 ∷ 0 ∷ 0 ∷ 0 ∷ 0 ∷ 0 ∷ 0 ∷ 0 ∷ 0 ∷ 0 ∷ 0 ∷ 0 ∷ 0 ∷ 0 ∷ 1 ∷ 0 ∷ 0 ∷ 0 ∷ 0 ∷ 0 ∷ 0 ∷ 0 ∷ 0 ∷ 0 ∷ 0 ∷ 0
    ∷ 0 ∷ 0 ∷ 0 ∷ 0 ∷ 114 ∷ 0 ∷ 0 ∷ 0 ∷ 1 ∷ 0 ∷ 0 ∷ 0 ∷ 0 ∷ 0 ∷ 0 ∷ 0 ∷ 0 ∷ 0 ∷ 0 ∷ 0 ∷ 0 ∷ 0 ∷ 0 ∷ 0 ∷ 0 ∷ 0 ∷ 0 ∷ 0
    ∷ 145 ∷ 0 ∷ 0 ∷ 0 ∷ 0 ∷ 0 ∷ 0 ∷ 0 ∷ 29 ∷ 0 ∷ 0 ∷ 0 ∷ 0 ∷ 0 ∷ 0 ∷ 0 ∷ 0 ∷ 0 ∷ 0 ∷ 0 ∷ 0 ∷ 0 ∷ 0 ∷ 0 ∷ 1 ∷ 0 ∷ 0 ∷ 0
    ∷ 0 ∷ 0 ∷ 0 ∷ 0 ∷ 0 ∷ 0 ∷ 0 ∷ 0 ∷ 0 ∷ 0 ∷ 0 ∷ 0 ∷ 1 ∷ 0 ∷ 0 ∷ 0 ∷ 2 ∷ 0 ∷ 0 ∷ 0 ∷ 0 ∷ 0 ∷ 0 ∷ 0 ∷ 0 ∷ 0 ∷ 0 ∷ 0
    ∷ 0 ∷ 0 ∷ 0 ∷ 0 ∷ 0 ∷ 0 ∷ 0 ∷ 0 ∷ 176 ∷ 0 ∷ 0 ∷ 0 ∷ 0 ∷ 0 ∷ 0 ∷ 0 ∷ 32 ∷ 1 ∷ 0 ∷ 0 ∷ 0 ∷ 0 ∷ 0 ∷ 0 ∷ 15 ∷ 0 ∷ 0 ∷ 0
    ∷ 3 ∷ 0 ∷ 0 ∷ 0 ∷ 8 ∷ 0 ∷ 0 ∷ 0 ∷ 0 ∷ 0 ∷ 0 ∷ 0 ∷ 24 ∷ 0 ∷ 0 ∷ 0 ∷ 0 ∷ 0 ∷ 0 ∷ 0 ∷ 9 ∷ 0 ∷ 0 ∷ 0 ∷ 3 ∷ 0 ∷ 0 ∷ 0
    ∷ 0 ∷ 0 ∷ 0 ∷ 0 ∷ 0 ∷ 0 ∷ 0 ∷ 0 ∷ 0 ∷ 0 ∷ 0 ∷ 0 ∷ 0 ∷ 0 ∷ 0 ∷ 0 ∷ 208 ∷ 1 ∷ 0 ∷ 0 ∷ 0 ∷ 0 ∷ 0 ∷ 0 ∷ 45 ∷ 0 ∷ 0 ∷ 0
    ∷ 0 ∷ 0 ∷ 0 ∷ 0 ∷ 0 ∷ 0 ∷ 0 ∷ 0 ∷ 0 ∷ 0 ∷ 0 ∷ 0 ∷ 1 ∷ 0 ∷ 0 ∷ 0 ∷ 0 ∷ 0 ∷ 0 ∷ 0 ∷ 0 ∷ 0 ∷ 0 ∷ 0 ∷ 0 ∷ 0 ∷ 0 ∷ 0
    ∷ 17 ∷ 0 ∷ 0 ∷ 0 ∷ 3 ∷ 0 ∷ 0 ∷ 0 ∷ 0 ∷ 0 ∷ 0 ∷ 0 ∷ 0 ∷ 0 ∷ 0 ∷ 0 ∷ 0 ∷ 0 ∷ 0 ∷ 0 ∷ 0 ∷ 0 ∷ 0 ∷ 0 ∷ 120 ∷ 2 ∷ 0 ∷ 0
    ∷ 0 ∷ 0 ∷ 0 ∷ 0 ∷ 133 ∷ 0 ∷ 0 ∷ 0 ∷ 0 ∷ 0 ∷ 0 ∷ 0 ∷ 0 ∷ 0 ∷ 0 ∷ 0 ∷ 0 ∷ 0 ∷ 0 ∷ 0 ∷ 1 ∷ 0 ∷ 0 ∷ 0 ∷ 0 ∷ 0 ∷ 0 ∷ 0
    ∷ 0 ∷ 0 ∷ 0 ∷ 0 ∷ 0 ∷ 0 ∷ 0 ∷ 0 ∷ []

-- a small object of 816 bytes: .text, .rela.text, .group, .symtab, .strtab, .shstrtab, .tbss; symbols
-- 1 the LOCAL one of .text, 2 `_start`, 3 `f`; relocations PC32 of `f` at 1 and 64 of symbol 1 at 8
abbrev small : List ℕ
small =
    127 ∷ 69 ∷ 76 ∷ 70 ∷ 2 ∷ 1 ∷ 1 ∷ 0 ∷ 0 ∷ 0 ∷ 0 ∷ 0 ∷ 0 ∷ 0 ∷ 0 ∷ 0 ∷ 1 ∷ 0 ∷ 62 ∷ 0 ∷ 1 ∷ 0 ∷ 0 ∷ 0 ∷ 0 ∷ 0 ∷ 0 ∷ 0
    ∷ 0 ∷ 0 ∷ 0 ∷ 0 ∷ 0 ∷ 0 ∷ 0 ∷ 0 ∷ 0 ∷ 0 ∷ 0 ∷ 0 ∷ 48 ∷ 1 ∷ 0 ∷ 0 ∷ 0 ∷ 0 ∷ 0 ∷ 0 ∷ 0 ∷ 0 ∷ 0 ∷ 0 ∷ 64 ∷ 0 ∷ 0 ∷ 0
    ∷ 0 ∷ 0 ∷ 64 ∷ 0 ∷ 8 ∷ 0 ∷ 6 ∷ 0 ∷ 232 ∷ 0 ∷ 0 ∷ 0 ∷ 0 ∷ 195 ∷ 144 ∷ 144 ∷ 0 ∷ 0 ∷ 0 ∷ 0 ∷ 0 ∷ 0 ∷ 0 ∷ 0 ∷ 1 ∷ 0 ∷ 0 ∷ 0
    ∷ 0 ∷ 0 ∷ 0 ∷ 0 ∷ 2 ∷ 0 ∷ 0 ∷ 0 ∷ 3 ∷ 0 ∷ 0 ∷ 0 ∷ 252 ∷ 255 ∷ 255 ∷ 255 ∷ 255 ∷ 255 ∷ 255 ∷ 255 ∷ 8 ∷ 0 ∷ 0 ∷ 0 ∷ 0 ∷ 0 ∷ 0 ∷ 0
    ∷ 1 ∷ 0 ∷ 0 ∷ 0 ∷ 1 ∷ 0 ∷ 0 ∷ 0 ∷ 0 ∷ 0 ∷ 0 ∷ 0 ∷ 0 ∷ 0 ∷ 0 ∷ 0 ∷ 1 ∷ 0 ∷ 0 ∷ 0 ∷ 1 ∷ 0 ∷ 0 ∷ 0 ∷ 0 ∷ 0 ∷ 0 ∷ 0
    ∷ 0 ∷ 0 ∷ 0 ∷ 0 ∷ 0 ∷ 0 ∷ 0 ∷ 0 ∷ 0 ∷ 0 ∷ 0 ∷ 0 ∷ 0 ∷ 0 ∷ 0 ∷ 0 ∷ 0 ∷ 0 ∷ 0 ∷ 0 ∷ 0 ∷ 0 ∷ 0 ∷ 0 ∷ 3 ∷ 0 ∷ 1 ∷ 0
    ∷ 0 ∷ 0 ∷ 0 ∷ 0 ∷ 0 ∷ 0 ∷ 0 ∷ 0 ∷ 0 ∷ 0 ∷ 0 ∷ 0 ∷ 0 ∷ 0 ∷ 0 ∷ 0 ∷ 1 ∷ 0 ∷ 0 ∷ 0 ∷ 18 ∷ 0 ∷ 1 ∷ 0 ∷ 0 ∷ 0 ∷ 0 ∷ 0
    ∷ 0 ∷ 0 ∷ 0 ∷ 0 ∷ 16 ∷ 0 ∷ 0 ∷ 0 ∷ 0 ∷ 0 ∷ 0 ∷ 0 ∷ 8 ∷ 0 ∷ 0 ∷ 0 ∷ 16 ∷ 0 ∷ 0 ∷ 0 ∷ 0 ∷ 0 ∷ 0 ∷ 0 ∷ 0 ∷ 0 ∷ 0 ∷ 0
    ∷ 0 ∷ 0 ∷ 0 ∷ 0 ∷ 0 ∷ 0 ∷ 0 ∷ 0 ∷ 0 ∷ 95 ∷ 115 ∷ 116 ∷ 97 ∷ 114 ∷ 116 ∷ 0 ∷ 102 ∷ 0 ∷ 0 ∷ 46 ∷ 116 ∷ 101 ∷ 120 ∷ 116 ∷ 0 ∷ 46 ∷ 114 ∷ 101
    ∷ 108 ∷ 97 ∷ 46 ∷ 116 ∷ 101 ∷ 120 ∷ 116 ∷ 0 ∷ 46 ∷ 103 ∷ 114 ∷ 111 ∷ 117 ∷ 112 ∷ 0 ∷ 46 ∷ 115 ∷ 121 ∷ 109 ∷ 116 ∷ 97 ∷ 98 ∷ 0 ∷ 46 ∷ 115 ∷ 116 ∷ 114 ∷ 116
    ∷ 97 ∷ 98 ∷ 0 ∷ 46 ∷ 115 ∷ 104 ∷ 115 ∷ 116 ∷ 114 ∷ 116 ∷ 97 ∷ 98 ∷ 0 ∷ 46 ∷ 116 ∷ 98 ∷ 115 ∷ 115 ∷ 0 ∷ 0 ∷ 0 ∷ 0 ∷ 0 ∷ 0 ∷ 0 ∷ 0 ∷ 0 ∷ 0
    ∷ 0 ∷ 0 ∷ 0 ∷ 0 ∷ 0 ∷ 0 ∷ 0 ∷ 0 ∷ 0 ∷ 0 ∷ 0 ∷ 0 ∷ 0 ∷ 0 ∷ 0 ∷ 0 ∷ 0 ∷ 0 ∷ 0 ∷ 0 ∷ 0 ∷ 0 ∷ 0 ∷ 0 ∷ 0 ∷ 0 ∷ 0 ∷ 0
    ∷ 0 ∷ 0 ∷ 0 ∷ 0 ∷ 0 ∷ 0 ∷ 0 ∷ 0 ∷ 0 ∷ 0 ∷ 0 ∷ 0 ∷ 0 ∷ 0 ∷ 0 ∷ 0 ∷ 0 ∷ 0 ∷ 0 ∷ 0 ∷ 0 ∷ 0 ∷ 0 ∷ 0 ∷ 0 ∷ 0 ∷ 0 ∷ 0
    ∷ 0 ∷ 0 ∷ 0 ∷ 0 ∷ 1 ∷ 0 ∷ 0 ∷ 0 ∷ 1 ∷ 0 ∷ 0 ∷ 0 ∷ 6 ∷ 0 ∷ 0 ∷ 0 ∷ 0 ∷ 0 ∷ 0 ∷ 0 ∷ 0 ∷ 0 ∷ 0 ∷ 0 ∷ 0 ∷ 0 ∷ 0 ∷ 0
    ∷ 64 ∷ 0 ∷ 0 ∷ 0 ∷ 0 ∷ 0 ∷ 0 ∷ 0 ∷ 16 ∷ 0 ∷ 0 ∷ 0 ∷ 0 ∷ 0 ∷ 0 ∷ 0 ∷ 0 ∷ 0 ∷ 0 ∷ 0 ∷ 0 ∷ 0 ∷ 0 ∷ 0 ∷ 16 ∷ 0 ∷ 0 ∷ 0
    ∷ 0 ∷ 0 ∷ 0 ∷ 0 ∷ 0 ∷ 0 ∷ 0 ∷ 0 ∷ 0 ∷ 0 ∷ 0 ∷ 0 ∷ 7 ∷ 0 ∷ 0 ∷ 0 ∷ 4 ∷ 0 ∷ 0 ∷ 0 ∷ 64 ∷ 0 ∷ 0 ∷ 0 ∷ 0 ∷ 0 ∷ 0 ∷ 0
    ∷ 0 ∷ 0 ∷ 0 ∷ 0 ∷ 0 ∷ 0 ∷ 0 ∷ 0 ∷ 80 ∷ 0 ∷ 0 ∷ 0 ∷ 0 ∷ 0 ∷ 0 ∷ 0 ∷ 48 ∷ 0 ∷ 0 ∷ 0 ∷ 0 ∷ 0 ∷ 0 ∷ 0 ∷ 4 ∷ 0 ∷ 0 ∷ 0
    ∷ 1 ∷ 0 ∷ 0 ∷ 0 ∷ 8 ∷ 0 ∷ 0 ∷ 0 ∷ 0 ∷ 0 ∷ 0 ∷ 0 ∷ 24 ∷ 0 ∷ 0 ∷ 0 ∷ 0 ∷ 0 ∷ 0 ∷ 0 ∷ 18 ∷ 0 ∷ 0 ∷ 0 ∷ 17 ∷ 0 ∷ 0 ∷ 0
    ∷ 0 ∷ 0 ∷ 0 ∷ 0 ∷ 0 ∷ 0 ∷ 0 ∷ 0 ∷ 0 ∷ 0 ∷ 0 ∷ 0 ∷ 0 ∷ 0 ∷ 0 ∷ 0 ∷ 128 ∷ 0 ∷ 0 ∷ 0 ∷ 0 ∷ 0 ∷ 0 ∷ 0 ∷ 8 ∷ 0 ∷ 0 ∷ 0
    ∷ 0 ∷ 0 ∷ 0 ∷ 0 ∷ 4 ∷ 0 ∷ 0 ∷ 0 ∷ 2 ∷ 0 ∷ 0 ∷ 0 ∷ 4 ∷ 0 ∷ 0 ∷ 0 ∷ 0 ∷ 0 ∷ 0 ∷ 0 ∷ 4 ∷ 0 ∷ 0 ∷ 0 ∷ 0 ∷ 0 ∷ 0 ∷ 0
    ∷ 25 ∷ 0 ∷ 0 ∷ 0 ∷ 2 ∷ 0 ∷ 0 ∷ 0 ∷ 0 ∷ 0 ∷ 0 ∷ 0 ∷ 0 ∷ 0 ∷ 0 ∷ 0 ∷ 0 ∷ 0 ∷ 0 ∷ 0 ∷ 0 ∷ 0 ∷ 0 ∷ 0 ∷ 136 ∷ 0 ∷ 0 ∷ 0
    ∷ 0 ∷ 0 ∷ 0 ∷ 0 ∷ 96 ∷ 0 ∷ 0 ∷ 0 ∷ 0 ∷ 0 ∷ 0 ∷ 0 ∷ 5 ∷ 0 ∷ 0 ∷ 0 ∷ 2 ∷ 0 ∷ 0 ∷ 0 ∷ 8 ∷ 0 ∷ 0 ∷ 0 ∷ 0 ∷ 0 ∷ 0 ∷ 0
    ∷ 24 ∷ 0 ∷ 0 ∷ 0 ∷ 0 ∷ 0 ∷ 0 ∷ 0 ∷ 33 ∷ 0 ∷ 0 ∷ 0 ∷ 3 ∷ 0 ∷ 0 ∷ 0 ∷ 0 ∷ 0 ∷ 0 ∷ 0 ∷ 0 ∷ 0 ∷ 0 ∷ 0 ∷ 0 ∷ 0 ∷ 0 ∷ 0
    ∷ 0 ∷ 0 ∷ 0 ∷ 0 ∷ 232 ∷ 0 ∷ 0 ∷ 0 ∷ 0 ∷ 0 ∷ 0 ∷ 0 ∷ 10 ∷ 0 ∷ 0 ∷ 0 ∷ 0 ∷ 0 ∷ 0 ∷ 0 ∷ 0 ∷ 0 ∷ 0 ∷ 0 ∷ 0 ∷ 0 ∷ 0 ∷ 0
    ∷ 1 ∷ 0 ∷ 0 ∷ 0 ∷ 0 ∷ 0 ∷ 0 ∷ 0 ∷ 0 ∷ 0 ∷ 0 ∷ 0 ∷ 0 ∷ 0 ∷ 0 ∷ 0 ∷ 41 ∷ 0 ∷ 0 ∷ 0 ∷ 3 ∷ 0 ∷ 0 ∷ 0 ∷ 0 ∷ 0 ∷ 0 ∷ 0
    ∷ 0 ∷ 0 ∷ 0 ∷ 0 ∷ 0 ∷ 0 ∷ 0 ∷ 0 ∷ 0 ∷ 0 ∷ 0 ∷ 0 ∷ 242 ∷ 0 ∷ 0 ∷ 0 ∷ 0 ∷ 0 ∷ 0 ∷ 0 ∷ 57 ∷ 0 ∷ 0 ∷ 0 ∷ 0 ∷ 0 ∷ 0 ∷ 0
    ∷ 0 ∷ 0 ∷ 0 ∷ 0 ∷ 0 ∷ 0 ∷ 0 ∷ 0 ∷ 1 ∷ 0 ∷ 0 ∷ 0 ∷ 0 ∷ 0 ∷ 0 ∷ 0 ∷ 0 ∷ 0 ∷ 0 ∷ 0 ∷ 0 ∷ 0 ∷ 0 ∷ 0 ∷ 51 ∷ 0 ∷ 0 ∷ 0
    ∷ 8 ∷ 0 ∷ 0 ∷ 0 ∷ 3 ∷ 4 ∷ 0 ∷ 0 ∷ 0 ∷ 0 ∷ 0 ∷ 0 ∷ 0 ∷ 0 ∷ 0 ∷ 0 ∷ 0 ∷ 0 ∷ 0 ∷ 0 ∷ 43 ∷ 1 ∷ 0 ∷ 0 ∷ 0 ∷ 0 ∷ 0 ∷ 0
    ∷ 4 ∷ 0 ∷ 0 ∷ 0 ∷ 0 ∷ 0 ∷ 0 ∷ 0 ∷ 0 ∷ 0 ∷ 0 ∷ 0 ∷ 0 ∷ 0 ∷ 0 ∷ 0 ∷ 4 ∷ 0 ∷ 0 ∷ 0 ∷ 0 ∷ 0 ∷ 0 ∷ 0 ∷ 0 ∷ 0 ∷ 0 ∷ 0
    ∷ 0 ∷ 0 ∷ 0 ∷ 0 ∷ []

-- what a file is
kinds :
    (kind_of small ≡ Ok Object)
    × (kind_of (patched 16 (3 ∷ 0 ∷ []) small) ≡ Ok Shared)
    × (kind_of (codes "!<arch>") ≡ Err Archive)
    × (kind_of (codes "!<thin>\n") ≡ Err Archive)
    × (kind_of (codes "!<arch") ≡ Err Script)
    × (kind_of (codes "INPUT(x)") ≡ Err Script)
    × (kind_of (codes "a") ≡ Err Script)
    × (kind_of [] ≡ Err NotElf)
    × (kind_of (97 ∷ 98 ∷ 99 ∷ 127 ∷ []) ≡ Err NotElf)
    × (kind_of (codes "abcd" ++ 0 ∷ []) ≡ Err Script)
    × (kind_of (127 ∷ 69 ∷ 76 ∷ 70 ∷ []) ≡ Err NotElf)
    × (kind_of (take 63 small) ≡ Err NotElf)
    × (kind_of (take 64 small) ≡ Ok Object)
    × (kind_of (patched 4 (1 ∷ []) small) ≡ Err WrongClass)
    × (kind_of (patched 5 (2 ∷ []) small) ≡ Err WrongClass)
    × (kind_of (patched 6 (0 ∷ []) small) ≡ Err WrongClass)
    × (kind_of (patched 18 (3 ∷ 0 ∷ []) small) ≡ Err WrongMachine)
    × (kind_of (patched 16 (2 ∷ 0 ∷ []) small) ≡ Err WrongType)
    × (kind_of (patched 20 (0 ∷ []) small) ≡ Ok Object)
unfolding name_at section_name symbol_name header_checks is_terminator_where signature_of piece_named asks_exec_stack section_checks_named symbol_table_checks symbol_checks_named rela_checks rela_section_checks group_checks object_checks object_fault table_checks overlap_checks_after group_checks_after section_headers_of symbols_of elf_with elf_under elf_of kind_checks kind_of relas_under relocations_in piece_bytes_in words_under class_of common_names output_name is_piece key_of table_names tail_names relocation_types relocation_type_of width_of number_of num signed64 ehdr_at shdr_at sym_at rela_at pieces_in piece_with globals_in global_with groups_in summary_in local_in
kinds = (refl, refl, refl, refl, refl, refl, refl, refl, refl, refl, refl, refl, refl, refl, refl, refl, refl, refl, refl)

-- objects without a fault
good_objects :
    (object_fault sample ≡ None)
    × (object_fault small ≡ None)
unfolding name_at section_name symbol_name header_checks is_terminator_where signature_of piece_named asks_exec_stack section_checks_named symbol_table_checks symbol_checks_named rela_checks rela_section_checks group_checks object_checks object_fault table_checks overlap_checks_after group_checks_after section_headers_of symbols_of elf_with elf_under elf_of kind_checks kind_of relas_under relocations_in piece_bytes_in words_under class_of common_names output_name is_piece key_of table_names tail_names relocation_types relocation_type_of width_of number_of num signed64 ehdr_at shdr_at sym_at rela_at pieces_in piece_with globals_in global_with groups_in summary_in local_in
good_objects = (refl, refl)

-- faults of the file and of the section table
table_faults :
    (object_fault [] ≡ Some NotElf)
    × (object_fault (codes "INPUT(x)") ≡ Some Script)
    × (object_fault (codes "!<arch>\n") ≡ Some Archive)
    × (object_fault (patched 16 (3 ∷ 0 ∷ []) small) ≡ Some WrongType)
    × (object_fault (patched 58 (63 ∷ []) small) ≡ Some (BadTable 0))
    × (object_fault (patched 60 (0 ∷ 0 ∷ []) small) ≡ Some (BadTable 0))
    × (object_fault (take 815 small) ≡ Some (BadTable 0))
    × (object_fault (patched 62 (0 ∷ 0 ∷ []) small) ≡ Some (BadTable 0))
    × (object_fault (patched 62 (1 ∷ 0 ∷ []) small) ≡ Some (BadTable 0))
    × (object_fault (patched 62 (8 ∷ 0 ∷ []) small) ≡ Some (BadTable 0))
unfolding name_at section_name symbol_name header_checks is_terminator_where signature_of piece_named asks_exec_stack section_checks_named symbol_table_checks symbol_checks_named rela_checks rela_section_checks group_checks object_checks object_fault table_checks overlap_checks_after group_checks_after section_headers_of symbols_of elf_with elf_under elf_of kind_checks kind_of relas_under relocations_in piece_bytes_in words_under class_of common_names output_name is_piece key_of table_names tail_names relocation_types relocation_type_of width_of number_of num signed64 ehdr_at shdr_at sym_at rela_at pieces_in piece_with globals_in global_with groups_in summary_in local_in
table_faults = (refl, refl, refl, refl, refl, refl, refl, refl, refl, refl)

-- faults of sections
section_faults :
    (object_fault (patched 400 (0 ∷ 0 ∷ 1 ∷ []) small) ≡ Some (BadTable 1))
    × (object_fault (patched 784 (0 ∷ 0 ∷ 1 ∷ []) small) ≡ None)
    × (object_fault (patched 416 (3 ∷ []) small) ≡ Some (BadTable 1))
    × (object_fault (patched 416 (0 ∷ 0 ∷ 16 ∷ []) small) ≡ None)
    × (object_fault (patched 416 (0 ∷ 0 ∷ 32 ∷ []) small) ≡ Some (BadTable 1))
    × (object_fault (patched 432 (200 ∷ []) small) ≡ Some (BadName 2))
    × (object_fault (patched 376 (6 ∷ 8 ∷ []) small) ≡ Some (Compressed 1))
    × (object_fault (patched 249 (codes ".zdebug_a") small) ≡ Some (Compressed 2))
    × (object_fault (patched 628 (9 ∷ []) small) ≡ Some (UnsupportedSection 5))
    × (object_fault (patched 628 (18 ∷ []) small) ≡ Some (UnsupportedSection 5))
    × (object_fault (patched 243 (codes ".plt" ++ 0 ∷ []) small) ≡ Some (UnsupportedSection 1))
    × (object_fault (patched 275 (codes ".plt" ++ 0 ∷ []) small) ≡ None)
    × (object_fault (patched 372 (20 ∷ []) small) ≡ Some (UnknownAlloc 1))
    × (object_fault (patched 372 (1 ∷ 0 ∷ 0 ∷ 112 ∷ []) small) ≡ None)
unfolding name_at section_name symbol_name header_checks is_terminator_where signature_of piece_named asks_exec_stack section_checks_named symbol_table_checks symbol_checks_named rela_checks rela_section_checks group_checks object_checks object_fault table_checks overlap_checks_after group_checks_after section_headers_of symbols_of elf_with elf_under elf_of kind_checks kind_of relas_under relocations_in piece_bytes_in words_under class_of common_names output_name is_piece key_of table_names tail_names relocation_types relocation_type_of width_of number_of num signed64 ehdr_at shdr_at sym_at rela_at pieces_in piece_with globals_in global_with groups_in summary_in local_in
section_faults = (refl, refl, refl, refl, refl, refl, refl, refl, refl, refl, refl, refl, refl, refl)

-- faults of the symbol table and of symbols
symbol_faults :
    (object_fault (patched 616 (23 ∷ []) small) ≡ Some (BadTable 4))
    × (object_fault (patched 592 (95 ∷ []) small) ≡ Some (BadTable 4))
    × (object_fault (patched 592 (0 ∷ []) small) ≡ Some (BadTable 4))
    × (object_fault (patched 600 (0 ∷ []) small) ≡ Some (BadTable 4))
    × (object_fault (patched 600 (1 ∷ []) small) ≡ Some (BadTable 4))
    × (object_fault (patched 604 (5 ∷ []) small) ≡ Some (BadTable 4))
    × (object_fault (patched 500 (2 ∷ []) small) ≡ Some (BadTable 4))
    × (object_fault (patched 208 (100 ∷ []) small) ≡ Some (BadSymbol 3))
    × (object_fault (patched 208 (0 ∷ []) small) ≡ Some (BadSymbol 3))
    × (object_fault (patched 214 (255 ∷ 255 ∷ []) small) ≡ Some (UnsupportedSymbol 3))
    × (object_fault (patched 214 (8 ∷ []) small) ≡ Some (BadSymbol 3))
    × (object_fault (patched 214 (241 ∷ 255 ∷ []) small) ≡ None)
    × (object_fault (patched 188 (2 ∷ []) small) ≡ Some (BadSymbol 2))
    × (object_fault (patched 164 (19 ∷ []) small) ≡ Some (BadSymbol 1))
    × (object_fault (patched 212 (48 ∷ []) small) ≡ Some (UnsupportedSymbol 3))
    × (object_fault (patched 212 (26 ∷ []) small) ≡ Some (UnsupportedSymbol 3))
    × (object_fault (patched 166 (242 ∷ 255 ∷ []) small) ≡ Some (UnsupportedSymbol 1))
    × (object_fault (patched 212 (22 ∷ 0 ∷ 242 ∷ 255 ∷ []) small) ≡ Some (UnsupportedSymbol 3))
    × (object_fault (patched 214 (242 ∷ 255 ∷ 3 ∷ []) small) ≡ Some (BadSymbol 3))
    × (object_fault (patched 214 (242 ∷ 255 ∷ 4 ∷ []) small) ≡ None)
    × (object_fault (patched 212 (22 ∷ []) small) ≡ None)
    × (object_fault (patched 212 (22 ∷ 0 ∷ 1 ∷ []) small) ≡ Some (BadSymbol 3))
    × (object_fault (patched 212 (22 ∷ 0 ∷ 7 ∷ []) small) ≡ None)
    × (object_fault (patched 212 (22 ∷ 0 ∷ 241 ∷ 255 ∷ []) small) ≡ Some (BadSymbol 3))
    × (object_fault (patched 164 (6 ∷ 0 ∷ 0 ∷ []) small) ≡ Some (BadSymbol 1))
    × (object_fault (patched 164 (6 ∷ 0 ∷ 7 ∷ []) small) ≡ None)
unfolding name_at section_name symbol_name header_checks is_terminator_where signature_of piece_named asks_exec_stack section_checks_named symbol_table_checks symbol_checks_named rela_checks rela_section_checks group_checks object_checks object_fault table_checks overlap_checks_after group_checks_after section_headers_of symbols_of elf_with elf_under elf_of kind_checks kind_of relas_under relocations_in piece_bytes_in words_under class_of common_names output_name is_piece key_of table_names tail_names relocation_types relocation_type_of width_of number_of num signed64 ehdr_at shdr_at sym_at rela_at pieces_in piece_with globals_in global_with groups_in summary_in local_in
symbol_faults = (refl, refl, refl, refl, refl, refl, refl, refl, refl, refl, refl, refl, refl, refl, refl, refl, refl, refl, refl, refl, refl, refl, refl, refl, refl, refl)

-- faults of relocations
relocation_faults :
    (object_fault (patched 488 (0 ∷ []) small) ≡ Some (BadTable 2))
    × (object_fault (patched 464 (47 ∷ []) small) ≡ Some (BadTable 2))
    × (object_fault (patched 472 (5 ∷ []) small) ≡ Some (BadTable 2))
    × (object_fault (patched 476 (0 ∷ []) small) ≡ Some (BadTable 2))
    × (object_fault (patched 476 (8 ∷ []) small) ≡ Some (BadTable 2))
    × (object_fault (patched 116 (4 ∷ []) small) ≡ Some (BadRela 2 1))
    × (object_fault (patched 80 (13 ∷ []) small) ≡ Some (BadRela 2 0))
    × (object_fault (patched 104 (9 ∷ []) small) ≡ Some (BadRela 2 1))
    × (object_fault (patched 104 (4 ∷ []) small) ≡ Some (BadRela 2 1))
    × (object_fault (patched 80 (16 ∷ 0 ∷ 0 ∷ 0 ∷ 0 ∷ 0 ∷ 0 ∷ 0 ∷ 0 ∷ []) small) ≡ None)
    × (object_fault (patched 80 (17 ∷ 0 ∷ 0 ∷ 0 ∷ 0 ∷ 0 ∷ 0 ∷ 0 ∷ 0 ∷ []) small) ≡ Some (BadRela 2 0))
    × (object_fault (patched 476 (7 ∷ []) small) ≡ Some (BadRela 2 0))
    × (object_fault (patched 476 (5 ∷ []) small) ≡ None)
unfolding name_at section_name symbol_name header_checks is_terminator_where signature_of piece_named asks_exec_stack section_checks_named symbol_table_checks symbol_checks_named rela_checks rela_section_checks group_checks object_checks object_fault table_checks overlap_checks_after group_checks_after section_headers_of symbols_of elf_with elf_under elf_of kind_checks kind_of relas_under relocations_in piece_bytes_in words_under class_of common_names output_name is_piece key_of table_names tail_names relocation_types relocation_type_of width_of number_of num signed64 ehdr_at shdr_at sym_at rela_at pieces_in piece_with globals_in global_with groups_in summary_in local_in
relocation_faults = (refl, refl, refl, refl, refl, refl, refl, refl, refl, refl, refl, refl, refl)

-- faults of groups
group_faults :
    (object_fault (patched 528 (6 ∷ []) small) ≡ Some (BadGroup 3))
    × (object_fault (patched 536 (5 ∷ []) small) ≡ Some (BadGroup 3))
    × (object_fault (patched 540 (0 ∷ []) small) ≡ Some (BadGroup 3))
    × (object_fault (patched 540 (4 ∷ []) small) ≡ Some (BadGroup 3))
    × (object_fault (patched 540 (1 ∷ []) small) ≡ None)
    × (object_fault (patched 128 (2 ∷ []) small) ≡ Some (BadGroup 3))
    × (object_fault (patched 128 (0 ∷ []) small) ≡ None)
    × (object_fault (patched 132 (0 ∷ []) small) ≡ Some (BadGroup 3))
    × (object_fault (patched 132 (8 ∷ []) small) ≡ Some (BadGroup 3))
    × (object_fault (patched 756 (17 ∷ 0 ∷ 0 ∷ 0 ∷ 0 ∷ 0 ∷ 0 ∷ 0 ∷ 0 ∷ 0 ∷ 0 ∷ 0 ∷ 0 ∷ 0 ∷ 0 ∷ 0 ∷ 0 ∷ 0 ∷ 0 ∷ 0 ∷ 128 ∷ 0 ∷ 0 ∷ 0 ∷ 0 ∷ 0 ∷ 0 ∷ 0 ∷ 8 ∷ 0 ∷ 0 ∷ 0 ∷ 0 ∷ 0 ∷ 0 ∷ 0 ∷ 4 ∷ 0 ∷ 0 ∷ 0 ∷ 2 ∷ 0 ∷ 0 ∷ 0 ∷ []) small) ≡ Some (BadGroup 7))
unfolding name_at section_name symbol_name header_checks is_terminator_where signature_of piece_named asks_exec_stack section_checks_named symbol_table_checks symbol_checks_named rela_checks rela_section_checks group_checks object_checks object_fault table_checks overlap_checks_after group_checks_after section_headers_of symbols_of elf_with elf_under elf_of kind_checks kind_of relas_under relocations_in piece_bytes_in words_under class_of common_names output_name is_piece key_of table_names tail_names relocation_types relocation_type_of width_of number_of num signed64 ehdr_at shdr_at sym_at rela_at pieces_in piece_with globals_in global_with groups_in summary_in local_in
group_faults = (refl, refl, refl, refl, refl, refl, refl, refl, refl, refl)

-- the summary of the object of an assembler
sample_summary :
    summary_in (elf_of sample) ≡ record {
      kind = Object;
      soname = [];
      exec_stack = false;
      pieces = (record { section = 2; name = codes ".text"; key = record { name = codes ".text"; class = X }; size = 13; align = 1; terminator = false })
          ∷ (record { section = 4; name = codes ".data"; key = record { name = codes ".data"; class = W }; size = 16; align = 1; terminator = false })
          ∷ (record { section = 6; name = codes ".bss"; key = record { name = codes ".bss"; class = Bss }; size = 40; align = 32; terminator = false })
          ∷ (record { section = 7; name = codes ".text.g"; key = record { name = codes ".text"; class = X }; size = 1; align = 1; terminator = false })
          ∷ (record { section = 8; name = codes ".eh_frame"; key = record { name = codes ".eh_frame"; class = R }; size = 0; align = 1; terminator = true })
          ∷ (record { section = 9; name = codes ".tdata.t"; key = record { name = codes ".tdata"; class = Tdata }; size = 4; align = 1; terminator = false })
          ∷ (record { section = 10; name = codes ".debug_info"; key = record { name = codes ".debug_info"; class = N }; size = 8; align = 1; terminator = false })
          ∷ (record { section = 13; name = codes ".debug_line"; key = record { name = codes ".debug_line"; class = N }; size = 29; align = 1; terminator = false })
          ∷ [];
      globals = (record { symbol = 3; name = codes "_start"; binding = 1; code = 2; visibility = 0; home = Section 2; value = 0; size = 13 })
          ∷ (record { symbol = 4; name = codes "f"; binding = 1; code = 0; visibility = 0; home = Undefined; value = 0; size = 0 })
          ∷ (record { symbol = 5; name = codes "_GLOBAL_OFFSET_TABLE_"; binding = 1; code = 0; visibility = 0; home = Undefined; value = 0; size = 0 })
          ∷ (record { symbol = 6; name = codes "x"; binding = 1; code = 0; visibility = 0; home = Undefined; value = 0; size = 0 })
          ∷ (record { symbol = 7; name = codes "w"; binding = 2; code = 0; visibility = 0; home = Undefined; value = 0; size = 0 })
          ∷ (record { symbol = 8; name = codes "h"; binding = 1; code = 0; visibility = 2; home = Absolute; value = 7; size = 0 })
          ∷ (record { symbol = 9; name = codes "g"; binding = 2; code = 2; visibility = 0; home = Section 7; value = 0; size = 0 })
          ∷ (record { symbol = 10; name = codes "buf"; binding = 1; code = 1; visibility = 0; home = Common; value = 4; size = 8 })
          ∷ (record { symbol = 11; name = codes "t"; binding = 1; code = 6; visibility = 0; home = Section 9; value = 0; size = 4 })
          ∷ [];
      groups = (record { signature = codes "g"; members = 7 ∷ [] }) ∷ [];
    }
unfolding name_at section_name symbol_name header_checks is_terminator_where signature_of piece_named asks_exec_stack section_checks_named symbol_table_checks symbol_checks_named rela_checks rela_section_checks group_checks object_checks object_fault table_checks overlap_checks_after group_checks_after section_headers_of symbols_of elf_with elf_under elf_of kind_checks kind_of relas_under relocations_in piece_bytes_in words_under class_of common_names output_name is_piece key_of table_names tail_names relocation_types relocation_type_of width_of number_of num signed64 ehdr_at shdr_at sym_at rela_at pieces_in piece_with globals_in global_with groups_in summary_in local_in
sample_summary = refl

-- its relocations, bytes and LOCAL symbols
sample_parts :
    (relocations_in (elf_of sample) 2 ≡ (record { r_offset = 1; r_info = 17179869188; r_addend = negsuc 3 }) ∷ (record { r_offset = 8; r_info = 25769803818; r_addend = negsuc 3 }) ∷ [])
    × (relocations_in (elf_of sample) 4 ≡ (record { r_offset = 0; r_info = 12884901889; r_addend = pos 0 }) ∷ (record { r_offset = 8; r_info = 4294967297; r_addend = pos 8 }) ∷ [])
    × (relocations_in (elf_of sample) 8 ≡ [])
    × (piece_bytes_in (elf_of sample) 2 ≡ 232 ∷ 0 ∷ 0 ∷ 0 ∷ 0 ∷ 72 ∷ 139 ∷ 5 ∷ 0 ∷ 0 ∷ 0 ∷ 0 ∷ 195 ∷ [])
    × (piece_bytes_in (elf_of sample) 6 ≡ [])
    × (local_in (elf_of sample) 2 ≡ record { home = Section 4; value = 8; size = 0; code = 0 })
    × (local_in (elf_of sample) 1 ≡ record { home = Section 4; value = 0; size = 0; code = 3 })
    × (local_in (elf_of sample) 0 ≡ record { home = Undefined; value = 0; size = 0; code = 0 })
    × (section_name (elf_of sample) 9 ≡ Some (codes ".tdata.t"))
    × (section_name (elf_of sample) 0 ≡ None)
    × (section_name (elf_of sample) 17 ≡ None)
    × (symbol_name (elf_of sample) 10 ≡ Some (codes "buf"))
unfolding name_at section_name symbol_name header_checks is_terminator_where signature_of piece_named asks_exec_stack section_checks_named symbol_table_checks symbol_checks_named rela_checks rela_section_checks group_checks object_checks object_fault table_checks overlap_checks_after group_checks_after section_headers_of symbols_of elf_with elf_under elf_of kind_checks kind_of relas_under relocations_in piece_bytes_in words_under class_of common_names output_name is_piece key_of table_names tail_names relocation_types relocation_type_of width_of number_of num signed64 ehdr_at shdr_at sym_at rela_at pieces_in piece_with globals_in global_with groups_in summary_in local_in
sample_parts = (refl, refl, refl, refl, refl, refl, refl, refl, refl, refl, refl, refl)

-- an object that asks for an executable stack
executable_stack :
    (summary_in (elf_of (patched 1544 (4 ∷ []) sample))).exec_stack ≡ true
unfolding name_at section_name symbol_name header_checks is_terminator_where signature_of piece_named asks_exec_stack section_checks_named symbol_table_checks symbol_checks_named rela_checks rela_section_checks group_checks object_checks object_fault table_checks overlap_checks_after group_checks_after section_headers_of symbols_of elf_with elf_under elf_of kind_checks kind_of relas_under relocations_in piece_bytes_in words_under class_of common_names output_name is_piece key_of table_names tail_names relocation_types relocation_type_of width_of number_of num signed64 ehdr_at shdr_at sym_at rela_at pieces_in piece_with globals_in global_with groups_in summary_in local_in
executable_stack = refl

-- what is no terminator: other bytes, or a relocation of it
no_terminator :
    (map {B = ℕ × Bool} (λ (piece : PieceInfo). (piece.size, piece.terminator)) (summary_in (elf_of (patched 129 (1 ∷ []) sample))).pieces ≡ (13, false) ∷ (16, false) ∷ (40, false) ∷ (1, false) ∷ (4, false) ∷ (4, false) ∷ (8, false) ∷ (29, false) ∷ [])
    × (map {B = ℕ × Bool} (λ (piece : PieceInfo). (piece.size, piece.terminator)) (summary_in (elf_of (patched 1516 (8 ∷ []) sample))).pieces ≡ (13, false) ∷ (16, false) ∷ (40, false) ∷ (1, false) ∷ (4, false) ∷ (4, false) ∷ (8, false) ∷ (29, false) ∷ [])
unfolding name_at section_name symbol_name header_checks is_terminator_where signature_of piece_named asks_exec_stack section_checks_named symbol_table_checks symbol_checks_named rela_checks rela_section_checks group_checks object_checks object_fault table_checks overlap_checks_after group_checks_after section_headers_of symbols_of elf_with elf_under elf_of kind_checks kind_of relas_under relocations_in piece_bytes_in words_under class_of common_names output_name is_piece key_of table_names tail_names relocation_types relocation_type_of width_of number_of num signed64 ehdr_at shdr_at sym_at rela_at pieces_in piece_with globals_in global_with groups_in summary_in local_in
no_terminator = (refl, refl)

-- the name of the section is taken for an empty signature; a group with the word 0 is none
signatures :
    ((summary_in (elf_of (patched 540 (1 ∷ []) small))).groups ≡ (record { signature = codes ".text"; members = 1 ∷ [] }) ∷ [])
    × ((summary_in (elf_of small)).groups ≡ (record { signature = codes "_start"; members = 1 ∷ [] }) ∷ [])
    × ((summary_in (elf_of (patched 128 (0 ∷ []) small))).groups ≡ [])
unfolding name_at section_name symbol_name header_checks is_terminator_where signature_of piece_named asks_exec_stack section_checks_named symbol_table_checks symbol_checks_named rela_checks rela_section_checks group_checks object_checks object_fault table_checks overlap_checks_after group_checks_after section_headers_of symbols_of elf_with elf_under elf_of kind_checks kind_of relas_under relocations_in piece_bytes_in words_under class_of common_names output_name is_piece key_of table_names tail_names relocation_types relocation_type_of width_of number_of num signed64 ehdr_at shdr_at sym_at rela_at pieces_in piece_with globals_in global_with groups_in summary_in local_in
signatures = (refl, refl, refl)

-- output sections by name, type and flags
keys :
    (key_of (codes ".text") 1 6 ≡ Some (record { name = codes ".text"; class = X }))
    × (key_of (codes ".text.main") 1 6 ≡ Some (record { name = codes ".text"; class = X }))
    × (key_of (codes ".text.") 1 6 ≡ Some (record { name = codes ".text."; class = X }))
    × (key_of (codes ".textual") 1 6 ≡ Some (record { name = codes ".textual"; class = X }))
    × (key_of (codes ".rodata.str1.1") 1 50 ≡ Some (record { name = codes ".rodata"; class = R }))
    × (key_of (codes ".data.rel.ro") 1 3 ≡ Some (record { name = codes ".data"; class = W }))
    × (key_of (codes ".text.x") 1 7 ≡ Some (record { name = codes ".text"; class = WX }))
    × (key_of (codes ".data") 8 3 ≡ Some (record { name = codes ".data"; class = Bss }))
    × (key_of (codes ".bss.a") 8 3 ≡ Some (record { name = codes ".bss"; class = Bss }))
    × (key_of (codes ".tbss.a") 8 1027 ≡ Some (record { name = codes ".tbss"; class = Tbss }))
    × (key_of (codes ".data.t") 1 1027 ≡ Some (record { name = codes ".tdata"; class = Tdata }))
    × (key_of (codes ".init_array.5") 14 3 ≡ Some (record { name = codes ".init_array"; class = W }))
    × (key_of (codes ".init") 1 6 ≡ Some (record { name = codes ".init"; class = X }))
    × (key_of (codes ".eh_frame") 1879048193 2 ≡ Some (record { name = codes ".eh_frame"; class = R }))
    × (key_of (codes ".gcc_except_table.f") 1 2 ≡ Some (record { name = codes ".gcc_except_table"; class = R }))
    × (key_of (codes ".note.a") 7 2 ≡ Some (record { name = codes ".note.a"; class = R }))
    × (key_of (codes ".note.gnu.property") 7 2 ≡ None)
    × (key_of (codes ".note.gnu.property") 1 0 ≡ Some (record { name = codes ".note.gnu.property"; class = N }))
    × (key_of (codes ".note.GNU-stack") 1 0 ≡ None)
    × (key_of (codes ".debug_info.x") 1 0 ≡ Some (record { name = codes ".debug_info.x"; class = N }))
    × (key_of (codes ".comment") 1 48 ≡ Some (record { name = codes ".comment"; class = N }))
    × (key_of (codes ".note.a") 7 0 ≡ None)
    × (key_of (codes ".symtab") 2 0 ≡ None)
    × (key_of (codes ".strtab") 3 2 ≡ None)
    × (key_of (codes ".rela.text") 4 66 ≡ None)
    × (key_of (codes ".group") 17 0 ≡ None)
    × (key_of (codes "x") 0 2 ≡ None)
    × (key_of (codes "x") 8 0 ≡ None)
unfolding name_at section_name symbol_name header_checks is_terminator_where signature_of piece_named asks_exec_stack section_checks_named symbol_table_checks symbol_checks_named rela_checks rela_section_checks group_checks object_checks object_fault table_checks overlap_checks_after group_checks_after section_headers_of symbols_of elf_with elf_under elf_of kind_checks kind_of relas_under relocations_in piece_bytes_in words_under class_of common_names output_name is_piece key_of table_names tail_names relocation_types relocation_type_of width_of number_of num signed64 ehdr_at shdr_at sym_at rela_at pieces_in piece_with globals_in global_with groups_in summary_in local_in
keys = (refl, refl, refl, refl, refl, refl, refl, refl, refl, refl, refl, refl, refl, refl, refl, refl, refl, refl, refl, refl, refl, refl, refl, refl, refl, refl, refl, refl)

-- widths of relocation fields
widths :
    (width_of 0 ≡ 0)
    × (width_of 1 ≡ 8)
    × (width_of 2 ≡ 4)
    × (width_of 12 ≡ 2)
    × (width_of 14 ≡ 1)
    × (width_of 24 ≡ 8)
    × (width_of 42 ≡ 4)
    × (width_of 3 ≡ 0)
    × (width_of 43 ≡ 0)
unfolding name_at section_name symbol_name header_checks is_terminator_where signature_of piece_named asks_exec_stack section_checks_named symbol_table_checks symbol_checks_named rela_checks rela_section_checks group_checks object_checks object_fault table_checks overlap_checks_after group_checks_after section_headers_of symbols_of elf_with elf_under elf_of kind_checks kind_of relas_under relocations_in piece_bytes_in words_under class_of common_names output_name is_piece key_of table_names tail_names relocation_types relocation_type_of width_of number_of num signed64 ehdr_at shdr_at sym_at rela_at pieces_in piece_with globals_in global_with groups_in summary_in local_in
widths = (refl, refl, refl, refl, refl, refl, refl, refl, refl)
