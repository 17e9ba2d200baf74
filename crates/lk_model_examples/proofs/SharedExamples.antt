-- Worked examples: a shared object as it is read, and each fault once with a neighbour that is none; a
-- false one is refused.
use Rattle.std.specs.Prelude.{◌≡◌, ℕ, ◌+◌, false, List, [], ◌∷◌, ◌++◌, map, length, take, drop, codes, Some, None, refl}
use Rattle.lk_elf.specs.Fields.{number_of, num, signed64}
use Rattle.lk_elf.specs.Records.{ehdr_at, shdr_at, sym_at, dyn_at}
use Rattle.lk_report.specs.declared.faults.InputFault.TheVariants.{Archive, NotElf, WrongClass, WrongMachine, WrongType, BadTable, BadName, NoDynamic}
use Rattle.lk_model.specs.declared.summaries.Kind.TheVariants.{Shared}
use Rattle.lk_model.specs.declared.summaries.Home.TheVariants as home
use Rattle.lk_model.specs.declared.summaries.Global.{Global}
use Rattle.lk_model.specs.DynamicEntries.{counted_entries}
use Rattle.lk_model.specs.Elf.{section_headers_of, symbols_of, elf_with, elf_under, elf_of, name_at}
use Rattle.lk_model.specs.Kinds.{header_checks, kind_checks}
use Rattle.lk_model.specs.SharedChecks.{shared_header_checks, two_table_checks, shared_name_checks, soname_checks, shared_checks, shared_fault}
use Rattle.lk_model.specs.SharedObjects.{entries_under, shared_global, shared_globals_in, soname_of, shared_summary_in}

-- bytes with others in their place from `at` on
abbrev patched : ℕ → List ℕ → List ℕ → List ℕ
patched at bytes file = take at file ++ bytes ++ drop (at + length bytes) file

-- a shared object of 1032 bytes: section 1 the symbols at 64, 2 their texts at 480, 3 the dynamic section at
-- 400, 4 other texts at 568, 5 and 6 a second table of each kind that the file does not hold; the section
-- headers at 584. Entries of the dynamic section: NEEDED, two of SONAME, NULL, a third SONAME
abbrev libc : List ℕ
libc =
    127 ∷ 69 ∷ 76 ∷ 70 ∷ 2 ∷ 1 ∷ 1 ∷ 0 ∷ 0 ∷ 0 ∷ 0 ∷ 0 ∷ 0 ∷ 0 ∷ 0 ∷ 0 ∷ 3 ∷ 0 ∷ 62 ∷ 0 ∷ 1 ∷ 0 ∷ 0 ∷ 0 ∷ 0 ∷ 0 ∷ 0 ∷ 0
    ∷ 0 ∷ 0 ∷ 0 ∷ 0 ∷ 0 ∷ 0 ∷ 0 ∷ 0 ∷ 0 ∷ 0 ∷ 0 ∷ 0 ∷ 72 ∷ 2 ∷ 0 ∷ 0 ∷ 0 ∷ 0 ∷ 0 ∷ 0 ∷ 0 ∷ 0 ∷ 0 ∷ 0 ∷ 64 ∷ 0 ∷ 56 ∷ 0
    ∷ 0 ∷ 0 ∷ 64 ∷ 0 ∷ 7 ∷ 0 ∷ 4 ∷ 0 ∷ 0 ∷ 0 ∷ 0 ∷ 0 ∷ 0 ∷ 0 ∷ 0 ∷ 0 ∷ 0 ∷ 0 ∷ 0 ∷ 0 ∷ 0 ∷ 0 ∷ 0 ∷ 0 ∷ 0 ∷ 0 ∷ 0 ∷ 0
    ∷ 0 ∷ 0 ∷ 0 ∷ 0 ∷ 1 ∷ 0 ∷ 0 ∷ 0 ∷ 18 ∷ 0 ∷ 7 ∷ 0 ∷ 0 ∷ 16 ∷ 0 ∷ 0 ∷ 0 ∷ 0 ∷ 0 ∷ 0 ∷ 32 ∷ 0 ∷ 0 ∷ 0 ∷ 0 ∷ 0 ∷ 0 ∷ 0
    ∷ 6 ∷ 0 ∷ 0 ∷ 0 ∷ 18 ∷ 0 ∷ 7 ∷ 0 ∷ 64 ∷ 16 ∷ 0 ∷ 0 ∷ 0 ∷ 0 ∷ 0 ∷ 0 ∷ 16 ∷ 0 ∷ 0 ∷ 0 ∷ 0 ∷ 0 ∷ 0 ∷ 0 ∷ 11 ∷ 0 ∷ 0 ∷ 0
    ∷ 17 ∷ 0 ∷ 9 ∷ 0 ∷ 8 ∷ 48 ∷ 0 ∷ 0 ∷ 0 ∷ 0 ∷ 0 ∷ 0 ∷ 8 ∷ 0 ∷ 0 ∷ 0 ∷ 0 ∷ 0 ∷ 0 ∷ 0 ∷ 18 ∷ 0 ∷ 0 ∷ 0 ∷ 33 ∷ 0 ∷ 9 ∷ 0
    ∷ 16 ∷ 48 ∷ 0 ∷ 0 ∷ 0 ∷ 0 ∷ 0 ∷ 0 ∷ 8 ∷ 0 ∷ 0 ∷ 0 ∷ 0 ∷ 0 ∷ 0 ∷ 0 ∷ 26 ∷ 0 ∷ 0 ∷ 0 ∷ 170 ∷ 0 ∷ 7 ∷ 0 ∷ 128 ∷ 16 ∷ 0 ∷ 0
    ∷ 0 ∷ 0 ∷ 0 ∷ 0 ∷ 12 ∷ 0 ∷ 0 ∷ 0 ∷ 0 ∷ 0 ∷ 0 ∷ 0 ∷ 33 ∷ 0 ∷ 0 ∷ 0 ∷ 32 ∷ 0 ∷ 0 ∷ 0 ∷ 7 ∷ 0 ∷ 0 ∷ 0 ∷ 0 ∷ 0 ∷ 0 ∷ 0
    ∷ 3 ∷ 0 ∷ 0 ∷ 0 ∷ 0 ∷ 0 ∷ 0 ∷ 0 ∷ 48 ∷ 0 ∷ 0 ∷ 0 ∷ 18 ∷ 2 ∷ 7 ∷ 0 ∷ 160 ∷ 16 ∷ 0 ∷ 0 ∷ 0 ∷ 0 ∷ 0 ∷ 0 ∷ 4 ∷ 0 ∷ 0 ∷ 0
    ∷ 0 ∷ 0 ∷ 0 ∷ 0 ∷ 48 ∷ 0 ∷ 0 ∷ 0 ∷ 18 ∷ 3 ∷ 7 ∷ 0 ∷ 192 ∷ 16 ∷ 0 ∷ 0 ∷ 0 ∷ 0 ∷ 0 ∷ 0 ∷ 5 ∷ 0 ∷ 0 ∷ 0 ∷ 0 ∷ 0 ∷ 0 ∷ 0
    ∷ 1 ∷ 0 ∷ 0 ∷ 0 ∷ 18 ∷ 0 ∷ 7 ∷ 0 ∷ 0 ∷ 17 ∷ 0 ∷ 0 ∷ 0 ∷ 0 ∷ 0 ∷ 0 ∷ 64 ∷ 0 ∷ 0 ∷ 0 ∷ 0 ∷ 0 ∷ 0 ∷ 0 ∷ 1 ∷ 0 ∷ 0 ∷ 0
    ∷ 18 ∷ 0 ∷ 0 ∷ 0 ∷ 0 ∷ 0 ∷ 0 ∷ 0 ∷ 0 ∷ 0 ∷ 0 ∷ 0 ∷ 0 ∷ 0 ∷ 0 ∷ 0 ∷ 0 ∷ 0 ∷ 0 ∷ 0 ∷ 53 ∷ 0 ∷ 0 ∷ 0 ∷ 1 ∷ 0 ∷ 9 ∷ 0
    ∷ 24 ∷ 48 ∷ 0 ∷ 0 ∷ 0 ∷ 0 ∷ 0 ∷ 0 ∷ 8 ∷ 0 ∷ 0 ∷ 0 ∷ 0 ∷ 0 ∷ 0 ∷ 0 ∷ 59 ∷ 0 ∷ 0 ∷ 0 ∷ 17 ∷ 0 ∷ 241 ∷ 255 ∷ 6 ∷ 0 ∷ 0 ∷ 0
    ∷ 0 ∷ 0 ∷ 0 ∷ 0 ∷ 0 ∷ 0 ∷ 0 ∷ 0 ∷ 0 ∷ 0 ∷ 0 ∷ 0 ∷ 6 ∷ 0 ∷ 0 ∷ 0 ∷ 170 ∷ 0 ∷ 0 ∷ 0 ∷ 0 ∷ 0 ∷ 0 ∷ 0 ∷ 0 ∷ 0 ∷ 0 ∷ 0
    ∷ 0 ∷ 0 ∷ 0 ∷ 0 ∷ 0 ∷ 0 ∷ 0 ∷ 0 ∷ 1 ∷ 0 ∷ 0 ∷ 0 ∷ 0 ∷ 0 ∷ 0 ∷ 0 ∷ 66 ∷ 0 ∷ 0 ∷ 0 ∷ 0 ∷ 0 ∷ 0 ∷ 0 ∷ 14 ∷ 0 ∷ 0 ∷ 0
    ∷ 0 ∷ 0 ∷ 0 ∷ 0 ∷ 74 ∷ 0 ∷ 0 ∷ 0 ∷ 0 ∷ 0 ∷ 0 ∷ 0 ∷ 14 ∷ 0 ∷ 0 ∷ 0 ∷ 0 ∷ 0 ∷ 0 ∷ 0 ∷ 66 ∷ 0 ∷ 0 ∷ 0 ∷ 0 ∷ 0 ∷ 0 ∷ 0
    ∷ 0 ∷ 0 ∷ 0 ∷ 0 ∷ 0 ∷ 0 ∷ 0 ∷ 0 ∷ 0 ∷ 0 ∷ 0 ∷ 0 ∷ 0 ∷ 0 ∷ 0 ∷ 0 ∷ 14 ∷ 0 ∷ 0 ∷ 0 ∷ 0 ∷ 0 ∷ 0 ∷ 0 ∷ 1 ∷ 0 ∷ 0 ∷ 0
    ∷ 0 ∷ 0 ∷ 0 ∷ 0 ∷ 0 ∷ 112 ∷ 117 ∷ 116 ∷ 115 ∷ 0 ∷ 101 ∷ 120 ∷ 105 ∷ 116 ∷ 0 ∷ 115 ∷ 116 ∷ 100 ∷ 111 ∷ 117 ∷ 116 ∷ 0 ∷ 101 ∷ 110 ∷ 118 ∷ 105 ∷ 114 ∷ 111
    ∷ 110 ∷ 0 ∷ 115 ∷ 116 ∷ 114 ∷ 108 ∷ 101 ∷ 110 ∷ 0 ∷ 95 ∷ 95 ∷ 99 ∷ 120 ∷ 97 ∷ 95 ∷ 102 ∷ 105 ∷ 110 ∷ 97 ∷ 108 ∷ 105 ∷ 122 ∷ 101 ∷ 0 ∷ 103 ∷ 101 ∷ 116 ∷ 115
    ∷ 0 ∷ 108 ∷ 111 ∷ 99 ∷ 97 ∷ 108 ∷ 0 ∷ 86 ∷ 69 ∷ 82 ∷ 83 ∷ 95 ∷ 49 ∷ 0 ∷ 108 ∷ 105 ∷ 98 ∷ 100 ∷ 46 ∷ 115 ∷ 111 ∷ 0 ∷ 108 ∷ 105 ∷ 98 ∷ 99 ∷ 46 ∷ 115
    ∷ 111 ∷ 46 ∷ 54 ∷ 0 ∷ 0 ∷ 0 ∷ 0 ∷ 0 ∷ 0 ∷ 108 ∷ 105 ∷ 98 ∷ 101 ∷ 46 ∷ 115 ∷ 111 ∷ 0 ∷ 0 ∷ 0 ∷ 0 ∷ 0 ∷ 0 ∷ 0 ∷ 0 ∷ 0 ∷ 0 ∷ 0 ∷ 0
    ∷ 0 ∷ 0 ∷ 0 ∷ 0 ∷ 0 ∷ 0 ∷ 0 ∷ 0 ∷ 0 ∷ 0 ∷ 0 ∷ 0 ∷ 0 ∷ 0 ∷ 0 ∷ 0 ∷ 0 ∷ 0 ∷ 0 ∷ 0 ∷ 0 ∷ 0 ∷ 0 ∷ 0 ∷ 0 ∷ 0 ∷ 0 ∷ 0
    ∷ 0 ∷ 0 ∷ 0 ∷ 0 ∷ 0 ∷ 0 ∷ 0 ∷ 0 ∷ 0 ∷ 0 ∷ 0 ∷ 0 ∷ 0 ∷ 0 ∷ 0 ∷ 0 ∷ 0 ∷ 0 ∷ 0 ∷ 0 ∷ 0 ∷ 0 ∷ 0 ∷ 0 ∷ 0 ∷ 0 ∷ 0 ∷ 0
    ∷ 0 ∷ 0 ∷ 0 ∷ 0 ∷ 0 ∷ 0 ∷ 0 ∷ 0 ∷ 11 ∷ 0 ∷ 0 ∷ 0 ∷ 2 ∷ 0 ∷ 0 ∷ 0 ∷ 0 ∷ 0 ∷ 0 ∷ 0 ∷ 0 ∷ 0 ∷ 0 ∷ 0 ∷ 0 ∷ 0 ∷ 0 ∷ 0
    ∷ 64 ∷ 0 ∷ 0 ∷ 0 ∷ 0 ∷ 0 ∷ 0 ∷ 0 ∷ 80 ∷ 1 ∷ 0 ∷ 0 ∷ 0 ∷ 0 ∷ 0 ∷ 0 ∷ 2 ∷ 0 ∷ 0 ∷ 0 ∷ 1 ∷ 0 ∷ 0 ∷ 0 ∷ 8 ∷ 0 ∷ 0 ∷ 0
    ∷ 0 ∷ 0 ∷ 0 ∷ 0 ∷ 24 ∷ 0 ∷ 0 ∷ 0 ∷ 0 ∷ 0 ∷ 0 ∷ 0 ∷ 0 ∷ 0 ∷ 0 ∷ 0 ∷ 3 ∷ 0 ∷ 0 ∷ 0 ∷ 2 ∷ 0 ∷ 0 ∷ 0 ∷ 0 ∷ 0 ∷ 0 ∷ 0
    ∷ 0 ∷ 0 ∷ 0 ∷ 0 ∷ 0 ∷ 0 ∷ 0 ∷ 0 ∷ 224 ∷ 1 ∷ 0 ∷ 0 ∷ 0 ∷ 0 ∷ 0 ∷ 0 ∷ 84 ∷ 0 ∷ 0 ∷ 0 ∷ 0 ∷ 0 ∷ 0 ∷ 0 ∷ 0 ∷ 0 ∷ 0 ∷ 0
    ∷ 0 ∷ 0 ∷ 0 ∷ 0 ∷ 1 ∷ 0 ∷ 0 ∷ 0 ∷ 0 ∷ 0 ∷ 0 ∷ 0 ∷ 0 ∷ 0 ∷ 0 ∷ 0 ∷ 0 ∷ 0 ∷ 0 ∷ 0 ∷ 0 ∷ 0 ∷ 0 ∷ 0 ∷ 6 ∷ 0 ∷ 0 ∷ 0
    ∷ 3 ∷ 0 ∷ 0 ∷ 0 ∷ 0 ∷ 0 ∷ 0 ∷ 0 ∷ 0 ∷ 0 ∷ 0 ∷ 0 ∷ 0 ∷ 0 ∷ 0 ∷ 0 ∷ 144 ∷ 1 ∷ 0 ∷ 0 ∷ 0 ∷ 0 ∷ 0 ∷ 0 ∷ 80 ∷ 0 ∷ 0 ∷ 0
    ∷ 0 ∷ 0 ∷ 0 ∷ 0 ∷ 2 ∷ 0 ∷ 0 ∷ 0 ∷ 0 ∷ 0 ∷ 0 ∷ 0 ∷ 8 ∷ 0 ∷ 0 ∷ 0 ∷ 0 ∷ 0 ∷ 0 ∷ 0 ∷ 16 ∷ 0 ∷ 0 ∷ 0 ∷ 0 ∷ 0 ∷ 0 ∷ 0
    ∷ 0 ∷ 0 ∷ 0 ∷ 0 ∷ 3 ∷ 0 ∷ 0 ∷ 0 ∷ 0 ∷ 0 ∷ 0 ∷ 0 ∷ 0 ∷ 0 ∷ 0 ∷ 0 ∷ 0 ∷ 0 ∷ 0 ∷ 0 ∷ 0 ∷ 0 ∷ 0 ∷ 0 ∷ 56 ∷ 2 ∷ 0 ∷ 0
    ∷ 0 ∷ 0 ∷ 0 ∷ 0 ∷ 9 ∷ 0 ∷ 0 ∷ 0 ∷ 0 ∷ 0 ∷ 0 ∷ 0 ∷ 0 ∷ 0 ∷ 0 ∷ 0 ∷ 0 ∷ 0 ∷ 0 ∷ 0 ∷ 1 ∷ 0 ∷ 0 ∷ 0 ∷ 0 ∷ 0 ∷ 0 ∷ 0
    ∷ 0 ∷ 0 ∷ 0 ∷ 0 ∷ 0 ∷ 0 ∷ 0 ∷ 0 ∷ 0 ∷ 0 ∷ 0 ∷ 0 ∷ 11 ∷ 0 ∷ 0 ∷ 0 ∷ 2 ∷ 0 ∷ 0 ∷ 0 ∷ 0 ∷ 0 ∷ 0 ∷ 0 ∷ 0 ∷ 0 ∷ 0 ∷ 0
    ∷ 0 ∷ 0 ∷ 0 ∷ 0 ∷ 0 ∷ 0 ∷ 0 ∷ 0 ∷ 0 ∷ 0 ∷ 0 ∷ 0 ∷ 0 ∷ 0 ∷ 0 ∷ 0 ∷ 0 ∷ 1 ∷ 0 ∷ 0 ∷ 0 ∷ 0 ∷ 0 ∷ 0 ∷ 0 ∷ 0 ∷ 0 ∷ 0
    ∷ 8 ∷ 0 ∷ 0 ∷ 0 ∷ 0 ∷ 0 ∷ 0 ∷ 0 ∷ 24 ∷ 0 ∷ 0 ∷ 0 ∷ 0 ∷ 0 ∷ 0 ∷ 0 ∷ 0 ∷ 0 ∷ 0 ∷ 0 ∷ 6 ∷ 0 ∷ 0 ∷ 0 ∷ 2 ∷ 0 ∷ 0 ∷ 0
    ∷ 0 ∷ 0 ∷ 0 ∷ 0 ∷ 0 ∷ 0 ∷ 0 ∷ 0 ∷ 0 ∷ 0 ∷ 0 ∷ 0 ∷ 0 ∷ 0 ∷ 0 ∷ 0 ∷ 0 ∷ 0 ∷ 0 ∷ 0 ∷ 0 ∷ 0 ∷ 0 ∷ 0 ∷ 0 ∷ 1 ∷ 0 ∷ 0
    ∷ 0 ∷ 0 ∷ 0 ∷ 0 ∷ 0 ∷ 0 ∷ 0 ∷ 0 ∷ 8 ∷ 0 ∷ 0 ∷ 0 ∷ 0 ∷ 0 ∷ 0 ∷ 0 ∷ 16 ∷ 0 ∷ 0 ∷ 0 ∷ 0 ∷ 0 ∷ 0 ∷ 0 ∷ []

-- what a link keeps of it: the hidden `gets` gives way to the later one, the second `puts` is left out
-- while the reference after it stays, and what is one in all of a process is GLOBAL
libc_summary :
    shared_summary_in (codes "/usr/lib/libc.so") (elf_of libc) ≡ record {
      kind = Shared;
      soname = codes "libc.so.6";
      exec_stack = false;
      pieces = [];
      globals = (record { symbol = 1; name = codes "puts"; binding = 1; code = 2; visibility = 0; home = home.Shared; value = 4096; size = 32 })
          ∷ (record { symbol = 2; name = codes "exit"; binding = 1; code = 2; visibility = 0; home = home.Shared; value = 4160; size = 16 })
          ∷ (record { symbol = 3; name = codes "stdout"; binding = 1; code = 1; visibility = 0; home = home.Shared; value = 12296; size = 8 })
          ∷ (record { symbol = 4; name = codes "environ"; binding = 2; code = 1; visibility = 0; home = home.Shared; value = 12304; size = 8 })
          ∷ (record { symbol = 5; name = codes "strlen"; binding = 1; code = 2; visibility = 0; home = home.Shared; value = 4224; size = 12 })
          ∷ (record { symbol = 6; name = codes "__cxa_finalize"; binding = 2; code = 0; visibility = 0; home = home.Undefined; value = 7; size = 3 })
          ∷ (record { symbol = 8; name = codes "gets"; binding = 1; code = 2; visibility = 3; home = home.Shared; value = 4288; size = 5 })
          ∷ (record { symbol = 10; name = codes "puts"; binding = 1; code = 2; visibility = 0; home = home.Undefined; value = 0; size = 0 })
          ∷ (record { symbol = 12; name = codes "VERS_1"; binding = 1; code = 1; visibility = 0; home = home.Shared; value = 6; size = 0 })
          ∷ (record { symbol = 13; name = codes "exit"; binding = 1; code = 2; visibility = 0; home = home.Undefined; value = 0; size = 0 })
          ∷ [];
      groups = [];
    }
unfolding number_of num signed64 ehdr_at shdr_at sym_at dyn_at section_headers_of symbols_of elf_with elf_under elf_of name_at header_checks kind_checks counted_entries entries_under shared_global shared_globals_in soname_of shared_summary_in shared_header_checks two_table_checks shared_name_checks soname_checks shared_checks shared_fault
libc_summary = refl

-- the first SONAME before the first NULL, also an empty one; else the last part of the path
sonames :
    ((shared_summary_in (codes "a/b") (elf_of (patched 416 (1 ∷ 0 ∷ 0 ∷ 0 ∷ 0 ∷ 0 ∷ 0 ∷ 0 ∷ []) libc))).soname ≡ codes "libd.so")
    × ((shared_summary_in (codes "/usr/lib/libm.so") (elf_of (patched 432 (1 ∷ 0 ∷ 0 ∷ 0 ∷ 0 ∷ 0 ∷ 0 ∷ 0 ∷ []) (patched 416 (1 ∷ 0 ∷ 0 ∷ 0 ∷ 0 ∷ 0 ∷ 0 ∷ 0 ∷ []) libc)))).soname ≡ codes "libm.so")
    × ((shared_summary_in (codes "libm.so") (elf_of (patched 432 (1 ∷ 0 ∷ 0 ∷ 0 ∷ 0 ∷ 0 ∷ 0 ∷ 0 ∷ []) (patched 416 (1 ∷ 0 ∷ 0 ∷ 0 ∷ 0 ∷ 0 ∷ 0 ∷ 0 ∷ []) libc)))).soname ≡ codes "libm.so")
    × ((shared_summary_in (codes "lib/") (elf_of (patched 432 (1 ∷ 0 ∷ 0 ∷ 0 ∷ 0 ∷ 0 ∷ 0 ∷ 0 ∷ []) (patched 416 (1 ∷ 0 ∷ 0 ∷ 0 ∷ 0 ∷ 0 ∷ 0 ∷ 0 ∷ []) libc)))).soname ≡ [])
    × ((shared_summary_in (codes "a/b") (elf_of (patched 424 (0 ∷ 0 ∷ 0 ∷ 0 ∷ 0 ∷ 0 ∷ 0 ∷ 0 ∷ []) libc))).soname ≡ [])
    × ((shared_summary_in (codes "a/b") (elf_of (patched 400 (0 ∷ 0 ∷ 0 ∷ 0 ∷ 0 ∷ 0 ∷ 0 ∷ 0 ∷ []) libc))).soname ≡ codes "b")
    × ((shared_summary_in (codes "a/b") (elf_of (patched 432 (1 ∷ 0 ∷ 0 ∷ 0 ∷ 0 ∷ 0 ∷ 0 ∷ 0 ∷ []) (patched 416 (1 ∷ 0 ∷ 0 ∷ 0 ∷ 0 ∷ 0 ∷ 0 ∷ 0 ∷ []) (patched 448 (1 ∷ 0 ∷ 0 ∷ 0 ∷ 0 ∷ 0 ∷ 0 ∷ 0 ∷ []) libc))))).soname ≡ codes "puts")
    × ((shared_summary_in (codes "a/b") (elf_of (patched 407 (128 ∷ []) (patched 400 (14 ∷ []) libc)))).soname ≡ codes "libc.so.6")
unfolding number_of num signed64 ehdr_at shdr_at sym_at dyn_at section_headers_of symbols_of elf_with elf_under elf_of name_at header_checks kind_checks counted_entries entries_under shared_global shared_globals_in soname_of shared_summary_in shared_header_checks two_table_checks shared_name_checks soname_checks shared_checks shared_fault
sonames = (refl, refl, refl, refl, refl, refl, refl, refl)

-- which symbols other files may mean: by binding and visibility; entry 0 is never one
offered_symbols :
    (map {B = ℕ} (λ (g : Global). g.symbol) (shared_summary_in [] (elf_of (patched 237 (0 ∷ []) libc))).globals ≡ 1 ∷ 2 ∷ 3 ∷ 4 ∷ 5 ∷ 6 ∷ 7 ∷ 10 ∷ 12 ∷ 13 ∷ [])
    × (map {B = ℕ} (λ (g : Global). g.symbol) (shared_summary_in [] (elf_of (patched 261 (1 ∷ []) libc))).globals ≡ 1 ∷ 2 ∷ 3 ∷ 4 ∷ 5 ∷ 6 ∷ 10 ∷ 12 ∷ 13 ∷ [])
    × (map {B = ℕ} (λ (g : Global). g.symbol) (shared_summary_in [] (elf_of (patched 261 (6 ∷ []) libc))).globals ≡ 1 ∷ 2 ∷ 3 ∷ 4 ∷ 5 ∷ 6 ∷ 10 ∷ 12 ∷ 13 ∷ [])
    × (map {B = ℕ} (λ (g : Global). g.symbol) (shared_summary_in [] (elf_of (patched 332 (17 ∷ []) libc))).globals ≡ 1 ∷ 2 ∷ 3 ∷ 4 ∷ 5 ∷ 6 ∷ 8 ∷ 10 ∷ 11 ∷ 12 ∷ 13 ∷ [])
    × (map {B = ℕ} (λ (g : Global). g.symbol) (shared_summary_in [] (elf_of (patched 92 (50 ∷ []) libc))).globals ≡ 2 ∷ 3 ∷ 4 ∷ 5 ∷ 6 ∷ 8 ∷ 9 ∷ 10 ∷ 12 ∷ 13 ∷ [])
    × (map {B = ℕ} (λ (g : Global). g.symbol) (shared_summary_in [] (elf_of (patched 94 (0 ∷ 0 ∷ []) libc))).globals ≡ 1 ∷ 2 ∷ 3 ∷ 4 ∷ 5 ∷ 6 ∷ 8 ∷ 9 ∷ 10 ∷ 12 ∷ 13 ∷ [])
    × (map {B = ℕ} (λ (g : Global). g.symbol) (shared_summary_in [] (elf_of (patched 64 (1 ∷ 0 ∷ 0 ∷ 0 ∷ 18 ∷ 0 ∷ 7 ∷ 0 ∷ 0 ∷ 16 ∷ 0 ∷ 0 ∷ 0 ∷ 0 ∷ 0 ∷ 0 ∷ 32 ∷ 0 ∷ 0 ∷ 0 ∷ 0 ∷ 0 ∷ 0 ∷ 0 ∷ []) libc))).globals ≡ 1 ∷ 2 ∷ 3 ∷ 4 ∷ 5 ∷ 6 ∷ 8 ∷ 10 ∷ 12 ∷ 13 ∷ [])
unfolding number_of num signed64 ehdr_at shdr_at sym_at dyn_at section_headers_of symbols_of elf_with elf_under elf_of name_at header_checks kind_checks counted_entries entries_under shared_global shared_globals_in soname_of shared_summary_in shared_header_checks two_table_checks shared_name_checks soname_checks shared_checks shared_fault
offered_symbols = (refl, refl, refl, refl, refl, refl, refl)

-- what is no shared object, and faults of the section table
shared_header_faults :
    (shared_fault libc ≡ None)
    × (shared_fault (codes "!<arch>") ≡ Some Archive)
    × (shared_fault (take 63 libc) ≡ Some NotElf)
    × (shared_fault (patched 4 (1 ∷ []) libc) ≡ Some WrongClass)
    × (shared_fault (patched 18 (3 ∷ 0 ∷ []) libc) ≡ Some WrongMachine)
    × (shared_fault (patched 16 (1 ∷ 0 ∷ []) libc) ≡ Some WrongType)
    × (shared_fault (patched 16 (2 ∷ 0 ∷ []) libc) ≡ Some WrongType)
    × (shared_fault (patched 58 (63 ∷ 0 ∷ []) libc) ≡ Some (BadTable 0))
    × (shared_fault (patched 60 (0 ∷ 0 ∷ []) libc) ≡ Some (BadTable 0))
    × (shared_fault (patched 40 (73 ∷ 2 ∷ 0 ∷ 0 ∷ 0 ∷ 0 ∷ 0 ∷ 0 ∷ []) libc) ≡ Some (BadTable 0))
    × (shared_fault (patched 62 (0 ∷ 0 ∷ []) libc) ≡ Some (BadTable 0))
    × (shared_fault (patched 62 (3 ∷ 0 ∷ []) libc) ≡ Some (BadTable 0))
    × (shared_fault (patched 62 (7 ∷ 0 ∷ []) libc) ≡ Some (BadTable 0))
    × (shared_fault (patched 62 (2 ∷ 0 ∷ []) libc) ≡ None)
unfolding number_of num signed64 ehdr_at shdr_at sym_at dyn_at section_headers_of symbols_of elf_with elf_under elf_of name_at header_checks kind_checks counted_entries entries_under shared_global shared_globals_in soname_of shared_summary_in shared_header_checks two_table_checks shared_name_checks soname_checks shared_checks shared_fault
shared_header_faults = (refl, refl, refl, refl, refl, refl, refl, refl, refl, refl, refl, refl, refl, refl)

-- faults of the symbols of dynamic linking and of the dynamic section: each is reported by the number of
-- its section, a string section by its own, and the first table of each kind counts
two_table_faults :
    (shared_fault (patched 908 (1 ∷ 0 ∷ 0 ∷ 0 ∷ []) (patched 652 (1 ∷ 0 ∷ 0 ∷ 0 ∷ []) libc)) ≡ Some NoDynamic)
    × (shared_fault (patched 972 (1 ∷ 0 ∷ 0 ∷ 0 ∷ []) (patched 780 (1 ∷ 0 ∷ 0 ∷ 0 ∷ []) libc)) ≡ Some NoDynamic)
    × (shared_fault (patched 652 (1 ∷ 0 ∷ 0 ∷ 0 ∷ []) libc) ≡ Some (BadTable 5))
    × (shared_fault (patched 780 (1 ∷ 0 ∷ 0 ∷ 0 ∷ []) libc) ≡ Some (BadTable 6))
    × (shared_fault (patched 672 (185 ∷ 2 ∷ 0 ∷ 0 ∷ 0 ∷ 0 ∷ 0 ∷ 0 ∷ []) libc) ≡ Some (BadTable 1))
    × (shared_fault (patched 800 (185 ∷ 3 ∷ 0 ∷ 0 ∷ 0 ∷ 0 ∷ 0 ∷ 0 ∷ []) libc) ≡ Some (BadTable 3))
    × (shared_fault (patched 800 (184 ∷ 3 ∷ 0 ∷ 0 ∷ 0 ∷ 0 ∷ 0 ∷ 0 ∷ []) libc) ≡ None)
    × (shared_fault (patched 744 (41 ∷ 2 ∷ 0 ∷ 0 ∷ 0 ∷ 0 ∷ 0 ∷ 0 ∷ []) libc) ≡ Some (BadTable 2))
    × (shared_fault (patched 744 (40 ∷ 2 ∷ 0 ∷ 0 ∷ 0 ∷ 0 ∷ 0 ∷ 0 ∷ []) libc) ≡ None)
    × (shared_fault (patched 872 (209 ∷ 1 ∷ 0 ∷ 0 ∷ 0 ∷ 0 ∷ 0 ∷ 0 ∷ []) (patched 816 (4 ∷ 0 ∷ 0 ∷ 0 ∷ []) libc)) ≡ Some (BadTable 4))
    × (shared_fault (patched 872 (209 ∷ 1 ∷ 0 ∷ 0 ∷ 0 ∷ 0 ∷ 0 ∷ 0 ∷ []) libc) ≡ None)
    × (shared_fault (patched 744 (0 ∷ 0 ∷ 0 ∷ 0 ∷ 0 ∷ 1 ∷ 0 ∷ 0 ∷ []) (patched 808 (0 ∷ 0 ∷ 0 ∷ 0 ∷ 0 ∷ 1 ∷ 0 ∷ 0 ∷ []) (patched 816 (4 ∷ 0 ∷ 0 ∷ 0 ∷ []) libc))) ≡ Some (BadTable 3))
    × (shared_fault (patched 744 (0 ∷ 0 ∷ 0 ∷ 0 ∷ 0 ∷ 1 ∷ 0 ∷ 0 ∷ []) (patched 680 (79 ∷ 1 ∷ 0 ∷ 0 ∷ 0 ∷ 0 ∷ 0 ∷ 0 ∷ []) libc)) ≡ Some (BadTable 2))
    × (shared_fault (patched 680 (79 ∷ 1 ∷ 0 ∷ 0 ∷ 0 ∷ 0 ∷ 0 ∷ 0 ∷ []) libc) ≡ Some (BadTable 1))
    × (shared_fault (patched 680 (56 ∷ 1 ∷ 0 ∷ 0 ∷ 0 ∷ 0 ∷ 0 ∷ 0 ∷ []) libc) ≡ None)
    × (shared_fault (patched 680 (0 ∷ 0 ∷ 0 ∷ 0 ∷ 0 ∷ 0 ∷ 0 ∷ 0 ∷ []) libc) ≡ None)
    × (shared_fault (patched 808 (79 ∷ 0 ∷ 0 ∷ 0 ∷ 0 ∷ 0 ∷ 0 ∷ 0 ∷ []) libc) ≡ Some (BadTable 3))
    × (shared_fault (patched 808 (0 ∷ 0 ∷ 0 ∷ 0 ∷ 0 ∷ 0 ∷ 0 ∷ 0 ∷ []) libc) ≡ None)
    × (shared_fault (patched 688 (0 ∷ 0 ∷ 0 ∷ 0 ∷ []) libc) ≡ Some (BadTable 1))
    × (shared_fault (patched 688 (3 ∷ 0 ∷ 0 ∷ 0 ∷ []) libc) ≡ Some (BadTable 1))
    × (shared_fault (patched 688 (7 ∷ 0 ∷ 0 ∷ 0 ∷ []) libc) ≡ Some (BadTable 1))
    × (shared_fault (patched 816 (1 ∷ 0 ∷ 0 ∷ 0 ∷ []) libc) ≡ Some (BadTable 3))
    × (shared_fault (patched 816 (0 ∷ 0 ∷ 0 ∷ 0 ∷ []) libc) ≡ Some (BadTable 3))
    × (shared_fault (patched 808 (79 ∷ 0 ∷ 0 ∷ 0 ∷ 0 ∷ 0 ∷ 0 ∷ 0 ∷ []) (patched 688 (0 ∷ 0 ∷ 0 ∷ 0 ∷ []) libc)) ≡ Some (BadTable 3))
    × (shared_fault (patched 832 (15 ∷ 0 ∷ 0 ∷ 0 ∷ 0 ∷ 0 ∷ 0 ∷ 0 ∷ []) (patched 704 (23 ∷ 0 ∷ 0 ∷ 0 ∷ 0 ∷ 0 ∷ 0 ∷ 0 ∷ []) libc)) ≡ None)
unfolding number_of num signed64 ehdr_at shdr_at sym_at dyn_at section_headers_of symbols_of elf_with elf_under elf_of name_at header_checks kind_checks counted_entries entries_under shared_global shared_globals_in soname_of shared_summary_in shared_header_checks two_table_checks shared_name_checks soname_checks shared_checks shared_fault
two_table_faults = (refl, refl, refl, refl, refl, refl, refl, refl, refl, refl, refl, refl, refl, refl, refl, refl, refl, refl, refl, refl, refl, refl, refl, refl, refl)

-- names: of every symbol from entry 1, also one that is left out, then of the first SONAME
shared_name_faults :
    (shared_fault (patched 88 (84 ∷ 0 ∷ 0 ∷ 0 ∷ []) libc) ≡ Some (BadName 1))
    × (shared_fault (patched 88 (83 ∷ 0 ∷ 0 ∷ 0 ∷ []) libc) ≡ None)
    × (shared_fault (patched 328 (84 ∷ 0 ∷ 0 ∷ 0 ∷ []) libc) ≡ Some (BadName 1))
    × (shared_fault (patched 232 (84 ∷ 0 ∷ 0 ∷ 0 ∷ []) libc) ≡ Some (BadName 1))
    × (shared_fault (patched 64 (84 ∷ 0 ∷ 0 ∷ 0 ∷ []) libc) ≡ None)
    × (shared_fault (patched 744 (83 ∷ 0 ∷ 0 ∷ 0 ∷ 0 ∷ 0 ∷ 0 ∷ 0 ∷ []) libc) ≡ Some (BadName 3))
    × (shared_fault (patched 744 (74 ∷ 0 ∷ 0 ∷ 0 ∷ 0 ∷ 0 ∷ 0 ∷ 0 ∷ []) libc) ≡ Some (BadName 3))
    × (shared_fault (patched 424 (84 ∷ 0 ∷ 0 ∷ 0 ∷ 0 ∷ 0 ∷ 0 ∷ 0 ∷ []) libc) ≡ Some (BadName 3))
    × (shared_fault (patched 440 (84 ∷ 0 ∷ 0 ∷ 0 ∷ 0 ∷ 0 ∷ 0 ∷ 0 ∷ []) libc) ≡ None)
    × (shared_fault (patched 472 (84 ∷ 0 ∷ 0 ∷ 0 ∷ 0 ∷ 0 ∷ 0 ∷ 0 ∷ []) libc) ≡ None)
    × (shared_fault (patched 408 (84 ∷ 0 ∷ 0 ∷ 0 ∷ 0 ∷ 0 ∷ 0 ∷ 0 ∷ []) libc) ≡ None)
    × (shared_fault (patched 376 (84 ∷ 0 ∷ 0 ∷ 0 ∷ []) (patched 424 (84 ∷ 0 ∷ 0 ∷ 0 ∷ 0 ∷ 0 ∷ 0 ∷ 0 ∷ []) libc)) ≡ Some (BadName 1))
    × (shared_fault (patched 424 (1 ∷ 0 ∷ 0 ∷ 0 ∷ 0 ∷ 0 ∷ 0 ∷ 0 ∷ []) (patched 816 (4 ∷ 0 ∷ 0 ∷ 0 ∷ []) libc)) ≡ None)
    × (shared_fault (patched 816 (4 ∷ 0 ∷ 0 ∷ 0 ∷ []) libc) ≡ Some (BadName 3))
unfolding number_of num signed64 ehdr_at shdr_at sym_at dyn_at section_headers_of symbols_of elf_with elf_under elf_of name_at header_checks kind_checks counted_entries entries_under shared_global shared_globals_in soname_of shared_summary_in shared_header_checks two_table_checks shared_name_checks soname_checks shared_checks shared_fault
shared_name_faults = (refl, refl, refl, refl, refl, refl, refl, refl, refl, refl, refl, refl, refl, refl)
