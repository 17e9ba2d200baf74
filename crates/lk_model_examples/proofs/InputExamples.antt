-- Worked examples: the inputs of a command, where libraries are looked for, and what is missing.
use Rattle.std.specs.Prelude.{◌≡◌, ℕ, pos, Bool, true, false, if◌then◌else◌, List, [], ◌∷◌, ◌++◌, map, drop, replicate, codes, bytes_eq, Some, None, refl}
use Rattle.std.specs.List.{list_any}
use Rattle.std.specs.Bool.{then_some}
use Rattle.lk_elf.specs.Fields.{number_of, num, signed64}
use Rattle.lk_elf.specs.Records.{ehdr_at, shdr_at, sym_at, rela_at}
use Rattle.lk_report.specs.FileMap.{FileMap}
use Rattle.lk_report.specs.declared.faults.Fault.TheVariants as faults
use Rattle.lk_report.specs.declared.faults.InputFault.TheVariants.{NotElf, WrongType}
use Rattle.lk_model.specs.declared.commands.Command.{Command}
use Rattle.lk_model.specs.declared.commands.Item.{Item}
use Rattle.lk_model.specs.declared.commands.Item.TheVariants.{One, Lib}
use Rattle.lk_model.specs.declared.commands.Mark.TheVariants.{Unknown, Changed}
use Rattle.lk_model.specs.declared.commands.Mode.TheVariants.{Full}
use Rattle.lk_model.specs.declared.commands.Word.{Word}
use Rattle.lk_model.specs.Elf.{name_at, section_name, symbol_name, elf_of, elf_under, elf_with, section_headers_of, symbols_of}
use Rattle.lk_model.specs.Inputs.{candidates_of, path_of, words_from, missing_of, inputs_after, inputs_of, reads_as_shared, input_fault_in, input_faults_of}
use Rattle.lk_model.specs.Kinds.{kind_of, kind_checks, header_checks}
use Rattle.lk_model.specs.ObjectChecks.{object_fault, object_checks, table_checks}
use Rattle.lk_model.specs.Objects.{piece_named, asks_exec_stack, signature_of, summary_in, pieces_in, globals_in, groups_in, words_under, relas_under}
use Rattle.lk_model.specs.Views.{Input}

-- a word
abbrev word : List ℕ → Bool → Word
word text library = record { text = text; library = library; mark = Unknown }

-- a command with these inputs, which looks for libraries in d
abbrev command : List Item → Command
command items = record {
  output = codes "a.out";
  mode = Full;
  base = None;
  options = record { entry = codes "_start"; interp = []; runpath = []; patch = 10; export_dynamic = false; dynamic = false };
  dirs = codes "d" ∷ [];
  items = items;
  workers = 4;
}

-- empty files of these paths
abbrev files_of : List (List ℕ) → FileMap
files_of paths path = then_some (list_any (bytes_eq path) paths) (record { bytes = []; stamp = Some (record { length = 0; modified = pos 5 }) })

-- the first bytes of a shared object, which is the file a.so, beside an empty file a.o
abbrev shared_file : FileMap
shared_file path =
    if bytes_eq path (codes "a.so")
    then Some (record { bytes = 127 ∷ 69 ∷ 76 ∷ 70 ∷ 2 ∷ 1 ∷ 1 ∷ replicate 9 0 ++ 3 ∷ 0 ∷ 62 ∷ 0 ∷ replicate 44 0; stamp = None })
    else files_of (codes "a.o" ∷ []) path

-- what an input is known by
abbrev known : Input → List ℕ × ℕ × ℕ
known input = (input.path, input.occurrence, input.lib)

-- where a library is looked for
library_places :
    (candidates_of (command []) (codes "m") ≡ codes "d/libm.so" ∷ codes "/usr/lib/libm.so" ∷ codes "/lib/libm.so" ∷ [])
    × (path_of (command []) (files_of (codes "/lib/libm.so" ∷ codes "/usr/lib/libm.so" ∷ [])) (word (codes "m") true) ≡ Some (codes "/usr/lib/libm.so"))
    × (path_of (command []) (files_of (codes "libq.so" ∷ [])) (word (codes "q") true) ≡ None)
    × (path_of (command []) (files_of (codes "q" ∷ [])) (word (codes "q") false) ≡ Some (codes "q"))
unfolding reads_as_shared input_fault_in input_faults_of kind_of kind_checks header_checks object_fault object_checks table_checks name_at section_name symbol_name piece_named asks_exec_stack signature_of candidates_of path_of words_from missing_of inputs_after inputs_of elf_of elf_under elf_with section_headers_of symbols_of summary_in pieces_in globals_in groups_in words_under relas_under number_of num signed64 ehdr_at shdr_at sym_at rela_at
library_places = (refl, refl, refl, refl)

-- all that is missing, a library by its word
missing :
    (missing_of (command (One (word (codes "a.o") false) ∷ One (word (codes "q") true) ∷ Lib (word (codes "b.o") false ∷ word (codes "c.o") false ∷ []) ∷ [])) (files_of (codes "b.o" ∷ [])) ≡ faults.Missing (codes "a.o") ∷ faults.Missing (codes "-lq") ∷ faults.Missing (codes "c.o") ∷ [])
    × (missing_of (command (One (word (codes "a.o") false) ∷ [])) (files_of (codes "a.o" ∷ [])) ≡ [])
unfolding reads_as_shared input_fault_in input_faults_of kind_of kind_checks header_checks object_fault object_checks table_checks name_at section_name symbol_name piece_named asks_exec_stack signature_of candidates_of path_of words_from missing_of inputs_after inputs_of elf_of elf_under elf_with section_headers_of symbols_of summary_in pieces_in globals_in groups_in words_under relas_under number_of num signed64 ehdr_at shdr_at sym_at rela_at
missing = (refl, refl)

-- occurrences and lib groups; an empty lib group takes a number
inputs :
    (map known (inputs_of (command (One (word (codes "a.o") false) ∷ Lib (word (codes "b.o") false ∷ word (codes "a.o") false ∷ []) ∷ Lib [] ∷ Lib (word (codes "c.o") false ∷ []) ∷ One (word (codes "a.o") false) ∷ One (word (codes "m") true) ∷ [])) (files_of (codes "a.o" ∷ codes "b.o" ∷ codes "c.o" ∷ codes "d/libm.so" ∷ [])))
    ≡ (codes "a.o", 0, 0) ∷ (codes "b.o", 0, 1) ∷ (codes "a.o", 1, 1) ∷ (codes "c.o", 0, 3) ∷ (codes "a.o", 2, 0) ∷ (codes "d/libm.so", 0, 0) ∷ [])
    × (map (λ (input : Input). input.stamp) (inputs_of (command (One (word (codes "a.o") false) ∷ [])) (files_of (codes "a.o" ∷ []))) ≡ Some (record { length = 0; modified = pos 5 }) ∷ [])
    × (map (λ (input : Input). input.mark) (inputs_of (command (One (record { text = codes "a.o"; library = false; mark = Changed }) ∷ [])) (files_of (codes "a.o" ∷ []))) ≡ Changed ∷ [])
unfolding reads_as_shared input_fault_in input_faults_of kind_of kind_checks header_checks object_fault object_checks table_checks name_at section_name symbol_name piece_named asks_exec_stack signature_of candidates_of path_of words_from missing_of inputs_after inputs_of elf_of elf_under elf_with section_headers_of symbols_of summary_in pieces_in globals_in groups_in words_under relas_under number_of num signed64 ehdr_at shdr_at sym_at rela_at
inputs = (refl, refl, refl)

-- what is read as a shared object, and the faults of the others
readings :
    (input_faults_of (inputs_of (command (One (word (codes "a.o") false) ∷ Lib (word (codes "b.o") false ∷ []) ∷ [])) (files_of (codes "a.o" ∷ codes "b.o" ∷ []))) ≡ faults.Input (codes "a.o") NotElf ∷ faults.Input (codes "b.o") NotElf ∷ [])
    × (map reads_as_shared (inputs_of (command (One (word (codes "a.so") false) ∷ Lib (word (codes "a.so") false ∷ []) ∷ One (word (codes "a.o") false) ∷ [])) shared_file) ≡ true ∷ false ∷ false ∷ [])
    × (input_faults_of (drop 1 (inputs_of (command (One (word (codes "a.so") false) ∷ Lib (word (codes "a.so") false ∷ []) ∷ [])) shared_file)) ≡ faults.Input (codes "a.so") WrongType ∷ [])
unfolding reads_as_shared input_fault_in input_faults_of kind_of kind_checks header_checks object_fault object_checks table_checks name_at section_name symbol_name piece_named asks_exec_stack signature_of candidates_of path_of words_from missing_of inputs_after inputs_of elf_of elf_under elf_with section_headers_of symbols_of summary_in pieces_in globals_in groups_in words_under relas_under number_of num signed64 ehdr_at shdr_at sym_at rela_at
readings = (refl, refl, refl)
