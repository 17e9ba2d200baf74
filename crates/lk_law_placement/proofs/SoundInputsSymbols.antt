-- The symbols of an object without a fault are sound, and so is its summary, and that of a shared object.
use Rattle.std.specs.Prelude.{◌≡◌, ℕ, ◌==◌, Bool, true, false, not, ◌&&◌, if◌then◌else◌, List, [], ◌++◌, filter, flat_map, Option, Some, None, option_and_then, option_map, option_to_list, slice_get, refl}
use Rattle.std.specs.List.{AllByRecursion}
use Rattle.std.proofs.Common.{ap}
use Rattle.std.proofs.lemmas.Bool.{both_ways, not-false}
use Rattle.lk_elf.specs.Numbers.{shn_undef, shn_abs, shn_common}
use Rattle.lk_elf.specs.declared.section_header.Shdr.{Shdr}
use Rattle.lk_elf.specs.declared.symbol.Sym.{Sym}
use Rattle.lk_report.specs.declared.faults.InputFault.{InputFault}
use Rattle.lk_model.specs.Amounts.{is_small_power}
use Rattle.lk_model.specs.Checks.{first_fault}
use Rattle.lk_model.specs.Elf.{elf_of, name_of_symbol, numbered, symbol_name, symbol_table}
use Rattle.lk_model.specs.Kinds.{kind_checks}
use Rattle.lk_model.specs.ObjectChecks.{object_checks, object_fault, object_fault_after, overlap_checks, group_checks_after, is_common, rela_section_checks, rela_sections, section_checks, symbol_checks, symbol_checks_from, symbol_checks_named, symbol_table_checks, table_checks}
use Rattle.lk_model.specs.Objects.{global_with, globals_in, group_sections, home_of, is_local, is_piece_in, numbered_symbols, summary_in}
use Rattle.lk_model.specs.SharedObjects.{dynamic_symbol_table, is_offered, offered_under, shared_global, shared_globals_in, shared_home, shared_summary_in, symbols_under, without_repeated, is_repeated}
use Rattle.lk_model.specs.Views.{Elf}
use Rattle.lk_model.specs.declared.summaries.Global.{Global}
use Rattle.lk_model.specs.declared.summaries.Home.{Home}
use Rattle.lk_model.specs.declared.summaries.Home.TheVariants as home
use Rattle.lk_model.proofs.Rising.{all_map, all_filter}
use Rattle.lk_law_placement.specs.SoundPieces.{IsPower}
use Rattle.lk_law_placement.specs.SoundInputs.{SoundGlobal, SoundSummary}
use Rattle.lk_law_placement.proofs.DistinctLists.{all_always, all_joined}
use Rattle.lk_law_placement.proofs.SoundInputsChecks.{AllSome, all_reported, all_passed, passed_before, passed_after, passed_each}
use Rattle.lk_law_placement.proofs.SoundInputsPieces.{pieces_are_sound}
use Rattle.lk_law_placement.proofs.SoundInputsPowers.{small_power}

-- ---- a symbol

-- whether a symbol's home is COMMON
abbrev pub is_common_home : Home → Bool
is_common_home home.Common = true
is_common_home other = false

-- only a symbol in section COMMON is a common block
home_is_common : (number : ℕ) → home_of number ≡ home.Common → (number == shn_common) ≡ true
home_is_common number is = go (number == shn_undef) (number == shn_abs) (number == shn_common) (ap is_common_home is)
  where
    go : (a b c : Bool) → is_common_home (if a then home.Undefined else if b then home.Absolute else if c then home.Common else home.Section number) ≡ true → c ≡ true
    go true b c e = absurd (both_ways false refl e)
    go false true c e = absurd (both_ways false refl e)
    go false false true e = refl
    go false false false e = e

-- a common block that passes its check asks for a power of two
common_power : (symbol : Sym) → (is_common symbol && not (is_small_power symbol.st_value)) ≡ false → home_of symbol.st_shndx ≡ home.Common → IsPower symbol.st_value
common_power symbol passes is =
    let common : is_common symbol ≡ true = home_is_common symbol.st_shndx is in
    small_power symbol.st_value (not-false (is_small_power symbol.st_value) (rw common at passes))

symbol_is_sound :
    (elf : Elf) (first k : ℕ) (symbol : Sym) (name : Option (List ℕ))
    → first_fault (symbol_checks_named elf first k symbol name) ≡ None
    → AllSome SoundGlobal (option_map (global_with k symbol) name)
unfolding symbol_checks_named global_with
symbol_is_sound elf first k symbol None passes = tt
symbol_is_sound elf first k symbol (Some name) passes =
    let each = all_passed (symbol_checks_named elf first k symbol (Some name)) passes in
    common_power symbol each.1.1.1.1.1.1.0

-- without a symbol table no symbol has a name
nameless : (elf : Elf) (k : ℕ) → symbol_table elf ≡ None → symbol_name elf k ≡ None
unfolding symbol_name
nameless elf k none = ap (option_and_then (λ (table : ℕ × Shdr). option_and_then (name_of_symbol elf table.1.sh_link) (slice_get elf.symbols k))) none

-- a symbol of the table with its name
abbrev global_of : Elf → ℕ × Sym → Option Global
global_of elf row = option_map (global_with row.0 row.1) (symbol_name elf row.0)

each_is_sound :
    (elf : Elf) (table : Option (ℕ × Shdr))
    → symbol_table elf ≡ table
    → first_fault (symbol_checks elf table) ≡ None
    → AllByRecursion (λ (row : ℕ × Sym). AllSome SoundGlobal (global_of elf row)) (numbered_symbols elf)
each_is_sound elf None is passes = all_always (λ (row : ℕ × Sym). rw (nameless elf row.0 is) tt) (numbered_symbols elf)
each_is_sound elf (Some table) is passes =
    all_map
    (λ (row : ℕ × Sym) pass. symbol_is_sound elf table.1.sh_info row.0 row.1 (symbol_name elf row.0) pass)
    (numbered_symbols elf)
    (passed_each (symbol_checks_from elf table.1.sh_info) (numbered_symbols elf) passes)

-- the symbols of an object that pass their checks are sound
globals_are_sound : (elf : Elf) → first_fault (symbol_checks elf (symbol_table elf)) ≡ None → AllByRecursion SoundGlobal (globals_in elf)
unfolding globals_in
globals_are_sound elf passes =
    let outer : ℕ × Sym → Bool = λ (row : ℕ × Sym). not (is_local row.1) in
    all_reported SoundGlobal (global_of elf) (filter outer (numbered_symbols elf))
    (all_filter (λ (row : ℕ × Sym). AllSome SoundGlobal (global_of elf row)) outer (numbered_symbols elf) (each_is_sound elf (symbol_table elf) refl passes))

-- ---- summaries

-- an object that passes its checks has a sound summary
passing_is_sound : (elf : Elf) → first_fault (object_checks elf) ≡ None → SoundSummary (summary_in elf)
unfolding object_checks summary_in
passing_is_sound elf passes =
    let table = table_checks elf in
    let sections = flat_map (section_checks elf) (numbered elf.sections) in
    let symbols_table = symbol_table_checks elf (symbol_table elf) in
    let symbols = symbol_checks elf (symbol_table elf) in
    let relas = flat_map (rela_section_checks elf) (rela_sections elf) in
    let overlaps = flat_map (λ (row : ℕ × Shdr). overlap_checks elf (is_piece_in elf row.0) row.0) (numbered elf.sections) in
    let groups = group_checks_after elf [] (group_sections elf) in
    let front = table ++ sections ++ symbols_table in
    let first : first_fault (front ++ symbols) ≡ None =
    passed_before (front ++ symbols) relas
    (passed_before (front ++ symbols ++ relas) overlaps
    (passed_before (front ++ symbols ++ relas ++ overlaps) groups passes)) in
    record {
      pieces =
          pieces_are_sound elf
          (passed_each (section_checks elf) (numbered elf.sections)
          (passed_after table sections (passed_before (table ++ sections) symbols_table (passed_before front symbols first))));
      globals = globals_are_sound elf (passed_after front symbols first);
    }

no_fault_after : (o : Option InputFault) (bytes : List ℕ) → object_fault_after o bytes ≡ None → first_fault (object_checks (elf_of bytes)) ≡ None
no_fault_after None bytes e = e
no_fault_after (Some fault) bytes e = cc

-- so has an object without a fault
pub object_is_sound : (bytes : List ℕ) → object_fault bytes ≡ None → SoundSummary (summary_in (elf_of bytes))
unfolding object_fault
object_is_sound bytes e = passing_is_sound (elf_of bytes) (no_fault_after (first_fault (kind_checks bytes)) bytes e)

-- a shared object has no common block
not_common : (number : ℕ) → shared_home number ≡ home.Common → ⊥
not_common number is = go (number == shn_undef) (ap is_common_home is)
  where
    go : (b : Bool) → is_common_home (if b then home.Undefined else home.Shared) ≡ true → ⊥
    go true e = both_ways false refl e
    go false e = both_ways false refl e

shared_symbol_is_sound : (k : ℕ) (symbol : Sym) (name : Option (List ℕ)) → AllSome SoundGlobal (option_map (shared_global k symbol) name)
unfolding shared_global
shared_symbol_is_sound k symbol None = tt
shared_symbol_is_sound k symbol (Some name) = λ is. absurd (not_common symbol.st_shndx is)

offered_are_sound : (elf : Elf) (table : Option (ℕ × Shdr)) → AllByRecursion SoundGlobal (flat_map (λ (t : ℕ × Shdr). without_repeated (offered_under elf t)) (option_to_list table))
offered_are_sound elf None = tt
offered_are_sound elf (Some table) =
    let outer : ℕ × Sym → Bool = λ (row : ℕ × Sym). is_offered row.1 in
    let offered : List Global = offered_under elf table in
    let sound : AllByRecursion SoundGlobal offered =
    all_reported SoundGlobal (λ (row : ℕ × Sym). option_map (shared_global row.0 row.1) (name_of_symbol elf table.1.sh_link row.1)) (filter outer (symbols_under elf table))
    (all_always (λ (row : ℕ × Sym). shared_symbol_is_sound row.0 row.1 (name_of_symbol elf table.1.sh_link row.1)) (filter outer (symbols_under elf table))) in
    all_joined SoundGlobal (without_repeated offered) [] (all_filter SoundGlobal (λ (g : Global). not (is_repeated offered g)) offered sound) tt

-- its summary is sound, whatever it holds
pub shared_is_sound : (path : List ℕ) (elf : Elf) → SoundSummary (shared_summary_in path elf)
unfolding shared_summary_in shared_globals_in
shared_is_sound path elf = record { pieces = tt; globals = offered_are_sound elf (dynamic_symbol_table elf) }
