-- What is kept of a shared object fits the fields of its records (gABI "Symbol Table", "Dynamic Section"),
-- whatever the file holds.
use Rattle.std.specs.Prelude.{◌≡◌, refl, ℕ, zero, suc, ◌-◌, ◌^◌, ◌<◌, ◌==◌, Bool, true, false, not, if◌then◌else◌, List, [], ◌∷◌, ◌++◌, drop, filter, flat_map, length, Option, Some, None, option_and_then, option_map, option_to_list, unwrap_or}
use Rattle.std.specs.List.{AllByRecursion, IsDistinct, suffix_len}
use Rattle.std.proofs.Common.{arith, subst, ap}
use Rattle.std.proofs.lemmas.Bool.{or_parts}
use Rattle.lk_elf.specs.declared.section_header.Shdr.{Shdr}
use Rattle.lk_elf.specs.declared.symbol.Sym.{Sym}
use Rattle.lk_model.specs.Elf.{name_at, name_of_symbol, symbols_of}
use Rattle.lk_model.specs.DynamicEntries.{first_with_tag}
use Rattle.lk_model.specs.Objects.{binding_of, type_of}
use Rattle.lk_model.specs.SharedObjects.{dynamic_section, dynamic_symbol_table, entries_under, is_offered, is_repeated, last_part, offered_under, shared_global, shared_globals_in, shared_home, shared_summary_in, soname_of, soname_under, symbols_under, without_repeated}
use Rattle.lk_model.specs.Views.{Elf}
use Rattle.lk_model.specs.declared.summaries.Global.{Global}
use Rattle.lk_model.specs.declared.summaries.Home.TheVariants as home
use Rattle.lk_model.proofs.Rising.{all_filter}
use Rattle.lk_law_records.specs.Recordable.{GlobalFits, HomeFits, SummaryFits, has_zero}
use Rattle.lk_law_records.proofs.ByteNumbers.{IsLowElf, IsLowSym, symbols-few, symbols-low}
use Rattle.lk_law_records.proofs.HeaderNumbers.{either-low}
use Rattle.lk_law_records.proofs.Lists.{all-append, all-drop, all-found, all-numbered, and-then, found-in-map, length-drop-most, length-enumerated, length-found, length-passing}
use Rattle.lk_law_records.proofs.ReadNames.{name-clean}

-- ---- symbols

home-fits : (n : ℕ) → HomeFits (shared_home n)
home-fits n = go (n == 0)
  where
    go : (b : Bool) → HomeFits (if b then home.Undefined else home.Shared)
    go true = tt
    go false = tt

global-fits : (k : ℕ) (s : Sym) (name : List ℕ) → k < 2 ^ 32 → IsLowSym s → has_zero name ≡ false → GlobalFits (shared_global k s name)
unfolding shared_global
global-fits k s name few low clean =
    let info = low.info in
    record {
      symbol = few;
      name = clean;
      binding = either-low (binding_of s == 10) 1 (binding_of s) 256 (omega arith) (omega (arith, info));
      code = either-low (type_of s == 10) 2 (type_of s) 256 (omega arith) (omega arith);
      visibility = omega arith;
      home = home-fits s.st_shndx;
      value = low.value;
      size = low.size;
    }

abbrev found_global : Elf → ℕ → ℕ × Sym → Option Global
found_global elf link row = option_map (shared_global row.0 row.1) (name_of_symbol elf link row.1)

global-found : (elf : Elf) (link k : ℕ) (s : Sym) (g : Global) → k < 2 ^ 32 → IsLowSym s → found_global elf link (k, s) ≡ Some g → GlobalFits g
global-found elf link k s g few low e =
    let found = found-in-map (shared_global k s) (name_of_symbol elf link s) g e in
    subst GlobalFits found.1.1 (global-fits k s found.0 few low (name-clean elf link s.st_name found.0 found.1.0))

offered-fit : (elf : Elf) (table : ℕ × Shdr) → IsLowElf elf → AllByRecursion GlobalFits (offered_under elf table)
offered-fit elf table low =
    let syms = symbols_of elf.bytes (Some table) in
    let few = symbols-few elf.bytes (Some table) in
    let short = low.size in
    let most = length-drop-most 1 syms in
    let numbered = all-numbered IsLowSym 1 (2 ^ 32) (drop 1 syms) (omega (arith, few, short, most)) (all-drop IsLowSym 1 syms (symbols-low elf.bytes (Some table) low.are)) in
    let outer : ℕ × Sym → Bool = λ row. is_offered row.1 in
    all-found (λ (row : ℕ × Sym). (row.0 < 2 ^ 32) × IsLowSym row.1) GlobalFits (found_global elf table.1.sh_link) (filter outer (symbols_under elf table))
    (λ row own g e. global-found elf table.1.sh_link row.0 row.1 g own.0 own.1 e)
    (all_filter (λ (row : ℕ × Sym). (row.0 < 2 ^ 32) × IsLowSym row.1) outer (symbols_under elf table) numbered)

offered-few : (elf : Elf) (table : ℕ × Shdr) → IsLowElf elf → length (offered_under elf table) < 2 ^ 32
offered-few elf table low =
    let syms = symbols_of elf.bytes (Some table) in
    let few = symbols-few elf.bytes (Some table) in
    let short = low.size in
    let most = length-drop-most 1 syms in
    let outer : ℕ × Sym → Bool = λ row. is_offered row.1 in
    let found = length-found (found_global elf table.1.sh_link) (filter outer (symbols_under elf table)) in
    let passing = length-passing outer (symbols_under elf table) in
    let count = length-enumerated 1 (drop 1 syms) in
    omega (arith, few, short, most, found, passing, count)

-- the symbols of the one table, where there is one
one-table : (elf : Elf) (table : Option (ℕ × Shdr)) → IsLowElf elf
    → AllByRecursion GlobalFits (flat_map (λ (row : ℕ × Shdr). without_repeated (offered_under elf row)) (option_to_list table))
one-table elf None low = tt
one-table elf (Some table) low =
    let all = offered_under elf table in
    all-append GlobalFits (without_repeated all) [] (all_filter GlobalFits (λ (g : Global). not (is_repeated all g)) all (offered-fit elf table low)) tt

length-alone : {X : Type 0} (xs : List X) → length (xs ++ []) ≡ length xs
length-alone [] = refl
length-alone (x ∷ xs) = ap suc (length-alone xs)

one-table-few : (elf : Elf) (table : Option (ℕ × Shdr)) → IsLowElf elf
    → length (flat_map (λ (row : ℕ × Shdr). without_repeated (offered_under elf row)) (option_to_list table)) < 2 ^ 32
one-table-few elf None low = omega arith
one-table-few elf (Some table) low =
    let all = offered_under elf table in
    let alone = length-alone (without_repeated all) in
    let passing = length-passing (λ (g : Global). not (is_repeated all g)) all in
    let few = offered-few elf table low in
    omega (arith, alone, passing, few)

-- ---- the name

-- a part of a text behind a place has no zero where the text has none
drop-clean : (k : ℕ) (t : List ℕ) → has_zero t ≡ false → has_zero (drop k t) ≡ false
drop-clean zero t clean = clean
drop-clean (suc k) [] clean = refl
drop-clean (suc k) (b ∷ t) clean = drop-clean k t (or_parts (b == 0) (has_zero t) clean).1

soname-clean : (path : List ℕ) (elf : Elf) → has_zero path ≡ false → has_zero (soname_of path elf) ≡ false
unfolding soname_of
soname-clean path elf clean = go (option_and_then (soname_under elf) (dynamic_section elf)) refl
  where
    go : (o : Option (List ℕ)) → option_and_then (soname_under elf) (dynamic_section elf) ≡ o → has_zero (unwrap_or o (last_part path)) ≡ false
    go None e = drop-clean (length path - suffix_len (λ b. not (b == 47)) path) path clean
    go (Some t) e =
        let table = and-then (dynamic_section elf) (soname_under elf) t e in
        let offset = and-then (first_with_tag 14 (entries_under elf table.0.1)) (name_at elf table.0.1.sh_link) t table.1.1 in
        name-clean elf table.0.1.sh_link offset.0 t offset.1.1

-- ---- the whole

pub shared-fits : (path : List ℕ) (elf : Elf) → has_zero path ≡ false → IsLowElf elf → SummaryFits (shared_summary_in path elf)
unfolding shared_summary_in shared_globals_in IsDistinct
shared-fits path elf clean low = record {
  soname = soname-clean path elf clean;
  piece_count = omega arith;
  pieces = tt;
  sections = tt;
  global_count = one-table-few elf (dynamic_symbol_table elf) low;
  globals = one-table elf (dynamic_symbol_table elf) low;
  group_count = omega arith;
  groups = tt;
}
