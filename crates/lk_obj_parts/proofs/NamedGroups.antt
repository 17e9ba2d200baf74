-- The symbol table of a file, names of symbols, signatures.
use Rattle.std.specs.Prelude.{◌≡◌, refl, ℕ, zero, suc, ◌+◌, ◌<◌, ◌≤◌, ◌==◌, Bool, true, false, cond, List, [], ◌∷◌, drop, find, length, slice_get, Option, Some, None, option_map, option_and_then}
use Rattle.std.specs.List.{enumerate_from}
use Rattle.std.proofs.Common.{ap, ◌∙◌, sym, arith, add-one, get_or, drop-cons}
use Rattle.std.proofs.lemmas.List.{drop_all}
use Rattle.lk_elf.specs.Numbers.{sht_symtab}
use Rattle.lk_elf.specs.declared.section_header.Shdr.{Shdr}
use Rattle.lk_model.specs.Checks.{is_some_with}
use Rattle.lk_model.specs.ObjectChecks.{is_symbol_table}
use Rattle.lk_model.specs.Elf.{name_of_symbol, symbol_name, symbol_table}
use Rattle.lk_model.specs.Objects.{name_or_section, signature_of, signature_with}
use Rattle.lk_model.specs.Views.{Elf}
use Rattle.lk_model.specs.declared.summaries.Home.{Home}
use Rattle.lk_obj_parts.specs.GroupMarks.{is_table_at}
use Rattle.lk_obj_parts.specs.SymbolTables.{place_of_table, symbols_at, symbols_from}
use Rattle.lk_obj_parts.specs.declared.symbol_tables.SymbolsAt.{SymbolsAt}

-- ---- the symbol table, section after section

step : (i : ℕ) (headers : List Shdr) (d : Shdr) → i < length headers → symbols_from i (drop i headers) ≡ cond ((get_or headers i d).sh_type == sht_symtab) (Some (place_of_table (i, get_or headers i d))) (symbols_from (i + 1) (drop (i + 1) headers))
unfolding symbols_from
step i headers d l =
    ap (symbols_from i) (drop-cons headers i d l)
    ∙ ap (λ n. symbols_from i (get_or headers i d ∷ drop n headers)) (sym (add-one i))
    ∙ first ((get_or headers i d).sh_type == sht_symtab) (i, get_or headers i d) (find (λ (row : ℕ × Shdr). row.1.sh_type == sht_symtab) (enumerate_from (i + 1) (drop (i + 1) headers)))
  where
    first : (t : Bool) (row : ℕ × Shdr) (o : Option (ℕ × Shdr)) → option_map place_of_table (cond t (Some row) o) ≡ cond t (Some (place_of_table row)) (option_map place_of_table o)
    first true row o = refl
    first false row o = refl

pub table_here : (i : ℕ) (headers : List Shdr) (d : Shdr) → i < length headers → ((get_or headers i d).sh_type == sht_symtab) ≡ true → symbols_from i (drop i headers) ≡ Some (place_of_table (i, get_or headers i d))
table_here i headers d l e =
    step i headers d l ∙ ap (λ t. cond t (Some (place_of_table (i, get_or headers i d))) (symbols_from (i + 1) (drop (i + 1) headers))) e

pub no_table_here : (i : ℕ) (headers : List Shdr) (d : Shdr) → i < length headers → ((get_or headers i d).sh_type == sht_symtab) ≡ false → symbols_from i (drop i headers) ≡ symbols_from (i + 1) (drop (i + 1) headers)
no_table_here i headers d l e =
    step i headers d l ∙ ap (λ t. cond t (Some (place_of_table (i, get_or headers i d))) (symbols_from (i + 1) (drop (i + 1) headers))) e

pub no_table_left : (i : ℕ) (headers : List Shdr) → length headers ≤ i → symbols_from i (drop i headers) ≡ None
unfolding symbols_from
no_table_left i headers l = ap (symbols_from i) (drop_all i headers l)

-- ---- names of symbols

by_table : (elf : Elf) (o : Option (ℕ × Shdr)) (k : ℕ) → option_and_then (λ (table : ℕ × Shdr). option_and_then (name_of_symbol elf table.1.sh_link) (slice_get elf.symbols k)) o ≡ option_and_then (λ (table : SymbolsAt). option_and_then (name_of_symbol elf table.strings) (slice_get elf.symbols k)) (option_map place_of_table o)
by_table elf None k = refl
by_table elf (Some row) k = refl

with_table : (elf : Elf) (k : ℕ) → symbol_name elf k ≡ option_and_then (λ (table : SymbolsAt). option_and_then (name_of_symbol elf table.strings) (slice_get elf.symbols k)) (symbols_at elf.sections)
unfolding symbol_name symbols_from
with_table elf k = by_table elf (symbol_table elf) k

pub name_reported : (elf : Elf) (k : ℕ) (table : SymbolsAt) → Some table ≡ symbols_at elf.sections → symbol_name elf k ≡ option_and_then (name_of_symbol elf table.strings) (slice_get elf.symbols k)
name_reported elf k table e =
    with_table elf k ∙ ap (option_and_then (λ (t : SymbolsAt). option_and_then (name_of_symbol elf t.strings) (slice_get elf.symbols k))) (sym e)

pub no_name : (elf : Elf) (k : ℕ) → None ≡ symbols_at elf.sections → symbol_name elf k ≡ None
no_name elf k e =
    with_table elf k ∙ ap (option_and_then (λ (t : SymbolsAt). option_and_then (name_of_symbol elf t.strings) (slice_get elf.symbols k))) (sym e)

-- ---- signatures

pub named_by_itself : (elf : Elf) (home : Home) (name : List ℕ) → 0 < length name → name_or_section elf home name ≡ Some name
named_by_itself elf home [] l = absurd (omega (arith, l))
named_by_itself elf home (b ∷ bs) l = refl

pub signature_reported : (elf : Elf) (k : ℕ) → 0 < k → signature_of elf k ≡ option_and_then (signature_with elf k) (slice_get elf.symbols k)
unfolding signature_of
signature_reported elf zero l = absurd (omega (arith, l))
signature_reported elf (suc k) l = refl

-- ---- the symbol table by its number

is_table_of : (o : Option (ℕ × Shdr)) (n : ℕ) → is_some_with (λ (row : ℕ × Shdr). row.0 == n) o ≡ is_some_with (λ (t : SymbolsAt). t.section == n) (option_map place_of_table o)
is_table_of None n = refl
is_table_of (Some row) n = refl

pub is_table_reported : (elf : Elf) (n : ℕ) → is_symbol_table elf n ≡ is_table_at (symbols_at elf.sections) n
unfolding symbols_from
is_table_reported elf n = is_table_of (symbol_table elf) n
