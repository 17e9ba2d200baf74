-- Symbols one after another: their names, those that are not LOCAL, those that are.
use Rattle.std.specs.Prelude.{◌≡◌, refl, ℕ, zero, suc, ◌+◌, ◌<◌, ◌≤◌, Bool, true, false, not, cond, List, [], ◌∷◌, ◌++◌, drop, filter, filter_map, length, slice_get, option_and_then, option_map, option_to_list, unwrap_or, Option, Some, None}
use Rattle.std.specs.List.{cons_option, enumerate_from}
use Rattle.std.proofs.Common.{ap, ◌∙◌, get_or}
use Rattle.std.proofs.lemmas.Option.{slice_get-get_or}
use Rattle.lk_elf.specs.Numbers.{sht_symtab}
use Rattle.lk_elf.specs.declared.file_header.Ehdr.{Ehdr}
use Rattle.lk_elf.specs.declared.section_header.Shdr.{Shdr}
use Rattle.lk_elf.specs.declared.symbol.Sym.{Sym}
use Rattle.lk_model.specs.declared.summaries.Global.{Global}
use Rattle.lk_model.specs.Elf.{first_of_type, name_at, name_of_symbol, symbol_name, symbol_table}
use Rattle.lk_model.specs.Objects.{global_with, is_local, local_in, local_with, null_symbol}
use Rattle.lk_model.specs.Views.{Elf}
use Rattle.lk_obj_parts.specs.ElfViews.{elf_from}
use Rattle.lk_obj_parts.specs.SymbolParts.{global_at, global_named, globals_from, local_among, name_in, strings_named}
use Rattle.lk_obj_parts.proofs.Rows.{rows_next, rows_done}

-- ---- names

-- the name of a symbol does not depend on the file's header and symbols
pub name_reported : (elf : Elf) (strings offset : ℕ) → name_at elf strings offset ≡ name_in elf.bytes elf.sections strings offset
unfolding name_at name_in
name_reported elf zero offset = refl
name_reported elf (suc n) offset = refl

name_under : (elf : Elf) (table : Option (ℕ × Shdr)) (symbol : Sym) → option_and_then (λ (t : ℕ × Shdr). option_and_then (name_of_symbol elf t.1.sh_link) (Some symbol)) table ≡ name_at elf (strings_named table) symbol.st_name
unfolding name_at
name_under elf None symbol = refl
name_under elf (Some table) symbol = refl

-- the name of a symbol is the one at its offset
pub symbol_reported : (elf : Elf) (k : ℕ) (d : Sym) → k < length elf.symbols → symbol_name elf k ≡ name_in elf.bytes elf.sections (strings_named (symbol_table elf)) (get_or elf.symbols k d).st_name
unfolding symbol_name
symbol_reported elf k d l =
    ap (λ (s : Option Sym). option_and_then (λ (t : ℕ × Shdr). option_and_then (name_of_symbol elf t.1.sh_link) s) (symbol_table elf)) (slice_get-get_or elf.symbols k d l)
    ∙ name_under elf (symbol_table elf) (get_or elf.symbols k d)
    ∙ name_reported elf (strings_named (symbol_table elf)) (get_or elf.symbols k d).st_name

-- ---- symbols that are not LOCAL

-- what a symbol adds to the list before those after it
added : (elf : Elf) (k : ℕ) (symbol : Sym) (t : Bool) (rows : List (ℕ × Sym)) → filter_map (λ (r : ℕ × Sym). option_map (global_with r.0 r.1) (symbol_name elf r.0)) (cond (not t) ((k, symbol) ∷ filter (λ (r : ℕ × Sym). not (is_local r.1)) rows) (filter (λ (r : ℕ × Sym). not (is_local r.1)) rows)) ≡ cons_option (cond t None (global_named k symbol (symbol_name elf k))) (filter_map (λ (r : ℕ × Sym). option_map (global_with r.0 r.1) (symbol_name elf r.0)) (filter (λ (r : ℕ × Sym). not (is_local r.1)) rows))
added elf k symbol true rows = refl
added elf k symbol false rows = refl

listed : (o : Option Global) (globals : List Global) → cons_option o globals ≡ option_to_list o ++ globals
listed None globals = refl
listed (Some g) globals = refl

-- the next symbol
pub next_global : (bytes : List ℕ) (header : Ehdr) (sections : List Shdr) (symbols : List Sym) (k : ℕ) (d : Sym) → k < length symbols → globals_from (elf_from bytes header sections symbols) k (drop k symbols) ≡ option_to_list (global_at bytes sections (strings_named (first_of_type sht_symtab sections)) k (get_or symbols k d)) ++ globals_from (elf_from bytes header sections symbols) (k + 1) (drop (k + 1) symbols)
unfolding global_at
next_global bytes header sections symbols k d l =
    ap (λ (rows : List (ℕ × Sym)). filter_map (λ (r : ℕ × Sym). option_map (global_with r.0 r.1) (symbol_name (elf_from bytes header sections symbols) r.0)) (filter (λ (r : ℕ × Sym). not (is_local r.1)) rows)) (rows_next k symbols d l)
    ∙ added (elf_from bytes header sections symbols) k (get_or symbols k d) (is_local (get_or symbols k d)) (enumerate_from (k + 1) (drop (k + 1) symbols))
    ∙ ap (λ name. cons_option (cond (is_local (get_or symbols k d)) None (global_named k (get_or symbols k d) name)) (globals_from (elf_from bytes header sections symbols) (k + 1) (drop (k + 1) symbols))) (symbol_reported (elf_from bytes header sections symbols) k d l)
    ∙ listed (global_at bytes sections (strings_named (first_of_type sht_symtab sections)) k (get_or symbols k d)) (globals_from (elf_from bytes header sections symbols) (k + 1) (drop (k + 1) symbols))

pub no_global_left : (elf : Elf) (k : ℕ) (symbols : List Sym) → length symbols ≤ k → globals_from elf k (drop k symbols) ≡ []
no_global_left elf k symbols l =
    ap (λ (rows : List (ℕ × Sym)). filter_map (λ (r : ℕ × Sym). option_map (global_with r.0 r.1) (symbol_name elf r.0)) (filter (λ (r : ℕ × Sym). not (is_local r.1)) rows)) (rows_done k symbols l)

-- ---- LOCAL symbols

-- a LOCAL symbol of a file is one of its symbols
pub local_reported : (elf : Elf) (symbols : List Sym) (k : ℕ) → elf.symbols ≡ symbols → local_in elf k ≡ local_among symbols k
unfolding local_in
local_reported elf symbols zero e = refl
local_reported elf symbols (suc k) e = ap (λ (xs : List Sym). unwrap_or (option_map local_with (slice_get xs (suc k))) null_symbol) e
