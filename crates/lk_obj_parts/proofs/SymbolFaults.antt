-- The first fault of the symbol table and of its symbols, part by part and symbol by symbol.
use Rattle.std.specs.Prelude.{◌≡◌, refl, ℕ, ◌+◌, ◌<◌, ◌≤◌, Bool, true, false, cond, List, ◌∷◌, ◌++◌, drop, filter, flat_map, length, map, Option, Some, None}
use Rattle.std.specs.List.{enumerate_from}
use Rattle.std.proofs.Common.{ap, ◌∙◌, sym, get_or}
use Rattle.lk_elf.specs.Numbers.{sht_symtab}
use Rattle.lk_elf.specs.declared.file_header.Ehdr.{Ehdr}
use Rattle.lk_elf.specs.declared.section_header.Shdr.{Shdr}
use Rattle.lk_elf.specs.declared.symbol.Sym.{Sym}
use Rattle.lk_report.specs.declared.faults.InputFault.{InputFault}
use Rattle.lk_report.specs.declared.faults.InputFault.TheVariants.{BadTable}
use Rattle.lk_model.specs.Checks.{first_fault}
use Rattle.lk_model.specs.Elf.{first_of_type, numbered, symbol_name, symbol_table}
use Rattle.lk_model.specs.ObjectChecks.{symbol_checks_from, symbol_checks_named, symbol_table_checks}
use Rattle.lk_model.specs.Views.{Elf}
use Rattle.lk_obj_parts.specs.ElfViews.{elf_from}
use Rattle.lk_obj_parts.specs.SymbolParts.{checks_in, entry_checks, faults_from, form_checks, is_table, refused_fault, name_in, refused_tables, side_checks, sort_checks, strings_named}
use Rattle.lk_obj_parts.proofs.FaultParts.{first_reported, then_reported}
use Rattle.lk_obj_parts.proofs.Headers.{section_reported}
use Rattle.lk_obj_parts.proofs.Rows.{rows_next, rows_done}
use Rattle.lk_obj_parts.proofs.SymbolRows.{symbol_reported}

-- ---- tables after the first

pub other_section : (seen : Bool) (n : ℕ) (sections : List Shdr) (d : Shdr) → n < length sections → is_table (n, get_or sections n d) ≡ false → refused_fault (refused_tables seen (enumerate_from n (drop n sections))) ≡ refused_fault (refused_tables seen (enumerate_from (n + 1) (drop (n + 1) sections)))
other_section true n sections d l e =
    ap (λ (rows : List (ℕ × Shdr)). refused_fault (filter is_table rows)) (rows_next n sections d l)
    ∙ ap (λ t. refused_fault (cond t ((n, get_or sections n d) ∷ filter is_table (enumerate_from (n + 1) (drop (n + 1) sections))) (filter is_table (enumerate_from (n + 1) (drop (n + 1) sections))))) e
other_section false n sections d l e =
    ap (λ (rows : List (ℕ × Shdr)). refused_fault (drop 1 (filter is_table rows))) (rows_next n sections d l)
    ∙ ap (λ t. refused_fault (drop 1 (cond t ((n, get_or sections n d) ∷ filter is_table (enumerate_from (n + 1) (drop (n + 1) sections))) (filter is_table (enumerate_from (n + 1) (drop (n + 1) sections)))))) e

pub first_table : (n : ℕ) (sections : List Shdr) (d : Shdr) → n < length sections → is_table (n, get_or sections n d) ≡ true → refused_fault (refused_tables false (enumerate_from n (drop n sections))) ≡ refused_fault (refused_tables true (enumerate_from (n + 1) (drop (n + 1) sections)))
first_table n sections d l e =
    ap (λ (rows : List (ℕ × Shdr)). refused_fault (drop 1 (filter is_table rows))) (rows_next n sections d l)
    ∙ ap (λ t. refused_fault (drop 1 (cond t ((n, get_or sections n d) ∷ filter is_table (enumerate_from (n + 1) (drop (n + 1) sections))) (filter is_table (enumerate_from (n + 1) (drop (n + 1) sections)))))) e

pub second_table : (n : ℕ) (sections : List Shdr) (d : Shdr) → n < length sections → is_table (n, get_or sections n d) ≡ true → refused_fault (refused_tables true (enumerate_from n (drop n sections))) ≡ Some (BadTable n)
second_table n sections d l e =
    ap (λ (rows : List (ℕ × Shdr)). refused_fault (filter is_table rows)) (rows_next n sections d l)
    ∙ ap (λ t. refused_fault (cond t ((n, get_or sections n d) ∷ filter is_table (enumerate_from (n + 1) (drop (n + 1) sections))) (filter is_table (enumerate_from (n + 1) (drop (n + 1) sections))))) e

pub no_table_left : (seen : Bool) (n : ℕ) (sections : List Shdr) → length sections ≤ n → refused_fault (refused_tables seen (enumerate_from n (drop n sections))) ≡ None
no_table_left true n sections l = ap (λ (rows : List (ℕ × Shdr)). refused_fault (filter is_table rows)) (rows_done n sections l)
no_table_left false n sections l = ap (λ (rows : List (ℕ × Shdr)). refused_fault (drop 1 (filter is_table rows))) (rows_done n sections l)

-- ---- the two parts of the table's checks

parts : (elf : Elf) (table : ℕ × Shdr) → symbol_table_checks elf (Some table) ≡ map (λ (row : ℕ × Shdr). (true, BadTable row.0)) (refused_tables false (numbered elf.sections)) ++ form_checks elf.sections (length elf.symbols) table.0 table.1
unfolding symbol_table_checks form_checks
parts elf table = rw (section_reported elf table.1.sh_link)

pub second_reported : (elf : Elf) (table : ℕ × Shdr) (f : InputFault) → refused_fault (refused_tables false (numbered elf.sections)) ≡ Some f → first_fault (symbol_table_checks elf (Some table)) ≡ Some f
second_reported elf table f e =
    ap first_fault (parts elf table)
    ∙ first_reported (map (λ (row : ℕ × Shdr). (true, BadTable row.0)) (refused_tables false (numbered elf.sections))) (form_checks elf.sections (length elf.symbols) table.0 table.1) f e

pub form_reported : (elf : Elf) (table : ℕ × Shdr) → refused_fault (refused_tables false (numbered elf.sections)) ≡ None → first_fault (symbol_table_checks elf (Some table)) ≡ first_fault (form_checks elf.sections (length elf.symbols) table.0 table.1)
form_reported elf table e =
    ap first_fault (parts elf table)
    ∙ then_reported (map (λ (row : ℕ × Shdr). (true, BadTable row.0)) (refused_tables false (numbered elf.sections))) (form_checks elf.sections (length elf.symbols) table.0 table.1) e

pub no_form : (elf : Elf) → first_fault (symbol_table_checks elf None) ≡ None
unfolding symbol_table_checks
no_form elf = refl

-- ---- the three parts of a symbol's checks

pub entry_reported : (sections : List Shdr) (first k : ℕ) (symbol : Sym) (name : Option (List ℕ)) (f : InputFault) → first_fault (entry_checks sections k symbol name) ≡ Some f → first_fault (checks_in sections first k symbol name) ≡ Some f
unfolding checks_in
entry_reported sections first k symbol name f e = first_reported (entry_checks sections k symbol name) (side_checks first k symbol name ++ sort_checks sections k symbol) f e

after_entry : (sections : List Shdr) (first k : ℕ) (symbol : Sym) (name : Option (List ℕ)) → first_fault (entry_checks sections k symbol name) ≡ None → first_fault (checks_in sections first k symbol name) ≡ first_fault (side_checks first k symbol name ++ sort_checks sections k symbol)
unfolding checks_in
after_entry sections first k symbol name e = then_reported (entry_checks sections k symbol name) (side_checks first k symbol name ++ sort_checks sections k symbol) e

pub side_reported : (sections : List Shdr) (first k : ℕ) (symbol : Sym) (name : Option (List ℕ)) (f : InputFault) → first_fault (entry_checks sections k symbol name) ≡ None → first_fault (side_checks first k symbol name) ≡ Some f → first_fault (checks_in sections first k symbol name) ≡ Some f
side_reported sections first k symbol name f e s =
    after_entry sections first k symbol name e
    ∙ first_reported (side_checks first k symbol name) (sort_checks sections k symbol) f s

pub sort_reported : (sections : List Shdr) (first k : ℕ) (symbol : Sym) (name : Option (List ℕ)) → first_fault (entry_checks sections k symbol name) ≡ None → first_fault (side_checks first k symbol name) ≡ None → first_fault (checks_in sections first k symbol name) ≡ first_fault (sort_checks sections k symbol)
sort_reported sections first k symbol name e s =
    after_entry sections first k symbol name e
    ∙ then_reported (side_checks first k symbol name) (sort_checks sections k symbol) s

-- ---- symbol after symbol

-- the checks of a symbol look at the sections, and at nothing else of its file
checks_reported : (elf : Elf) (first k : ℕ) (symbol : Sym) (name : Option (List ℕ)) → symbol_checks_named elf first k symbol name ≡ checks_in elf.sections first k symbol name
unfolding symbol_checks_named checks_in entry_checks side_checks sort_checks
checks_reported elf first k symbol name = rw (section_reported elf symbol.st_shndx)

-- the checks of a symbol, with the name at its offset
made : (elf : Elf) (strings first k : ℕ) (d : Sym) → k < length elf.symbols → strings ≡ strings_named (symbol_table elf) → symbol_checks_from elf first (k, get_or elf.symbols k d) ≡ checks_in elf.sections first k (get_or elf.symbols k d) (name_in elf.bytes elf.sections strings (get_or elf.symbols k d).st_name)
made elf strings first k d l e =
    checks_reported elf first k (get_or elf.symbols k d) (symbol_name elf k)
    ∙ ap (checks_in elf.sections first k (get_or elf.symbols k d)) (symbol_reported elf k d l)
    ∙ ap (λ n. checks_in elf.sections first k (get_or elf.symbols k d) (name_in elf.bytes elf.sections n (get_or elf.symbols k d).st_name)) (sym e)

step : (elf : Elf) (first k : ℕ) (symbols : List Sym) (d : Sym) → k < length symbols → faults_from elf first k (drop k symbols) ≡ first_fault (symbol_checks_from elf first (k, get_or symbols k d) ++ flat_map (symbol_checks_from elf first) (enumerate_from (k + 1) (drop (k + 1) symbols)))
unfolding faults_from
step elf first k symbols d l = ap (λ (rows : List (ℕ × Sym)). first_fault (flat_map (symbol_checks_from elf first) rows)) (rows_next k symbols d l)

pub fault_here : (bytes : List ℕ) (header : Ehdr) (sections : List Shdr) (symbols : List Sym) (strings first k : ℕ) (d : Sym) (f : InputFault) → k < length symbols → strings ≡ strings_named (first_of_type sht_symtab sections) → first_fault (checks_in sections first k (get_or symbols k d) (name_in bytes sections strings (get_or symbols k d).st_name)) ≡ Some f → faults_from (elf_from bytes header sections symbols) first k (drop k symbols) ≡ Some f
fault_here bytes header sections symbols strings first k d f l e s =
    step (elf_from bytes header sections symbols) first k symbols d l
    ∙ first_reported (symbol_checks_from (elf_from bytes header sections symbols) first (k, get_or symbols k d)) (flat_map (symbol_checks_from (elf_from bytes header sections symbols) first) (enumerate_from (k + 1) (drop (k + 1) symbols))) f (ap first_fault (made (elf_from bytes header sections symbols) strings first k d l e) ∙ s)

pub no_fault_here : (bytes : List ℕ) (header : Ehdr) (sections : List Shdr) (symbols : List Sym) (strings first k : ℕ) (d : Sym) → k < length symbols → strings ≡ strings_named (first_of_type sht_symtab sections) → first_fault (checks_in sections first k (get_or symbols k d) (name_in bytes sections strings (get_or symbols k d).st_name)) ≡ None → faults_from (elf_from bytes header sections symbols) first k (drop k symbols) ≡ faults_from (elf_from bytes header sections symbols) first (k + 1) (drop (k + 1) symbols)
unfolding faults_from
no_fault_here bytes header sections symbols strings first k d l e s =
    step (elf_from bytes header sections symbols) first k symbols d l
    ∙ then_reported (symbol_checks_from (elf_from bytes header sections symbols) first (k, get_or symbols k d)) (flat_map (symbol_checks_from (elf_from bytes header sections symbols) first) (enumerate_from (k + 1) (drop (k + 1) symbols))) (ap first_fault (made (elf_from bytes header sections symbols) strings first k d l e) ∙ s)

pub no_symbol_left : (elf : Elf) (first k : ℕ) (symbols : List Sym) → length symbols ≤ k → faults_from elf first k (drop k symbols) ≡ None
unfolding faults_from
no_symbol_left elf first k symbols l = ap (λ (rows : List (ℕ × Sym)). first_fault (flat_map (symbol_checks_from elf first) rows)) (rows_done k symbols l)
