-- The symbols of a table one after another: the first without a name, and what is kept of them.
use Rattle.std.specs.Prelude.{◌≡◌, refl, ℕ, zero, suc, ◌+◌, ◌-◌, ◌*◌, ◌<◌, ◌≤◌, Bool, true, false, cond, if◌then◌else◌, List, [], ◌∷◌, drop, filter, filter_map, fold, is_none, map, option_map, Option, Some, None}
use Rattle.std.specs.List.{cons_option, enumerate_from, range_with_len}
use Rattle.std.proofs.Common.{ap, arith, subst, sym, ◌∙◌}
use Rattle.lk_elf.specs.Numbers.{sym_size}
use Rattle.lk_elf.specs.Records.{sym_at}
use Rattle.lk_elf.specs.declared.section_header.Shdr.{Shdr}
use Rattle.lk_elf.specs.declared.symbol.Sym.{Sym}
use Rattle.lk_report.specs.declared.faults.InputFault.TheVariants.{BadName}
use Rattle.lk_model.specs.declared.summaries.Global.{Global}
use Rattle.lk_model.specs.Checks.{first_fault}
use Rattle.lk_model.specs.Elf.{elf_of, elf_under, elf_with, name_of_symbol, symbols_of}
use Rattle.lk_model.specs.SharedChecks.{shared_name_checks}
use Rattle.lk_model.specs.SharedObjects.{is_offered, offered_under, shared_global, symbols_under, without_repeated}
use Rattle.lk_model.specs.Views.{Elf}
use Rattle.lk_so_read.specs.OfferedSymbols.{Kept, with_global, with_symbol}
use Rattle.lk_so_read.specs.SymbolRows.{kept_after, kept_named, name_fault, rows_from, symbol_count}
use Rattle.lk_so_read.proofs.FirstDefinitions.{From, first_kept}

-- ---- the rows

next : (bytes : List ℕ) (header : Shdr) (k n : ℕ) → k < n → rows_from bytes header k (n - k) ≡ (k, sym_at bytes (header.sh_offset + sym_size * k)) ∷ rows_from bytes header (k + 1) (n - (k + 1))
next bytes header k n l = let more : n - k ≡ suc (n - (k + 1)) = omega (arith, l) in ap (rows_from bytes header k) more

done : (bytes : List ℕ) (header : Shdr) (k n : ℕ) → n ≤ k → rows_from bytes header k (n - k) ≡ []
done bytes header k n l = let none : n - k ≡ 0 = omega (arith, l) in ap (rows_from bytes header k) none

numbered : (bytes : List ℕ) (header : Shdr) (k m : ℕ) → enumerate_from k (map (λ n. sym_at bytes (header.sh_offset + sym_size * n)) (range_with_len k m)) ≡ rows_from bytes header k m
numbered bytes header k zero = refl
numbered bytes header k (suc m) = ap (λ (rest : List (ℕ × Sym)). (k, sym_at bytes (header.sh_offset + sym_size * k)) ∷ rest) (numbered bytes header (k + 1) m)

after-first : (bytes : List ℕ) (header : Shdr) (n : ℕ) → enumerate_from 1 (drop 1 (map (λ k. sym_at bytes (header.sh_offset + sym_size * k)) (range_with_len 0 n))) ≡ rows_from bytes header 1 (n - 1)
after-first bytes header zero = refl
after-first bytes header (suc m) =
    let less : m ≡ suc m - 1 = omega arith in numbered bytes header 1 m ∙ ap (rows_from bytes header 1) less

rows-read : (elf : Elf) (table : ℕ × Shdr) → symbols_under elf table ≡ rows_from elf.bytes table.1 1 (symbol_count elf.bytes table.1 - 1)
unfolding symbols_of
rows-read elf table = after-first elf.bytes table.1 (symbol_count elf.bytes table.1)

-- ---- names

pub no_name_here : (elf : Elf) (table : ℕ × Shdr) (bytes : List ℕ) (k n : ℕ) (symbol : Sym) → k < n → symbol ≡ sym_at bytes (table.1.sh_offset + sym_size * k) → name_of_symbol elf table.1.sh_link symbol ≡ None → name_fault elf table (rows_from bytes table.1 k (n - k)) ≡ Some (BadName table.0)
unfolding name_fault
no_name_here elf table bytes k n symbol l e none =
    ap (name_fault elf table) (next bytes table.1 k n l)
    ∙ ap (λ (s : Sym). cond (is_none (name_of_symbol elf table.1.sh_link s)) (Some (BadName table.0)) (name_fault elf table (rows_from bytes table.1 (k + 1) (n - (k + 1))))) (sym e)
    ∙ ap (λ (o : Option (List ℕ)). cond (is_none o) (Some (BadName table.0)) (name_fault elf table (rows_from bytes table.1 (k + 1) (n - (k + 1))))) none

pub named_here : (elf : Elf) (table : ℕ × Shdr) (bytes : List ℕ) (k n : ℕ) (symbol : Sym) (name : List ℕ) → k < n → symbol ≡ sym_at bytes (table.1.sh_offset + sym_size * k) → name_of_symbol elf table.1.sh_link symbol ≡ Some name → name_fault elf table (rows_from bytes table.1 k (n - k)) ≡ name_fault elf table (rows_from bytes table.1 (k + 1) (n - (k + 1)))
unfolding name_fault
named_here elf table bytes k n symbol name l e some =
    ap (name_fault elf table) (next bytes table.1 k n l)
    ∙ ap (λ (s : Sym). cond (is_none (name_of_symbol elf table.1.sh_link s)) (Some (BadName table.0)) (name_fault elf table (rows_from bytes table.1 (k + 1) (n - (k + 1))))) (sym e)
    ∙ ap (λ (o : Option (List ℕ)). cond (is_none o) (Some (BadName table.0)) (name_fault elf table (rows_from bytes table.1 (k + 1) (n - (k + 1))))) some

pub no_row_left : (elf : Elf) (table : ℕ × Shdr) (bytes : List ℕ) (k n : ℕ) → n ≤ k → name_fault elf table (rows_from bytes table.1 k (n - k)) ≡ None
unfolding name_fault
no_row_left elf table bytes k n l = ap (name_fault elf table) (done bytes table.1 k n l)

names-read : (elf : Elf) (table : ℕ × Shdr) → first_fault (shared_name_checks elf (Some table)) ≡ name_fault elf table (rows_from elf.bytes table.1 1 (symbol_count elf.bytes table.1 - 1))
unfolding shared_name_checks name_fault
names-read elf table = ap (name_fault elf table) (rows-read elf table)

-- ---- what is kept

pub kept_here : (elf : Elf) (header : Shdr) (bytes : List ℕ) (k n : ℕ) (kept : Kept) (symbol : Sym) (name : List ℕ) → k < n → symbol ≡ sym_at bytes (header.sh_offset + sym_size * k) → name_of_symbol elf header.sh_link symbol ≡ Some name → kept_after elf header.sh_link kept (rows_from bytes header k (n - k)) ≡ kept_after elf header.sh_link (with_symbol kept k symbol name) (rows_from bytes header (k + 1) (n - (k + 1)))
unfolding kept_after
kept_here elf header bytes k n kept symbol name l e some =
    ap (kept_after elf header.sh_link kept) (next bytes header k n l)
    ∙ ap (λ (s : Sym). kept_after elf header.sh_link (kept_named kept (k, s) (name_of_symbol elf header.sh_link s)) (rows_from bytes header (k + 1) (n - (k + 1)))) (sym e)
    ∙ ap (λ (o : Option (List ℕ)). kept_after elf header.sh_link (kept_named kept (k, symbol) o) (rows_from bytes header (k + 1) (n - (k + 1)))) some

pub kept_left : (elf : Elf) (header : Shdr) (bytes : List ℕ) (k n : ℕ) (kept : Kept) → n ≤ k → kept_after elf header.sh_link kept (rows_from bytes header k (n - k)) ≡ kept
unfolding kept_after
kept_left elf header bytes k n kept l = ap (kept_after elf header.sh_link kept) (done bytes header k n l)

-- ---- all of them

-- a row as a symbol of the shared object, if it has a name
abbrev named : Elf → ℕ → ℕ × Sym → Option Global
named elf strings row = option_map (shared_global row.0 row.1) (name_of_symbol elf strings row.1)

-- those of these rows that other files may mean
abbrev offered_of : Elf → ℕ → List (ℕ × Sym) → List Global
offered_of elf strings rows = filter_map (named elf strings) (filter (λ (row : ℕ × Sym). is_offered row.1) rows)

-- what is kept with one more row, which other files may mean or not
abbrev kept_if : Bool → Kept → ℕ × Sym → Option (List ℕ) → Kept
kept_if offered kept row None = kept
kept_if offered kept row (Some name) = if offered then with_global kept (shared_global row.0 row.1 name) else kept

if-offered : (kept : Kept) (row : ℕ × Sym) (o : Option (List ℕ)) → kept_named kept row o ≡ kept_if (is_offered row.1) kept row o
if-offered kept row None = refl
if-offered kept row (Some name) = refl

one-more : (offered : Bool) (kept : Kept) (row : ℕ × Sym) (o : Option (List ℕ)) (rest : List Global) → fold with_global (kept_if offered kept row o) rest ≡ fold with_global kept (cond offered (cons_option (option_map (shared_global row.0 row.1) o) rest) rest)
one-more true kept row None rest = refl
one-more true kept row (Some name) rest = refl
one-more false kept row None rest = refl
one-more false kept row (Some name) rest = refl

chosen : (offered : Bool) (h : ℕ × Sym → Option Global) (row : ℕ × Sym) (rows : List (ℕ × Sym)) → cond offered (cons_option (h row) (filter_map h rows)) (filter_map h rows) ≡ filter_map h (cond offered (row ∷ rows) rows)
chosen true h row rows = refl
chosen false h row rows = refl

folded : (elf : Elf) (strings : ℕ) (kept : Kept) (rows : List (ℕ × Sym)) → kept_after elf strings kept rows ≡ fold with_global kept (offered_of elf strings rows)
unfolding kept_after
folded elf strings kept [] = refl
folded elf strings kept (row ∷ rows) =
    let passing : List (ℕ × Sym) = filter (λ (r : ℕ × Sym). is_offered r.1) rows in
    folded elf strings (kept_named kept row (name_of_symbol elf strings row.1)) rows
    ∙ ap (λ (s : Kept). fold with_global s (offered_of elf strings rows)) (if-offered kept row (name_of_symbol elf strings row.1))
    ∙ one-more (is_offered row.1) kept row (name_of_symbol elf strings row.1) (offered_of elf strings rows)
    ∙ ap (fold with_global kept) (chosen (is_offered row.1) (named elf strings) row passing)

-- their numbers rise
from-below : (n m : ℕ) (gs : List Global) → n ≤ m → From m gs → From n gs
from-below n m [] l rise = tt
from-below n m (g ∷ gs) l rise = let first = rise.0 in (omega (arith, first, l), rise.1)

from-one : (offered : Bool) (n : ℕ) (symbol : Sym) (o : Option (List ℕ)) (rest : List Global) → From (n + 1) rest → From n (cond offered (cons_option (option_map (shared_global n symbol) o) rest) rest)
unfolding shared_global
from-one true n symbol None rest rise = from-below n (n + 1) rest (omega arith) rise
from-one true n symbol (Some name) rest rise = (omega arith, rise)
from-one false n symbol o rest rise = from-below n (n + 1) rest (omega arith) rise

rising : (elf : Elf) (strings n : ℕ) (symbols : List Sym) → From n (offered_of elf strings (enumerate_from n symbols))
rising elf strings n [] = tt
rising elf strings n (symbol ∷ symbols) =
    let rest = rising elf strings (n + 1) symbols in
    let passing : List (ℕ × Sym) = filter (λ (r : ℕ × Sym). is_offered r.1) (enumerate_from (n + 1) symbols) in
    subst (From n) (chosen (is_offered symbol) (named elf strings) (n, symbol) passing) (from-one (is_offered symbol) n symbol (name_of_symbol elf strings symbol) (offered_of elf strings (enumerate_from (n + 1) symbols)) rest)

all-kept : (elf : Elf) (table : ℕ × Shdr) → (kept_after elf table.1.sh_link ([], []) (rows_from elf.bytes table.1 1 (symbol_count elf.bytes table.1 - 1))).0 ≡ without_repeated (offered_under elf table)
all-kept elf table =
    ap (λ (rows : List (ℕ × Sym)). (kept_after elf table.1.sh_link ([], []) rows).0) (sym (rows-read elf table))
    ∙ ap (λ (s : Kept). s.0) (folded elf table.1.sh_link ([], []) (symbols_under elf table))
    ∙ first_kept 1 (offered_under elf table) (rising elf table.1.sh_link 1 (drop 1 (symbols_of elf.bytes (Some table))))

-- ---- of the file that bytes are

pub names_of_file : (bytes : List ℕ) (table : ℕ × Shdr) (count : ℕ) → count ≡ symbol_count bytes table.1 → first_fault (shared_name_checks (elf_of bytes) (Some table)) ≡ name_fault (elf_of bytes) table (rows_from bytes table.1 1 (count - 1))
unfolding elf_of elf_under elf_with
names_of_file bytes table count e =
    names-read (elf_of bytes) table ∙ ap (λ n. name_fault (elf_of bytes) table (rows_from bytes table.1 1 (n - 1))) (sym e)

pub kept_of_file : (bytes : List ℕ) (table : ℕ × Shdr) (count : ℕ) → count ≡ symbol_count bytes table.1 → (kept_after (elf_of bytes) table.1.sh_link ([], []) (rows_from bytes table.1 1 (count - 1))).0 ≡ without_repeated (offered_under (elf_of bytes) table)
unfolding elf_of elf_under elf_with
kept_of_file bytes table count e =
    ap (λ n. (kept_after (elf_of bytes) table.1.sh_link ([], []) (rows_from bytes table.1 1 (n - 1))).0) e ∙ all-kept (elf_of bytes) table
