-- The targets of relocations: pieces by name, type and flags; and the number of the symbol table.
use Rattle.std.specs.Prelude.{◌≡◌, refl, ℕ, ◌+◌, ◌==◌, ◌<◌, ◌≤◌, Bool, true, false, cond, List, [], ◌∷◌, drop, find, length, Option, Some, None, is_some, option_and_then, option_map}
use Rattle.std.specs.Bool.{then_some}
use Rattle.std.specs.List.{enumerate_from}
use Rattle.std.proofs.Common.{ap, ◌∙◌, sym, get_or, drop-cons, add-one}
use Rattle.std.proofs.lemmas.List.{drop_all}
use Rattle.lk_elf.specs.Numbers.{sht_symtab}
use Rattle.lk_elf.specs.declared.file_header.Ehdr.{Ehdr}
use Rattle.lk_elf.specs.declared.section_header.Shdr.{Shdr}
use Rattle.lk_elf.specs.declared.symbol.Sym.{Sym}
use Rattle.lk_model.specs.Checks.{is_some_with}
use Rattle.lk_model.specs.Elf.{section_at, section_name, symbol_table}
use Rattle.lk_model.specs.ObjectChecks.{is_symbol_table}
use Rattle.lk_model.specs.Objects.{is_piece_in}
use Rattle.lk_model.specs.Pieces.{is_piece, key_of}
use Rattle.lk_model.specs.Views.{Elf}
use Rattle.lk_outsec.specs.PieceTypes.{may_be_piece}
use Rattle.lk_outsec.proofs.PieceTypes.{no_piece}
use Rattle.lk_obj_parts.specs.ElfViews.{elf_from, header_at}
use Rattle.lk_obj_parts.specs.RelocationParts.{is_piece_named, table_number}
use Rattle.lk_obj_parts.proofs.Headers.{section_reported}
use Rattle.lk_obj_parts.proofs.SymbolsUnread.{section_name_unread}

some_then : {X : Type 0} (b : Bool) (x : X) → is_some (then_some b x) ≡ b
some_then true x = refl
some_then false x = refl

keyed : (name : List ℕ) (code flags : ℕ) → is_some (key_of name code flags) ≡ is_piece name code flags
unfolding key_of
keyed name code flags = some_then (is_piece name code flags) _

named : (header : Option Shdr) (name : Option (List ℕ)) → is_some_with (λ (h : Shdr). is_some (option_and_then (λ n. key_of n h.sh_type h.sh_flags) name)) header ≡ is_piece_named header name
named None name = refl
named (Some header) None = refl
named (Some header) (Some name) = keyed name header.sh_type header.sh_flags

pub piece_reported : (bytes : List ℕ) (header : Ehdr) (sections : List Shdr) (symbols : List Sym) (n : ℕ) → is_piece_in (elf_from bytes header sections symbols) n ≡ is_piece_named (header_at sections n) (section_name (elf_from bytes header sections []) n)
piece_reported bytes header sections symbols n =
    named (section_at (elf_from bytes header sections symbols) n) (section_name (elf_from bytes header sections symbols) n)
    ∙ ap (λ o. is_piece_named o (section_name (elf_from bytes header sections symbols) n)) (section_reported (elf_from bytes header sections symbols) n)
    ∙ ap (is_piece_named (header_at sections n)) (section_name_unread bytes header sections symbols n)

-- ---- the symbol table

step : (i : ℕ) (headers : List Shdr) (d : Shdr) → i < length headers → table_number i (drop i headers) ≡ table_number i (get_or headers i d ∷ drop (i + 1) headers)
step i headers d l = ap (table_number i) (drop-cons headers i d l) ∙ ap (λ n. table_number i (get_or headers i d ∷ drop n headers)) (sym (add-one i))

at : (i : ℕ) (header : Shdr) (b : Bool) (rest : Option (ℕ × Shdr)) → option_map (λ (row : ℕ × Shdr). row.0) (cond b (Some (i, header)) rest) ≡ cond b (Some i) (option_map (λ (row : ℕ × Shdr). row.0) rest)
at i header true rest = refl
at i header false rest = refl

chosen : (i : ℕ) (header : Shdr) (headers : List Shdr) → table_number i (header ∷ headers) ≡ cond (header.sh_type == sht_symtab) (Some i) (table_number (i + 1) headers)
chosen i header headers = at i header (header.sh_type == sht_symtab) (find (λ (row : ℕ × Shdr). row.1.sh_type == sht_symtab) (enumerate_from (i + 1) headers))

pub table_here : (i : ℕ) (headers : List Shdr) (d : Shdr) → i < length headers → ((get_or headers i d).sh_type == sht_symtab) ≡ true → table_number i (drop i headers) ≡ Some i
table_here i headers d l e =
    step i headers d l
    ∙ chosen i (get_or headers i d) (drop (i + 1) headers)
    ∙ ap (λ t. cond t (Some i) (table_number (i + 1) (drop (i + 1) headers))) e

pub no_table_here : (i : ℕ) (headers : List Shdr) (d : Shdr) → i < length headers → ((get_or headers i d).sh_type == sht_symtab) ≡ false → table_number i (drop i headers) ≡ table_number (i + 1) (drop (i + 1) headers)
no_table_here i headers d l e =
    step i headers d l
    ∙ chosen i (get_or headers i d) (drop (i + 1) headers)
    ∙ ap (λ t. cond t (Some i) (table_number (i + 1) (drop (i + 1) headers))) e

pub no_table_left : (i : ℕ) (headers : List Shdr) → length headers ≤ i → table_number i (drop i headers) ≡ None
no_table_left i headers l = ap (table_number i) (drop_all i headers l)

same-number : (table : Option (ℕ × Shdr)) (n : ℕ) → is_some_with (λ (row : ℕ × Shdr). row.0 == n) table ≡ is_some_with (λ k. k == n) (option_map (λ (row : ℕ × Shdr). row.0) table)
same-number None n = refl
same-number (Some row) n = refl

pub is_table_reported : (elf : Elf) (n : ℕ) → is_symbol_table elf n ≡ is_some_with (λ k. k == n) (table_number 1 (drop 1 elf.sections))
is_table_reported elf n = same-number (symbol_table elf) n

-- a section whose type and flags rule a piece out is none, whether or not it has a name
pub none_named : (header : Shdr) (name : Option (List ℕ)) → may_be_piece header.sh_type header.sh_flags ≡ false → is_piece_named (Some header) name ≡ false
none_named header None e = refl
none_named header (Some name) e = no_piece name header.sh_type header.sh_flags e
