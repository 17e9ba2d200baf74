-- Requests for an executable stack, section after section; they are reported without the symbols.
use Rattle.std.specs.Prelude.{◌≡◌, refl, ℕ, ◌+◌, ◌<◌, ◌≤◌, true, false, ◌||◌, ◌&&◌, bytes_eq, codes, List, [], ◌∷◌, drop, length}
use Rattle.std.specs.List.{list_any}
use Rattle.std.proofs.Common.{ap, ◌∙◌, get_or}
use Rattle.lk_elf.specs.Numbers.{shf_execinstr}
use Rattle.lk_elf.specs.declared.file_header.Ehdr.{Ehdr}
use Rattle.lk_elf.specs.declared.section_header.Shdr.{Shdr}
use Rattle.lk_elf.specs.declared.symbol.Sym.{Sym}
use Rattle.lk_model.specs.Amounts.{has_flag}
use Rattle.lk_model.specs.Checks.{is_some_with}
use Rattle.lk_model.specs.Elf.{numbered}
use Rattle.lk_model.specs.Objects.{asks_exec_stack}
use Rattle.lk_model.specs.Views.{Elf}
use Rattle.lk_obj_parts.specs.ElfViews.{elf_from}
use Rattle.lk_obj_parts.proofs.Rows.{rows_done, rows_next}
use Rattle.lk_obj_parts.proofs.SymbolsUnread.{section_name_unread}
use Rattle.lk_obj_read.specs.StackRequests.{any_asks_from}

next : (elf : Elf) (i : ℕ) (headers : List Shdr) (d : Shdr) → i < length headers → any_asks_from elf i (drop i headers) ≡ (asks_exec_stack elf (i, get_or headers i d) || any_asks_from elf (i + 1) (drop (i + 1) headers))
unfolding any_asks_from
next elf i headers d l = ap (list_any (asks_exec_stack elf)) (rows_next i headers d l)

pub request_here : (elf : Elf) (i : ℕ) (headers : List Shdr) (d : Shdr) → i < length headers → asks_exec_stack elf (i, get_or headers i d) ≡ true → any_asks_from elf i (drop i headers) ≡ true
request_here elf i headers d l e = next elf i headers d l ∙ ap (λ t. t || any_asks_from elf (i + 1) (drop (i + 1) headers)) e

pub no_request_here : (elf : Elf) (i : ℕ) (headers : List Shdr) (d : Shdr) → i < length headers → asks_exec_stack elf (i, get_or headers i d) ≡ false → any_asks_from elf i (drop i headers) ≡ any_asks_from elf (i + 1) (drop (i + 1) headers)
no_request_here elf i headers d l e = next elf i headers d l ∙ ap (λ t. t || any_asks_from elf (i + 1) (drop (i + 1) headers)) e

pub no_request_left : (elf : Elf) (i : ℕ) (headers : List Shdr) → length headers ≤ i → any_asks_from elf i (drop i headers) ≡ false
unfolding any_asks_from
no_request_left elf i headers l = ap (list_any (asks_exec_stack elf)) (rows_done i headers l)

unread : (b : List ℕ) (h : Ehdr) (s : List Shdr) (ys : List Sym) (rows : List (ℕ × Shdr)) → list_any (asks_exec_stack (elf_from b h s ys)) rows ≡ list_any (asks_exec_stack (elf_from b h s [])) rows
unfolding asks_exec_stack
unread b h s ys [] = refl
unread b h s ys (row ∷ rows) =
    ap (λ name. (has_flag row.1.sh_flags shf_execinstr && is_some_with (bytes_eq (codes ".note.GNU-stack")) name) || list_any (asks_exec_stack (elf_from b h s ys)) rows) (section_name_unread b h s ys row.0)
    ∙ ap (λ t. asks_exec_stack (elf_from b h s []) row || t) (unread b h s ys rows)

-- what is asked of a file without symbols is asked of it with any
pub stack_reported : (b : List ℕ) (h : Ehdr) (s : List Shdr) (ys : List Sym) → list_any (asks_exec_stack (elf_from b h s ys)) (numbered s) ≡ any_asks_from (elf_from b h s []) 1 (drop 1 s)
unfolding any_asks_from
stack_reported b h s ys = unread b h s ys (numbered s)
