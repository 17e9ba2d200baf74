-- An object without groups has no fault of groups.
use Rattle.std.specs.Prelude.{◌≡◌, refl, ℕ, ◌+◌, Bool, true, false, ◌||◌, cond, List, [], ◌∷◌, drop, filter, None}
use Rattle.std.specs.List.{enumerate_from, list_any}
use Rattle.std.proofs.Common.{ap, ◌∙◌}
use Rattle.lk_elf.specs.declared.file_header.Ehdr.{Ehdr}
use Rattle.lk_elf.specs.declared.section_header.Shdr.{Shdr}
use Rattle.lk_elf.specs.declared.symbol.Sym.{Sym}
use Rattle.lk_model.specs.Checks.{first_fault}
use Rattle.lk_model.specs.ObjectChecks.{group_checks_after}
use Rattle.lk_model.specs.Objects.{group_sections}
use Rattle.lk_obj_parts.specs.ElfViews.{elf_from}
use Rattle.lk_obj_parts.specs.GroupMarks.{is_group}

neither : (a b : Bool) → (a || b) ≡ false → (a ≡ false) × (b ≡ false)
neither true b e = cc
neither false true e = cc
neither false false e = (refl, refl)

none-later : (headers : List Shdr) → list_any is_group headers ≡ false → list_any is_group (drop 1 headers) ≡ false
none-later [] e = refl
none-later (header ∷ headers) e = (neither (is_group header) (list_any is_group headers) e).1

none-chosen : (n : ℕ) (headers : List Shdr) → list_any is_group headers ≡ false → filter (λ (row : ℕ × Shdr). is_group row.1) (enumerate_from n headers) ≡ []
none-chosen n [] e = refl
none-chosen n (header ∷ headers) e =
    let rest : List (ℕ × Shdr) = filter (λ (row : ℕ × Shdr). is_group row.1) (enumerate_from (n + 1) headers) in
    let both : (is_group header ≡ false) × (list_any is_group headers ≡ false) = neither (is_group header) (list_any is_group headers) e in
    ap (λ b. cond b ((n, header) ∷ rest) rest) both.0 ∙ none-chosen (n + 1) headers both.1

pub no_fault_reported : (bytes : List ℕ) (header : Ehdr) (sections : List Shdr) (symbols : List Sym) → list_any is_group sections ≡ false → first_fault (group_checks_after (elf_from bytes header sections symbols) [] (group_sections (elf_from bytes header sections symbols))) ≡ None
unfolding group_checks_after
no_fault_reported bytes header sections symbols e =
    ap (λ (rows : List (ℕ × Shdr)). first_fault (group_checks_after (elf_from bytes header sections symbols) [] rows)) (none-chosen 1 (drop 1 sections) (none-later sections e))
