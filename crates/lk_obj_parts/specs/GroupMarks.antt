-- The groups of an object, one after another (gABI "Section Groups"): marks, one for each section, have the section
-- numbers that earlier groups claimed, so that no group is compared with each other one.
use Rattle.std.specs.Prelude.{ℕ, ◌+◌, ◌==◌, Bool, not, ◌||◌, if◌then◌else◌, List, [], ◌∷◌, fold, Option, Some, None, is_some, is_none}
use Rattle.std.specs.List.{list_all, list_any}
use Rattle.std.specs.Option.{option_or}
use Rattle.lk_elf.specs.Numbers.{sht_group}
use Rattle.lk_elf.specs.declared.section_header.Shdr.{Shdr}
use Rattle.lk_report.specs.declared.faults.InputFault.{InputFault}
use Rattle.lk_report.specs.declared.faults.InputFault.TheVariants.{BadGroup}
use Rattle.lk_marks.specs.Marked.{is_marked, with_mark}
use Rattle.lk_model.specs.Checks.{is_some_with}
use Rattle.lk_model.specs.ObjectChecks.{has_group_flag, is_group_size}
use Rattle.lk_model.specs.Objects.{signature_of}
use Rattle.lk_model.specs.Views.{Elf}
use Rattle.lk_obj_parts.specs.ElfViews.{header_at}
use Rattle.lk_obj_parts.specs.GroupParts.{members_in, words_in}
use Rattle.lk_obj_parts.specs.SymbolTables.{symbols_at}
use Rattle.lk_obj_parts.specs.declared.symbol_tables.SymbolsAt.{SymbolsAt}

-- a section of this number is among these
abbrev pub is_section_in : List Shdr → ℕ → Bool
is_section_in sections n = is_some (header_at sections n)

-- the symbol table, where it was found, has this section number
abbrev pub is_table_at : Option SymbolsAt → ℕ → Bool
is_table_at table n = is_some_with (λ (t : SymbolsAt). t.section == n) table

-- a group that is refused for its size, its symbol table, its signature or its flag word
abbrev pub is_bad_head : Elf → Shdr → Bool
is_bad_head elf header =
    not (is_group_size header.sh_size)
    || not (is_table_at (symbols_at elf.sections) header.sh_link)
    || is_none (signature_of elf header.sh_info)
    || not (has_group_flag (words_in elf.bytes header))

-- members of which one is no section, or is marked
abbrev pub are_bad_members : List Shdr → List Bool → List ℕ → Bool
are_bad_members sections marks members =
    not (list_all (is_section_in sections) members) || list_any (is_marked marks) members

-- the fault of a group, where earlier groups claimed the marked sections
unfoldable pub marked_fault : Elf → List Bool → ℕ → Shdr → Option InputFault
marked_fault elf marks n header =
    if is_bad_head elf header || are_bad_members elf.sections marks (members_in elf.bytes header) then Some (BadGroup n) else None

-- a section that is a group
abbrev pub is_group : Shdr → Bool
is_group header = header.sh_type == sht_group

-- the fault of a section, where earlier groups claimed the marked sections; one that is no group has none
unfoldable pub fault_if_group : Elf → List Bool → ℕ → Shdr → Option InputFault
fault_if_group elf marks n header = if header.sh_type == sht_group then marked_fault elf marks n header else None

-- the marks after a section
unfoldable pub marks_after : Elf → List Bool → Shdr → List Bool
marks_after elf marks header =
    if header.sh_type == sht_group then fold with_mark marks (members_in elf.bytes header) else marks

-- the first fault of the groups among these sections, the first of which has this number, where earlier groups
-- claimed the marked sections
unfoldable pub marked_faults : Elf → List Bool → ℕ → List Shdr → Option InputFault
marked_faults elf marks n [] = None
marked_faults elf marks n (header ∷ headers) =
    option_or (fault_if_group elf marks n header) (marked_faults elf (marks_after elf marks header) (n + 1) headers)
