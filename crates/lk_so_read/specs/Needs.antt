-- The names of the files that a shared object needs (gABI "Dynamic Section", DT_NEEDED).
use Rattle.std.specs.Prelude.{ℕ, if◌then◌else◌, List, [], filter_map, flat_map, option_to_list}
use Rattle.std.specs.List.{before_first}
use Rattle.lk_elf.specs.Numbers.{dt_needed, dt_null}
use Rattle.lk_elf.specs.declared.dynamic_entry.Dyn.{Dyn}
use Rattle.lk_elf.specs.declared.section_header.Shdr.{Shdr}
use Rattle.lk_model.specs.DynamicEntries.{all_with_tag, has_tag}
use Rattle.lk_model.specs.Elf.{name_at}
use Rattle.lk_model.specs.SharedObjects.{dynamic_section, entries_under}
use Rattle.lk_model.specs.Views.{Elf}

-- the texts of the NEEDED entries of a dynamic section, in order; one without a text adds none
unfoldable pub needs_under : Elf → Shdr → List (List ℕ)
needs_under elf header = filter_map (name_at elf header.sh_link) (all_with_tag dt_needed (entries_under elf header))

-- those of a file's dynamic section
abbrev pub needs_in : Elf → List (List ℕ)
needs_in elf = flat_map (λ (table : ℕ × Shdr). needs_under elf table.1) (option_to_list (dynamic_section elf))

-- what one entry adds, whose texts are in this string section
abbrev pub need_of : Elf → ℕ → Dyn → List (List ℕ)
need_of elf strings entry = if has_tag dt_needed entry then option_to_list (name_at elf strings entry.d_un) else []

-- what these entries need, those after their first NULL left out
unfoldable pub needs_among : Elf → ℕ → List Dyn → List (List ℕ)
needs_among elf strings entries = filter_map (name_at elf strings) (all_with_tag dt_needed (before_first (has_tag dt_null) entries))
