-- The COMDAT groups of an object section by section (gABI "Section Groups").
use Rattle.std.specs.Prelude.{ℕ, ◌==◌, ◌&&◌, Bool, if◌then◌else◌, List, take, filter_map, Option, None, option_map}
use Rattle.std.specs.List.{list_any}
use Rattle.lk_elf.specs.Numbers.{sht_group}
use Rattle.lk_elf.specs.declared.section_header.Shdr.{Shdr}
use Rattle.lk_model.specs.Objects.{signature_of}
use Rattle.lk_model.specs.Views.{Elf}
use Rattle.lk_model.specs.declared.summaries.Group.{Group}
use Rattle.lk_obj_parts.specs.GroupParts.{members_in, words_in}

-- the first word of a group of a file of these bytes says COMDAT
abbrev pub is_comdat_in : List ℕ → Shdr → Bool
is_comdat_in bytes header = list_any (λ word. word == 1) (take 1 (words_in bytes header))

-- a group with these members, by its signature
abbrev pub group_with : List ℕ → List ℕ → Group
group_with members signature = record { signature = signature; members = members }

-- the COMDAT group that a section is
unfoldable pub group_in : Elf → Shdr → Option Group
group_in elf header =
    if header.sh_type == sht_group && is_comdat_in elf.bytes header
    then option_map (group_with (members_in elf.bytes header)) (signature_of elf header.sh_info)
    else None

-- the COMDAT groups among these sections
unfoldable pub groups_among : Elf → List Shdr → List Group
groups_among elf headers = filter_map (group_in elf) headers
