-- The relocations that the dynamic linker does (gABI "Relocation"; psABI x86-64 "Relocation Types"):
-- `.rela.dyn` and `.rela.plt`, entry by entry.
use Rattle.std.specs.Prelude.{ℕ, ◌+◌, ◌*◌, ◌^◌, pos, List, ◌++◌, map, flat_map}
use Rattle.std.specs.List.{enumerate_from}
use Rattle.lk_elf.specs.Records.{rela_bytes}
use Rattle.lk_elf.specs.declared.relocation.Rela.{Rela}
use Rattle.lk_model.specs.DynamicNames.{dynamic_names, dynsym_number}
use Rattle.lk_model.specs.DynamicSlots.{SlotFill, slot_fills, copied_names, r_x86_64_copy, r_x86_64_jump_slot}
use Rattle.lk_model.specs.Keys.{row_of}
use Rattle.lk_model.specs.MadeSymbols.{start_of}
use Rattle.lk_model.specs.PltEntries.{jump_slot_address}
use Rattle.lk_model.specs.SectionKeys.{got_key}
use Rattle.lk_model.specs.SymbolValues.{got_address, placed_address}
use Rattle.lk_model.specs.Views.{Resolved}
use Rattle.lk_model.specs.declared.layouts.PieceId.TheVariants as id
use Rattle.lk_model.specs.declared.layouts.Placement.{Placement}

-- a relocation of the word at an address, of this type, by the symbol of a dynamic name, with addend 0
abbrev pub dynamic_relocation : List ℕ → ℕ → ℕ → ℕ → Rela
dynamic_relocation names address code n = record { r_offset = address; r_info = dynsym_number names n * 2 ^ 32 + code; r_addend = pos 0 }

-- the relocation that fills a GOT slot
abbrev pub slot_relocation : List ℕ → ℕ → SlotFill → Rela
slot_relocation names got fill = dynamic_relocation names (got + 8 * fill.slot) fill.code fill.name

-- the relocation that fills a copy
abbrev pub copy_relocation : List ℕ → Placement → ℕ → Rela
copy_relocation names place n = dynamic_relocation names (placed_address place (id.Copy n)) r_x86_64_copy n

-- the relocation of the slot of a PLT entry, by its number and name
abbrev pub jump_relocation : List ℕ → Placement → ℕ × ℕ → Rela
jump_relocation names place (number, n) = dynamic_relocation names (jump_slot_address (got_address place) number) r_x86_64_jump_slot n

-- the entries of `.rela.dyn`: the slots in their order, then the copies in order of names
unfoldable pub rela_dyn_entries : Resolved → Placement → List Rela
rela_dyn_entries r place =
    let names = dynamic_names r in
    map (slot_relocation names (start_of (row_of place got_key))) (slot_fills r place.slots)
    ++ map (copy_relocation names place) (copied_names r)

-- the entries of `.rela.plt`, in the order of the PLT entries
unfoldable pub rela_plt_entries : Resolved → Placement → List Rela
rela_plt_entries r place =
    let names = dynamic_names r in
    map (jump_relocation names place) (enumerate_from 0 place.slots.plt)

-- their bytes
unfoldable pub rela_dyn_bytes : Resolved → Placement → List ℕ
rela_dyn_bytes r place = flat_map rela_bytes (rela_dyn_entries r place)

unfoldable pub rela_plt_bytes : Resolved → Placement → List ℕ
rela_plt_bytes r place = flat_map rela_bytes (rela_plt_entries r place)
