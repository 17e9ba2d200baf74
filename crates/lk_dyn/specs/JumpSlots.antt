-- The relocations of the slots of PLT entries (psABI x86-64 "Procedure Linkage Table"), by the address of
-- the GOT.
use Rattle.std.specs.Prelude.{ℕ, List}
use Rattle.lk_elf.specs.Records.{rela_bytes}
use Rattle.lk_model.specs.DynamicRelocations.{dynamic_relocation}
use Rattle.lk_model.specs.DynamicSlots.{r_x86_64_jump_slot}
use Rattle.lk_model.specs.PltEntries.{jump_slot_address}

-- the bytes of the relocation of an entry, by its number and name
abbrev pub jump_entry_bytes : List ℕ → ℕ → ℕ × ℕ → List ℕ
jump_entry_bytes names got x = rela_bytes (dynamic_relocation names (jump_slot_address got x.0) r_x86_64_jump_slot x.1)
