-- What the entries of the procedure linkage table and their slots are for (psABI x86-64 "Procedure Linkage
-- Table").
use Rattle.std.specs.Prelude.{◌≡◌, ℕ, ◌+◌, ◌*◌, ◌%◌, ◌^◌, ◌<◌, length}
use Rattle.lk_elf.specs.Fields.{num}
use Rattle.lk_model.specs.DynamicKeys.{plt_key}
use Rattle.lk_model.specs.DynamicSection.{table_start}
use Rattle.lk_model.specs.DynamicSizes.{plt_entry_size}
use Rattle.lk_model.specs.PltEntries.{jump_slot_address, plt_bytes, plt_entry_address}
use Rattle.lk_model.specs.SymbolValues.{got_address}
use Rattle.lk_model.specs.Tables.{got_plt_bytes}
use Rattle.lk_model.specs.Views.{Resolved}
use Rattle.lk_model.specs.declared.layouts.Placement.{Placement}
use Rattle.lk_dyn.specs.LowBits.{low_64}

-- the address of the second instruction of an entry, which follows a jump of six bytes
abbrev pub second_instruction : Placement → ℕ → ℕ
second_instruction place n = plt_entry_address (table_start place plt_key) n + 6

-- the displacement of an entry's jump, from its second instruction on, leads to the entry's slot
abbrev pub JumpsBySlot : Type 0
JumpsBySlot =
    (r : Resolved) (place : Placement) (n : ℕ)
    → n < length place.slots.plt
    → (second_instruction place n + num (plt_bytes r place) (plt_entry_size * (1 + n) + 2) 4) % 2 ^ 32 ≡ jump_slot_address (got_address place) n % 2 ^ 32

-- the slot of an entry, whose place in `.got.plt` follows three words, has the address of its second
-- instruction
abbrev pub SlotPointsBack : Type 0
SlotPointsBack =
    (place : Placement) (n : ℕ)
    → n < length place.slots.plt
    → num (got_plt_bytes place) (8 * (3 + n)) 8 ≡ low_64 (second_instruction place n)
