-- What the relocations of a dynamic link fill (gABI "Relocation"; psABI x86-64 "Relocation Types": COPY, GLOB_DAT,
-- JUMP_SLOT, TPOFF64), as they are read back from the bytes of their tables.
use Rattle.std.specs.Prelude.{◌≡◌, ℕ, ◌+◌, ◌*◌, ◌%◌, ◌^◌, ◌||◌, not, pos, Bool, true, List, length, Some, slice_get, if◌then◌else◌}
use Rattle.lk_elf.specs.Numbers.{rela_size}
use Rattle.lk_elf.specs.Records.{rela_at}
use Rattle.lk_elf.specs.RelocationInfo.{r_symbol_of, r_type_of}
use Rattle.lk_elf.specs.declared.relocation.Rela.{Rela}
use Rattle.lk_model.specs.DynamicNames.{dynamic_names, dynsym_number}
use Rattle.lk_model.specs.DynamicRelocations.{rela_dyn_bytes, rela_plt_bytes}
use Rattle.lk_model.specs.DynamicSection.{table_start}
use Rattle.lk_model.specs.DynamicSlots.{SlotFill, copied_names, r_x86_64_copy, r_x86_64_glob_dat, r_x86_64_jump_slot, slot_fills}
use Rattle.lk_model.specs.Forms.{r_x86_64_tpoff64}
use Rattle.lk_model.specs.Numbered.{is_number_in}
use Rattle.lk_model.specs.PltEntries.{jump_slot_address}
use Rattle.lk_model.specs.SectionKeys.{got_key}
use Rattle.lk_model.specs.SymbolValues.{got_address, placed_address}
use Rattle.lk_model.specs.Views.{Resolved}
use Rattle.lk_model.specs.declared.layouts.GotOwner.TheVariants as owner
use Rattle.lk_model.specs.declared.layouts.PieceId.TheVariants as id
use Rattle.lk_model.specs.declared.layouts.Placement.{Placement}
use Rattle.lk_model.specs.declared.layouts.SlotTable.{SlotTable}
use Rattle.lk_model.specs.declared.summaries.Winner.TheVariants as winner
use Rattle.lk_dyn.specs.LowBits.{low_64}

-- a relocation fills the bytes at an address, as its type says, by the dynamic symbol of a name, with addend 0; its
-- fields hold the low bits of these numbers
pub record Fills (r : Resolved) (relocation : Rela) (address r_type name : ℕ) : Type 0 where
  pub address_is : relocation.r_offset ≡ low_64 address
  pub type_is : r_type_of relocation ≡ r_type
  pub symbol_is : r_symbol_of relocation ≡ dynsym_number (dynamic_names r) name % 2 ^ 32
  pub addend_is : relocation.r_addend ≡ pos 0

-- the slot that is filled is that of the name, and its type is that of what the slot holds: a thread offset or an
-- address
pub record IsSlotOfName (slots : SlotTable) (fill : SlotFill) : Type 0 where
  pub thread : Bool
  pub key_is : slice_get slots.got fill.slot ≡ Some (Some (record { owner = owner.Global fill.name; thread = thread }))
  pub type_is : fill.code ≡ (if thread then r_x86_64_tpoff64 else r_x86_64_glob_dat)

-- an entry of a table of relocations
abbrev pub entry_at : List ℕ → ℕ → Rela
entry_at table n = rela_at table (rela_size * n)

-- entry n of `.rela.plt` fills the slot by which entry n of `.plt` jumps, by the name of this entry
abbrev pub FillsJumpSlots : Type 0
FillsJumpSlots =
    (r : Resolved) (place : Placement) (n name : ℕ)
    → slice_get place.slots.plt n ≡ Some name
    → Fills r (entry_at (rela_plt_bytes r place) n) (jump_slot_address (got_address place) n) r_x86_64_jump_slot name

-- an entry of `.rela.dyn` that fills a slot of `.got` has the name that this slot is of
abbrev pub FillsSlots : Type 0
FillsSlots =
    (r : Resolved) (place : Placement) (n : ℕ) (fill : SlotFill)
    → slice_get (slot_fills r place.slots) n ≡ Some fill
    → Fills r (entry_at (rela_dyn_bytes r place) n) (table_start place got_key + 8 * fill.slot) fill.code fill.name × IsSlotOfName place.slots fill

-- there is such an entry for each slot of an import that holds a thread offset, or the address of what is not copied
abbrev pub FillsEachImport : Type 0
FillsEachImport =
    (r : Resolved) (place : Placement) (slot name input symbol : ℕ) (thread : Bool)
    → slice_get place.slots.got slot ≡ Some (Some (record { owner = owner.Global name; thread = thread }))
    → slice_get r.winners name ≡ Some (winner.Import input symbol)
    → (thread || not (is_number_in r.needs.copies name)) ≡ true
    → (n : ℕ) × (slice_get (slot_fills r place.slots) n ≡ Some (record { slot = slot; name = name; code = if thread then r_x86_64_tpoff64 else r_x86_64_glob_dat }))

-- the entries behind those fill the copies of imports, each by the name that is copied
abbrev pub FillsCopies : Type 0
FillsCopies =
    (r : Resolved) (place : Placement) (n name : ℕ)
    → slice_get (copied_names r) n ≡ Some name
    → Fills r (entry_at (rela_dyn_bytes r place) (length (slot_fills r place.slots) + n)) (placed_address place (id.Copy name)) r_x86_64_copy name

-- the tables have no other entries
abbrev pub FillsNoMore : Type 0
FillsNoMore =
    (r : Resolved) (place : Placement)
    → (length (rela_plt_bytes r place) ≡ rela_size * length place.slots.plt)
    × (length (rela_dyn_bytes r place) ≡ rela_size * (length (slot_fills r place.slots) + length (copied_names r)))
