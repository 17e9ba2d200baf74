-- The relocations that the dynamic linker does before the program begins (psABI x86-64 "Relocation Types":
-- GLOB_DAT, TPOFF64, COPY), entry by entry, and the table of the addresses of copies.
use Rattle.std.specs.Prelude.{◌≡◌, ℕ, ◌==◌, nat_eq, cond, List, [], ◌∷◌, Option, Some, None}
use Rattle.std.specs.Map.{lookup}
use Rattle.lk_elf.specs.Records.{rela_bytes}
use Rattle.lk_model.specs.DynamicRelocations.{copy_relocation, dynamic_relocation, slot_relocation}
use Rattle.lk_model.specs.DynamicSlots.{r_x86_64_copy}
use Rattle.lk_model.specs.declared.layouts.PieceId.{PieceId}
use Rattle.lk_model.specs.declared.layouts.PieceId.TheVariants as id
use Rattle.lk_model.specs.declared.layouts.PieceRow.{PieceRow}
use Rattle.lk_model.specs.declared.layouts.Placement.{Placement}
use Rattle.lk_dyn_sizes.specs.Fills.{as_fill}
use Rattle.lk_dyn_sizes.specs.declared.slot_rows.SlotFill.{SlotFill}

-- the bytes of the relocation that fills a slot, by the address of the slots
abbrev pub slot_entry_bytes : List ℕ → ℕ → SlotFill → List ℕ
slot_entry_bytes names got fill = rela_bytes (slot_relocation names got (as_fill fill))

-- the bytes of the relocation that fills the copy of a name, by its address
abbrev pub copy_entry_at : List ℕ → ℕ → ℕ → List ℕ
copy_entry_at names address n = rela_bytes (dynamic_relocation names address r_x86_64_copy n)

abbrev pub copy_entry_bytes : List ℕ → Placement → ℕ → List ℕ
copy_entry_bytes names place n = rela_bytes (copy_relocation names place n)

-- the address that the entries have for the copy of a name
abbrev pub copy_of : List (ℕ × ℕ) → ℕ → Option ℕ
copy_of entries n = lookup (nat_eq n) entries

-- the address in a row, where it is that of the copy of a name, and else another
abbrev pub copy_or : PieceId → ℕ → ℕ → Option ℕ → Option ℕ
copy_or (id.Section i s) addr n later = later
copy_or (id.Common m) addr n later = later
copy_or (id.Copy m) addr n later = cond (m == n) (Some addr) later

-- the address in the first row of the copy of a name
abbrev pub copy_in : List PieceRow → ℕ → Option ℕ
copy_in [] n = None
copy_in (row ∷ rows) n = copy_or row.piece row.addr n (copy_in rows n)

-- the entries have for each name the address in the first row of its copy
abbrev pub FindsCopies : List (ℕ × ℕ) → List PieceRow → Type 0
FindsCopies entries rows = (n : ℕ) → copy_of entries n ≡ copy_in rows n

abbrev pub or_zero : Option ℕ → ℕ
or_zero None = 0
or_zero (Some n) = n
