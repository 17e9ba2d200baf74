-- The bytes of relocations by the low bits of their fields.
use Rattle.std.proofs.Common.{◌≡◌, ℕ, ℤ, List, [], ◌∷◌, map, refl, ap, sym, ◌∙◌, ◌++◌, Option, Some, None}
use Rattle.std.specs.Prelude.{flat_map}
use Rattle.std.specs.List.{enumerate_from}
use Rattle.lk_elf.specs.Records.{rela_bytes}
use Rattle.lk_model.specs.DynamicNames.{dynamic_names}
use Rattle.lk_model.specs.DynamicRelocations.{jump_relocation, rela_plt_bytes, rela_plt_entries}
use Rattle.lk_model.specs.SymbolValues.{got_address}
use Rattle.lk_model.specs.DynamicSection.{table_start}
use Rattle.lk_model.specs.Keys.{row_of}
use Rattle.lk_model.specs.MadeSymbols.{start_of}
use Rattle.lk_model.specs.SectionKeys.{got_plt_key}
use Rattle.lk_model.specs.Views.{Resolved}
use Rattle.lk_model.specs.declared.layouts.Placement.{Placement}
use Rattle.lk_model.specs.declared.layouts.SectionRow.{SectionRow}
use Rattle.lk_dyn.specs.LowBits.{low_64}
use Rattle.lk_dyn.specs.JumpSlots.{jump_entry_bytes}
use Rattle.lk_elf.proofs.LowBits.{low-long}

-- a relocation whose place and symbol are by their low bits
pub low-rela : (offset info : ℕ) (addend : ℤ) → rela_bytes (record { r_offset = low_64 offset; r_info = low_64 info; r_addend = addend }) ≡ rela_bytes (record { r_offset = offset; r_info = info; r_addend = addend })
unfolding rela_bytes
low-rela offset info addend = rw (low-long offset, low-long info) refl

-- entries spelled one by one
fused : (names : List ℕ) (place : Placement) (xs : List (ℕ × ℕ)) → flat_map (jump_entry_bytes names (got_address place)) xs ≡ flat_map rela_bytes (map (jump_relocation names place) xs)
fused names place [] = refl
fused names place (x ∷ xs) = ap (λ l. jump_entry_bytes names (got_address place) x ++ l) (fused names place xs)

pub jumps_are : (r : Resolved) (place : Placement) (names : List ℕ) → dynamic_names r ≡ names → flat_map (jump_entry_bytes names (got_address place)) (enumerate_from 0 place.slots.plt) ≡ rela_plt_bytes r place
unfolding rela_plt_bytes rela_plt_entries
jumps_are r place names same =
    fused names place (enumerate_from 0 place.slots.plt)
    ∙ ap (λ ns. flat_map rela_bytes (map (jump_relocation ns place) (enumerate_from 0 place.slots.plt))) (sym same)

-- the address of the GOT
got_start : (row : Option SectionRow) → start_of row ≡ elim row [ None ↦ 0 | Some row ↦ row.addr ]
got_start None = refl
got_start (Some row) = refl

pub got_at : (place : Placement) → table_start place got_plt_key ≡ got_address place
got_at place = got_start (row_of place got_plt_key)
