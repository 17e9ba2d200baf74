-- The tables that a link generates inside its output sections (psABI x86-64 "Global Offset Table",
-- "Procedure Linkage Table"), entry by entry: the GOT's two, and those of a dynamic link.
use Rattle.std.specs.Prelude.{ℕ, ◌+◌, List, ◌++◌, Option, Some, None, if◌then◌else◌, codes}
use Rattle.std.specs.List.{enumerate_from, flat_map}
use Rattle.lk_elf.specs.Fields.{bytes_of}
use Rattle.lk_model.specs.DynamicKeys.{plt_key}
use Rattle.lk_model.specs.DynamicTables.{dynamic_table_of_key}
use Rattle.lk_model.specs.Keys.{row_of}
use Rattle.lk_model.specs.SectionKeys.{named, same_key}
use Rattle.lk_model.specs.MadeSymbols.{start_of}
use Rattle.lk_model.specs.PltEntries.{plt_entry_address}
use Rattle.lk_model.specs.SymbolValues.{slot_value}
use Rattle.lk_model.specs.Views.{Resolved}
use Rattle.lk_model.specs.declared.layouts.Class.TheVariants.{W}
use Rattle.lk_model.specs.declared.layouts.GotKey.{GotKey}
use Rattle.lk_model.specs.declared.layouts.Placement.{Placement}
use Rattle.lk_model.specs.declared.layouts.SectionKey.{SectionKey}

-- `.got`: each slot's value
abbrev pub slot_bytes : Resolved → Placement → Option GotKey → List ℕ
slot_bytes r place slot = bytes_of 8 (slot_value r place slot)

abbrev pub got_bytes : Resolved → Placement → List ℕ
got_bytes r place = flat_map (slot_bytes r place) place.slots.got

-- `.got.plt`: the address of `.dynamic` (0 without it), two zeros, then for each PLT entry its address
-- plus 6, the instruction after its jump
abbrev pub dynamic_address : Placement → ℕ
dynamic_address place = elim (row_of place (named (codes ".dynamic") W)) [ None ↦ 0 | Some row ↦ row.addr ]

abbrev pub jump_bytes : Placement → ℕ × ℕ → List ℕ
jump_bytes place (k, name) = bytes_of 8 (plt_entry_address (start_of (row_of place plt_key)) k + 6)

abbrev pub got_plt_bytes : Placement → List ℕ
got_plt_bytes place = bytes_of 8 (dynamic_address place) ++ bytes_of 8 0 ++ bytes_of 8 0 ++ flat_map (jump_bytes place) (enumerate_from 0 place.slots.plt)

-- the bytes of a table by its section; none for a section that is no table
unfoldable pub table_of_key : Resolved → Placement → SectionKey → List ℕ
table_of_key r place k =
    if same_key k (named (codes ".got") W) then got_bytes r place
    else (if same_key k (named (codes ".got.plt") W) then got_plt_bytes place else dynamic_table_of_key r place k)
