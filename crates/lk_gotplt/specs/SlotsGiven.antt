-- This project's own: what a slot table is after a slot or an entry is given or given up (psABI x86-64
-- "Global Offset Table", "Procedure Linkage Table").
use Rattle.std.specs.Prelude.{ℕ, ◌+◌, ◌-◌, ◌==◌, if◌then◌else◌, [], ◌∷◌, ◌++◌, length, Option, None, is_none, slice_get, slice_set}
use Rattle.std.specs.List.{position_or_len, swap_remove}
use Rattle.lk_model.specs.SlotUpdate.{with_key}
use Rattle.lk_model.specs.declared.layouts.GotKey.{GotKey}
use Rattle.lk_model.specs.declared.layouts.SlotTable.{SlotTable}

-- a slot table, and for how many calls that give a slot or an entry there is room
pub record Given : Type 0 where
  pub table : SlotTable
  pub spare : ℕ

-- the number of the lowest free slot, and of the one behind all where none is free
abbrev pub lowest_free : SlotTable → ℕ
lowest_free table = position_or_len (λ (slot : Option GotKey). is_none slot) table.got

-- a table with a key in the lowest free slot, or behind all where none is free
abbrev pub with_slot : SlotTable → GotKey → SlotTable
with_slot table key = record { got = with_key table.got key; plt = table.plt }

-- a table with an entry of a name behind all
abbrev pub with_entry : SlotTable → ℕ → SlotTable
with_entry table name = record { got = table.got; plt = table.plt ++ name ∷ [] }

-- a table in which the slot with a number is free
abbrev pub without_slot : SlotTable → ℕ → SlotTable
without_slot table n = record { got = slice_set table.got n None; plt = table.plt }

-- a table without the entry with a number, into whose place the last one moves
abbrev pub without_entry : SlotTable → ℕ → SlotTable
without_entry table n = record { got = table.got; plt = swap_remove table.plt n 0 }

-- the name of the entry that moves then; none where the entry itself is the last
abbrev pub moved_entry : SlotTable → ℕ → Option ℕ
moved_entry table n = if n + 1 == length table.plt then None else slice_get table.plt (length table.plt - 1)
