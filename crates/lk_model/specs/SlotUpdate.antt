-- This project's own: how an update keeps the PLT entries without gaps and the GOT slots in their
-- places (psABI x86-64 "Global Offset Table", "Procedure Linkage Table" say what they hold).
use Rattle.std.specs.Prelude.{ℕ, not, Bool, true, false, List, [], ◌∷◌, ◌++◌, length, map, reverse, fold, filter, filter_map, position, Option, Some, None, is_none, option_and_then, slice_get, slice_set}
use Rattle.std.specs.List.{list_any, range_with_len, swap_remove}
use Rattle.lk_model.specs.BaseMatching.{name_now, slot_now}
use Rattle.lk_model.specs.Checks.{is_some_with}
use Rattle.lk_model.specs.Keys.{same_got, is_slot_of}
use Rattle.lk_model.specs.Numbered.{is_number_in}
use Rattle.lk_model.specs.Views.{Resolved}
use Rattle.lk_model.specs.declared.layouts.GotKey.{GotKey}
use Rattle.lk_model.specs.declared.layouts.SlotTable.{SlotTable}
use Rattle.lk_model.specs.declared.records.Records.{Records}

-- ---- PLT entries

-- whether the entry of a number is that of a needed name; one whose name is gone is not
abbrev pub is_needed_entry : List ℕ → List (Option ℕ) → ℕ → Bool
is_needed_entry needed entries n = is_some_with (is_number_in needed) (option_and_then (λ (e : Option ℕ). e) (slice_get entries n))

-- the entries after the one of a number was looked at: one that is not needed is given up, and the last
-- entry moves into its place
abbrev pub without_entry : List ℕ → List (Option ℕ) → ℕ → List (Option ℕ)
without_entry needed entries n = elim (is_needed_entry needed entries n) [ true ↦ entries | false ↦ swap_remove entries n None ]

-- the entries that are left, where they are looked at from the highest number down
abbrev pub entries_left : List ℕ → List (Option ℕ) → List ℕ
entries_left needed entries = filter_map (λ (e : Option ℕ). e) (fold (without_entry needed) entries (reverse (range_with_len 0 (length entries))))

-- entries with those of more names behind them, where they have none yet
abbrev pub with_entries : List ℕ → List ℕ → List ℕ
with_entries needed entries = entries ++ filter (λ name. not (is_number_in entries name)) needed

-- the PLT entries of an update, from the earlier ones and the needed names
unfoldable pub updated_plt : List ℕ → List (Option ℕ) → List ℕ
updated_plt needed entries = with_entries needed (entries_left needed entries)

-- ---- GOT slots

-- a slot whose key is not needed is given up, and is free
abbrev pub slot_left : List GotKey → Option GotKey → Option GotKey
slot_left needed slot = elim slot [
  | None ↦ None
  | Some k ↦ elim (list_any (same_got k) needed) [ true ↦ Some k | false ↦ None ]
]

-- slots with a key in the lowest free one, or behind all where none is free
abbrev pub with_key : List (Option GotKey) → GotKey → List (Option GotKey)
with_key slots k = elim (position (λ (slot : Option GotKey). is_none slot) slots) [
  | Some n ↦ slice_set slots n (Some k)
  | None ↦ slots ++ Some k ∷ []
]

-- slots with those keys that have none yet, one after another
abbrev pub with_keys : List GotKey → List (Option GotKey) → List (Option GotKey)
with_keys needed slots = fold with_key slots (filter (λ (k : GotKey). not (list_any (is_slot_of k) slots)) needed)

-- the GOT slots of an update, from the earlier ones and the needed keys
unfoldable pub updated_got : List GotKey → List (Option GotKey) → List (Option GotKey)
updated_got needed slots = with_keys needed (map (slot_left needed) slots)

-- ---- both

-- the slots and entries of an update, from those that the earlier image records
unfoldable pub updated_slots : Records → Resolved → SlotTable
updated_slots base r = record {
  got = updated_got r.needs.got (map (slot_now base r) base.placement.slots.got);
  plt = updated_plt r.needs.plt (map (name_now base r.names) base.placement.slots.plt);
}
