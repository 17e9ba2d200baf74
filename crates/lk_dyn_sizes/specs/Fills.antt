-- Which GOT slots the dynamic linker fills, and by which type (psABI x86-64 "Relocation Types": GLOB_DAT,
-- TPOFF64), by the rows of the table of names and the set of the names that are copied.
use Rattle.std.specs.Prelude.{ℕ, Bool, List, length, map, filter, filter_map, Option, None, is_some, slice_get, option_map, option_and_then}
use Rattle.std.specs.List.{enumerate_from}
use Rattle.lk_model.specs.declared.layouts.GotKey.{GotKey}
use Rattle.lk_model.specs.declared.layouts.GotOwner.{GotOwner}
use Rattle.lk_model.specs.declared.layouts.GotOwner.TheVariants as owner
use Rattle.lk_model.specs.DynamicSlots.{SlotFill as Fill, winner_fill}
use Rattle.lk_model.specs.Numbered.{is_number_in}
use Rattle.lk_symtab.specs.NameRows.{NameRow, row_winner}
use Rattle.lk_dyn_sizes.specs.declared.slot_rows.SlotFill.{SlotFill}

-- the type for the slot of a row's name
abbrev pub row_fill : Bool → Bool → NameRow → Option ℕ
row_fill thread copied row = winner_fill thread copied (row_winner row)

-- the type for the slot of the name with a number
abbrev pub number_fill : List NameRow → List ℕ → ℕ → Bool → Option ℕ
number_fill rows copied n thread = option_and_then (row_fill thread (is_number_in copied n)) (slice_get rows n)

-- the type for a slot; none for a LOCAL symbol, whose value is known when the image is made
abbrev pub key_fill : List NameRow → List ℕ → GotKey → Option ℕ
key_fill rows copied key = elim key.owner [ owner.Global n ↦ number_fill rows copied n key.thread | owner.Local i k ↦ None ]

-- whether the dynamic linker fills a slot, and how many of these it fills
abbrev pub is_filled : List NameRow → List ℕ → GotKey → Bool
is_filled rows copied key = is_some (key_fill rows copied key)

abbrev pub filled_count : List NameRow → List ℕ → List GotKey → ℕ
filled_count rows copied keys = length (filter (is_filled rows copied) keys)

-- a slot that is filled, and such slots, as lk_model has them
abbrev pub as_fill : SlotFill → Fill
as_fill f = record { slot = f.slot; name = f.name; code = f.code }

abbrev pub as_fills : List SlotFill → List Fill
as_fills fills = map as_fill fills

-- the slot of a name with this type
abbrev pub filled_by : ℕ → ℕ → ℕ → Fill
filled_by slot n code = record { slot = slot; name = n; code = code }

-- the fill of a slot, by its number and owner
abbrev pub owner_fill_in : List NameRow → List ℕ → ℕ → Bool → GotOwner → Option Fill
owner_fill_in rows copied slot thread o = elim o [ owner.Global n ↦ option_map (filled_by slot n) (number_fill rows copied n thread) | owner.Local i k ↦ None ]

-- the fill of a slot; a free slot has none
abbrev pub slot_fill_in : List NameRow → List ℕ → ℕ × Option GotKey → Option Fill
slot_fill_in rows copied x = option_and_then (λ (key : GotKey). owner_fill_in rows copied x.0 key.thread key.owner) x.1

-- the slots that are filled, where the first has this number
abbrev pub fills_from : List NameRow → List ℕ → ℕ → List (Option GotKey) → List Fill
fills_from rows copied slot slots = filter_map (slot_fill_in rows copied) (enumerate_from slot slots)
