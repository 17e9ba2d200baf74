-- What the dynamic linker fills before the program begins: GOT slots of imports, and copies (psABI
-- x86-64 "Relocation Types": GLOB_DAT, TPOFF64, COPY).
use Rattle.std.specs.Prelude.{ℕ, Bool, true, false, List, length, filter, filter_map, slice_get, Option, Some, None, option_map, option_and_then}
use Rattle.std.specs.List.{enumerate_from, range_with_len}
use Rattle.lk_model.specs.declared.layouts.GotKey.{GotKey}
use Rattle.lk_model.specs.declared.layouts.GotOwner.{GotOwner}
use Rattle.lk_model.specs.declared.layouts.GotOwner.TheVariants as owner
use Rattle.lk_model.specs.declared.layouts.SlotTable.{SlotTable}
use Rattle.lk_model.specs.declared.summaries.Winner.{Winner}
use Rattle.lk_model.specs.declared.summaries.Winner.TheVariants as winner
use Rattle.lk_model.specs.Forms.{r_x86_64_tpoff64}
use Rattle.lk_model.specs.Numbered.{is_number_in}
use Rattle.lk_model.specs.Views.{Resolved}

-- the types that are in images alone
abbrev pub r_x86_64_copy : ℕ
r_x86_64_copy = 5

abbrev pub r_x86_64_glob_dat : ℕ
r_x86_64_glob_dat = 6

abbrev pub r_x86_64_jump_slot : ℕ
r_x86_64_jump_slot = 7

-- a slot that the dynamic linker fills: its number, the number of its name, and the relocation's type
pub record SlotFill : Type 0 where
  pub slot : ℕ
  pub name : ℕ
  pub code : ℕ

-- by which type an import's slot is filled: a thread offset by its own; an address is known where the
-- import is copied into the image
abbrev pub import_fill : Bool → Bool → Option ℕ
import_fill true copied = Some r_x86_64_tpoff64
import_fill false true = None
import_fill false false = Some r_x86_64_glob_dat

-- by which type the slot of a winner is filled, where it is an import
abbrev pub winner_fill : Bool → Bool → Winner → Option ℕ
winner_fill thread copied (winner.Import i k) = import_fill thread copied
winner_fill thread copied (winner.Strong i k) = None
winner_fill thread copied (winner.Common size align) = None
winner_fill thread copied (winner.Weak i k) = None
winner_fill thread copied winner.Made = None
winner_fill thread copied winner.Nothing = None

-- by which type the slot of a name is filled
abbrev pub name_fill : Resolved → ℕ → Bool → Option ℕ
name_fill r n thread = option_and_then (winner_fill thread (is_number_in r.needs.copies n)) (slice_get r.winners n)

-- how a slot is filled, by its number and owner; a LOCAL symbol's is known
abbrev pub owner_fill : Resolved → ℕ → Bool → GotOwner → Option SlotFill
owner_fill r slot thread (owner.Global n) = option_map (λ code. record { slot = slot; name = n; code = code }) (name_fill r n thread)
owner_fill r slot thread (owner.Local i k) = None

-- how a slot is filled; one that is free is not
abbrev pub slot_fill : Resolved → ℕ × Option GotKey → Option SlotFill
slot_fill r x = option_and_then (λ (key : GotKey). owner_fill r x.0 key.thread key.owner) x.1

-- the slots that the dynamic linker fills, in slot order
unfoldable pub slot_fills : Resolved → SlotTable → List SlotFill
slot_fills r slots = filter_map (slot_fill r) (enumerate_from 0 slots.got)

-- the imports that are copied, in order of names
abbrev pub copied_names : Resolved → List ℕ
copied_names r = filter (is_number_in r.needs.copies) (range_with_len 0 (length r.names))
