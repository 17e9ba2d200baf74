-- The values of symbols at a placement, the numbers that they give to relocations, and the numbers of a relocation
-- (psABI x86-64 "Relocation Types", "Thread-Local Storage").
use Rattle.std.specs.Prelude.{◌≡◌, ℕ, ◌<◌, ◌^◌, Bool, true, false, List, Option, Some, None, slice_get, if◌then◌else◌}
use Rattle.std.specs.Option.{option_map}
use Rattle.lk_model.specs.Amounts.{minus, plus}
use Rattle.lk_model.specs.Keys.{piece_row_of}
use Rattle.lk_model.specs.Segments.{tls_end, tls_start}
use Rattle.lk_model.specs.SymbolValues.{block_edge, call_value, got_address, is_placed_home, is_placed_winner, is_thread_slot, local_of, local_value, name_value, section_address, slot_address, winner_of_name, winner_size}
use Rattle.lk_model.specs.Views.{Ref, Resolved, Through}
use Rattle.lk_model.specs.Views.Through.{ByLocal, ByName}
use Rattle.lk_model.specs.declared.layouts.GotOwner.{GotOwner}
use Rattle.lk_model.specs.declared.layouts.GotOwner.TheVariants as owner
use Rattle.lk_model.specs.declared.layouts.Numbers.{Numbers}
use Rattle.lk_model.specs.declared.layouts.PieceId.TheVariants as id
use Rattle.lk_model.specs.declared.layouts.Placement.{Placement}
use Rattle.lk_model.specs.declared.summaries.InputSummary.{InputSummary}
use Rattle.lk_resolve.specs.Settling.{ResolutionValue}
use Rattle.lk_symtab.specs.NameRows.{NameRow}
use Rattle.lk_symbol_values.specs.Addresses.{address_of_piece}
use Rattle.lk_symbol_values.specs.NameValues.{given_at, value_of_row, values_from}
use Rattle.lk_symbol_values.specs.Sections.{low_64}
use Rattle.lk_symbol_values.specs.declared.name_values.SymbolValue.{SymbolValue}
use Rattle.lk_symbol_values.specs.declared.values.Relocation.{Relocation}
use Rattle.lk_symbol_values.specs.declared.values.SymbolNumbers.{SymbolNumbers}

-- what values are made of: the resolution, the summaries of the inputs, the placement
pub record ValueInputs : Type 0 where
  pub resolution : ResolutionValue
  pub summaries : List InputSummary
  pub place : Placement

-- these are the values of the names, and what inputs and placed pieces give of them fits 64 bits
pub record AreValues (values : List SymbolValue) (rows : List NameRow) (summaries : List InputSummary) (place : Placement) : Type 0 where
  pub values_are : values ≡ values_from summaries place place 0 rows
  pub given_fit : (n : ℕ) → given_at summaries place n (slice_get rows n) < 2 ^ 64

-- the address of a section of an input, none for one that is not placed, and that of an offset in a section with
-- this address
abbrev pub piece_start : Placement → ℕ → ℕ → Option ℕ
piece_start place input section = option_map address_of_piece (piece_row_of place (id.Section input section))

abbrev pub place_at : Option ℕ → ℕ → ℕ
place_at None offset = 0
place_at (Some start) offset = plus start offset

-- a reference as a relocation at its place
abbrev pub relocation_of : Placement → Ref → Relocation
relocation_of place ref = record { address = section_address place ref.input ref.section ref.offset; code = ref.code; addend = ref.addend }

-- what fields of eight bytes hold of numbers
abbrev pub low_numbers : Numbers → Numbers
low_numbers n = record n { s = low_64 n.s; l = low_64 n.l; slot = low_64 n.slot; tls_end = low_64 n.tls_end }

-- the value of a name without a number
abbrev pub nothing : SymbolValue
nothing = record { value = 0; call = 0; size = 0; placed = false; got_content = 0 }

abbrev pub value_or_nothing : Option SymbolValue → SymbolValue
value_or_nothing None = nothing
value_or_nothing (Some v) = v

-- the value of the name of a row, and of the name with a number
abbrev pub value_with : List InputSummary → Placement → ℕ → Option NameRow → SymbolValue
value_with summaries place n None = nothing
value_with summaries place n (Some row) = value_of_row summaries place place n row

abbrev pub value_at : ValueInputs → ℕ → SymbolValue
value_at known n = value_with known.summaries known.place n (slice_get known.resolution.rows n)

-- what fields hold of the address of the GOT slot of an owner, for its value or for its thread offset
abbrev pub owner_slot : Placement → GotOwner → Bool → ℕ
owner_slot place o thread = low_64 (slot_address place (record { owner = o; thread = thread }))

-- the numbers of a symbol with this value, which has the GOT slots of this owner
abbrev pub symbol_numbers_by : Placement → SymbolValue → GotOwner → SymbolNumbers
symbol_numbers_by place v o = record {
  value = v.value;
  call = v.call;
  size = v.size;
  placed = v.placed;
  slot = owner_slot place o false;
  thread_slot = owner_slot place o true;
}

-- the numbers of the symbol that a reference of an input goes through: lk_model's, by their low 64 bits
abbrev pub symbol_numbers_of : Resolved → Placement → ℕ → Through → SymbolNumbers
symbol_numbers_of r place input (ByName n weak) =
    let s = name_value r place n in
    let w = winner_of_name r n in
    record {
      value = low_64 s;
      call = low_64 (call_value place w n s);
      size = winner_size r w;
      placed = is_placed_winner w;
      slot = owner_slot place (owner.Global n) false;
      thread_slot = owner_slot place (owner.Global n) true;
    }
symbol_numbers_of r place input (ByLocal k) =
    let s = local_value r place input k in
    let l = local_of r input k in
    record {
      value = low_64 s;
      call = low_64 s;
      size = l.size;
      placed = is_placed_home place input l.home;
      slot = owner_slot place (owner.Local input k) false;
      thread_slot = owner_slot place (owner.Local input k) true;
    }

-- the value of that symbol as it is
abbrev pub value_through : Resolved → Placement → ℕ → Through → ℕ
value_through r place input (ByName n weak) = name_value r place n
value_through r place input (ByLocal k) = local_value r place input k

-- the address of the GOT slot that a relocation of this type goes through
abbrev pub slot_by : ℕ → SymbolNumbers → ℕ
slot_by code w = if is_thread_slot code then w.thread_slot else w.slot

-- the numbers of a relocation through a symbol with these numbers
abbrev pub numbers_by : Placement → Relocation → SymbolNumbers → Numbers
numbers_by place x w = record {
  s = w.value;
  a = x.addend;
  p = x.address;
  l = w.call;
  slot = slot_by x.code w;
  got = got_address place;
  z = w.size;
  tls_start = block_edge w.placed (tls_start place);
  tls_end = block_edge w.placed (low_64 (tls_end place));
}

-- the content of a GOT slot of a symbol with this value
abbrev pub content_of : Placement → Bool → SymbolValue → ℕ
content_of place thread v = if thread then (if v.placed then minus v.got_content (low_64 (tls_end place)) else 0) else v.got_content
