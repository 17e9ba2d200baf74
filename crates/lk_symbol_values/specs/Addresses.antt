-- This project's own: the tables by which rows and slots of a placement are looked up.
use Rattle.std.specs.Prelude.{◌≡◌, ℕ, ◌+◌, ◌*◌, true, false, List, Option, Some, None, codes}
use Rattle.std.specs.Option.{option_map}
use Rattle.lk_model.specs.Keys.{row_of}
use Rattle.lk_model.specs.SectionKeys.{named}
use Rattle.lk_model.specs.Segments.{tls_end, tls_start}
use Rattle.lk_model.specs.SymbolValues.{got_address}
use Rattle.lk_model.specs.declared.layouts.Class.TheVariants.{W, X}
use Rattle.lk_model.specs.declared.layouts.PieceRow.{PieceRow}
use Rattle.lk_model.specs.declared.layouts.Placement.{Placement}
use Rattle.lk_symbol_values.specs.PieceAddresses.{FindsPieces}
use Rattle.lk_symbol_values.specs.Sections.{address_of_row, low_64}
use Rattle.lk_symbol_values.specs.SlotNumbers.{FindsEntries, FindsSlots}
use Rattle.lk_symbol_values.specs.declared.addresses.Tables.{Tables}
use Rattle.lk_symbol_values.specs.declared.piece_addresses.PieceKey.{PieceKey}
use Rattle.lk_symbol_values.specs.declared.slot_numbers.OwnerKey.{OwnerKey}

abbrev pub address_of_piece : PieceRow → ℕ
address_of_piece row = row.addr

abbrev pub or_zero : Option ℕ → ℕ
or_zero None = 0
or_zero (Some n) = n

-- the low bits of the address of a PLT entry by its number; the first follows the entry that calls the loader
abbrev pub entry_address : Option ℕ → Option ℕ → Option ℕ
entry_address plt None = None
entry_address plt (Some number) = option_map (λ start. low_64 (start + 16 * (number + 1))) plt

-- the low bits of the address of a GOT slot by its number
abbrev pub slot_at : Option ℕ → Option ℕ → ℕ
slot_at got None = 0
slot_at None (Some number) = 0
slot_at (Some start) (Some number) = low_64 (start + 8 * number)

-- where the tables of a placement are
abbrev pub tables_of : Placement → Tables
tables_of place = record {
  got = option_map address_of_row (row_of place (named (codes ".got") W));
  got_plt = got_address place;
  plt = option_map address_of_row (row_of place (named (codes ".plt") X));
  tls_start = tls_start place;
  tls_end = low_64 (tls_end place);
}

-- the tables are those of the placement
pub record IsIndexed (pieces : List (PieceKey × ℕ)) (values threads : List (OwnerKey × ℕ)) (entries : List (ℕ × ℕ)) (tables : Tables) (place : Placement) : Type 0 where
  pub pieces_found : FindsPieces pieces place.pieces
  pub values_found : FindsSlots false values place.slots.got
  pub threads_found : FindsSlots true threads place.slots.got
  pub entries_found : FindsEntries entries place.slots.plt
  pub tables_are : tables ≡ tables_of place
