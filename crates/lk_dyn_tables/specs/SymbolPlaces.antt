-- This project's own: the tables by which the rows of pieces and the PLT entries of a placement are looked up.
use Rattle.std.specs.Prelude.{◌≡◌, ℕ, ◌+◌, ◌*◌, List, Option, Some, None}
use Rattle.std.specs.Option.{option_map}
use Rattle.lk_elf.specs.Numbers.{shn_undef}
use Rattle.lk_model.specs.DynamicKeys.{plt_key}
use Rattle.lk_model.specs.Keys.{row_of}
use Rattle.lk_model.specs.Segments.{tls_start}
use Rattle.lk_model.specs.declared.layouts.PieceRow.{PieceRow}
use Rattle.lk_model.specs.declared.layouts.Placement.{Placement}
use Rattle.lk_model.specs.declared.layouts.SectionRow.{SectionRow}
use Rattle.lk_dyn_tables.specs.NamedRows.{FindsRows}
use Rattle.lk_dyn_tables.specs.declared.named_rows.NamedPiece.{NamedPiece}

abbrev pub address_of_section : SectionRow → ℕ
address_of_section row = row.addr

-- the number of the section header of a piece with this row, and its address
abbrev pub number_of_header : Option PieceRow → ℕ
number_of_header o = elim o [ None ↦ shn_undef | Some row ↦ row.section + 1 ]

abbrev pub address_of_piece : Option PieceRow → ℕ
address_of_piece o = elim o [ None ↦ 0 | Some row ↦ row.addr ]

-- the address of a PLT entry by its number; the first follows the entry that calls the loader
abbrev pub entry_address : Option ℕ → Option ℕ → ℕ
entry_address plt None = 0
entry_address None (Some number) = 0
entry_address (Some start) (Some number) = start + 16 * (number + 1)

-- the tables are those of the placement
pub record IsIndexed (named : List (NamedPiece × PieceRow)) (entries : List ℕ) (plt : Option ℕ) (tls : ℕ) (place : Placement) : Type 0 where
  pub rows_found : FindsRows named place.pieces
  pub entries_are : entries ≡ place.slots.plt
  pub plt_is : plt ≡ option_map address_of_section (row_of place plt_key)
  pub tls_is : tls ≡ tls_start place
