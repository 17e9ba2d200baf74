-- The look-ups of the tables give what lk_model finds in the placement.
use Rattle.std.proofs.Common.{◌≡◌, refl, ap, ◌∙◌, ℕ, ◌+◌, ◌*◌, ◌==◌, cond, List, [], ◌∷◌, find, position, unwrap_or, Option, Some, None}
use Rattle.std.specs.Option.{option_map}
use Rattle.lk_model.specs.DynamicKeys.{plt_key}
use Rattle.lk_model.specs.Keys.{piece_row_of, plt_number, row_of, same_piece}
use Rattle.lk_model.specs.SymbolValues.{plt_address}
use Rattle.lk_model.specs.declared.layouts.PieceId.{PieceId}
use Rattle.lk_model.specs.declared.layouts.PieceId.TheVariants as id
use Rattle.lk_model.specs.declared.layouts.PieceRow.{PieceRow}
use Rattle.lk_model.specs.declared.layouts.Placement.{Placement}
use Rattle.lk_model.specs.declared.layouts.SectionRow.{SectionRow}
use Rattle.lk_dyn_tables.specs.NamedRows.{FindsRows, has_key, key_of, piece_of, row_at, row_in}
use Rattle.lk_dyn_tables.specs.SymbolPlaces.{IsIndexed, address_of_section, entry_address}
use Rattle.lk_dyn_tables.specs.declared.named_rows.NamedPiece.{NamedPiece}
use Rattle.lk_dyn_tables.specs.declared.named_rows.NamedPiece.TheVariants as key

-- commons and copies
keys_same : (q : PieceId) (k : NamedPiece) → has_key (key_of q) k ≡ same_piece q (piece_of k)
keys_same (id.Section i s) (key.Common m) = refl
keys_same (id.Section i s) (key.Copy m) = refl
keys_same (id.Common n) (key.Common m) = refl
keys_same (id.Common n) (key.Copy m) = refl
keys_same (id.Copy n) (key.Common m) = refl
keys_same (id.Copy n) (key.Copy m) = refl

in_rows : (rows : List PieceRow) (k : NamedPiece) → row_in rows k ≡ find (λ (row : PieceRow). same_piece row.piece (piece_of k)) rows
in_rows [] k = refl
in_rows (row ∷ rows) k = λ i. cond (keys_same row.piece k i) (Some row) (in_rows rows k i)

pub named_found : (entries : List (NamedPiece × PieceRow)) (place : Placement) → FindsRows entries place.pieces → (k : NamedPiece) → row_at entries k ≡ piece_row_of place (piece_of k)
named_found entries place finds k = finds k ∙ in_rows place.pieces k

-- PLT entries
entry_with : (row : Option SectionRow) (n : Option ℕ)
    → entry_address (option_map address_of_section row) n ≡ unwrap_or (elim n [ None ↦ None | Some k ↦ option_map (λ (row : SectionRow). row.addr + 16 * (k + 1)) row ]) 0
entry_with row None = refl
entry_with None (Some k) = refl
entry_with (Some row) (Some k) = refl

pub entry_found : (named : List (NamedPiece × PieceRow)) (entries : List ℕ) (plt : Option ℕ) (tls : ℕ) (place : Placement) → IsIndexed named entries plt tls place
    → (n : ℕ) → entry_address plt (position (λ m. m == n) entries) ≡ unwrap_or (plt_address place n) 0
entry_found named entries plt tls place is n =
    (λ i. entry_address (is.plt_is i) (position (λ m. m == n) (is.entries_are i)))
    ∙ entry_with (row_of place plt_key) (plt_number place n)
