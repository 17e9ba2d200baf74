-- This project's own: the table of the rows of commons and copies.
use Rattle.std.specs.Prelude.{◌≡◌, ℕ, ◌==◌, Bool, false, cond, List, [], ◌∷◌, Option, Some, None}
use Rattle.std.specs.Map.{lookup}
use Rattle.lk_model.specs.declared.layouts.PieceId.{PieceId}
use Rattle.lk_model.specs.declared.layouts.PieceId.TheVariants as id
use Rattle.lk_model.specs.declared.layouts.PieceRow.{PieceRow}
use Rattle.lk_dyn_tables.specs.declared.named_rows.NamedPiece.{NamedPiece}
use Rattle.lk_dyn_tables.specs.declared.named_rows.NamedPiece.TheVariants as key

-- the key of a common or a copy, and the piece of a key
abbrev pub key_of : PieceId → Option NamedPiece
key_of (id.Section i s) = None
key_of (id.Common n) = Some (key.Common n)
key_of (id.Copy n) = Some (key.Copy n)

abbrev pub piece_of : NamedPiece → PieceId
piece_of (key.Common n) = id.Common n
piece_of (key.Copy n) = id.Copy n

-- two keys are the same
abbrev pub same_key : NamedPiece → NamedPiece → Bool
same_key (key.Common n) (key.Common m) = n == m
same_key (key.Copy n) (key.Copy m) = n == m
same_key _ _ = false

-- a piece has this key
abbrev pub has_key : Option NamedPiece → NamedPiece → Bool
has_key None k = false
has_key (Some own) k = same_key own k

-- the row that the entries have for a key
abbrev pub row_at : List (NamedPiece × PieceRow) → NamedPiece → Option PieceRow
row_at entries k = lookup (same_key k) entries

-- the first row of a piece
abbrev pub row_in : List PieceRow → NamedPiece → Option PieceRow
row_in [] k = None
row_in (row ∷ rows) k = cond (has_key (key_of row.piece) k) (Some row) (row_in rows k)

-- the entries have of each common and copy the first row
abbrev pub FindsRows : List (NamedPiece × PieceRow) → List PieceRow → Type 0
FindsRows entries rows = (k : NamedPiece) → row_at entries k ≡ row_in rows k
