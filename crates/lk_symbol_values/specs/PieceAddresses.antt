-- This project's own: the table of the addresses of commons and copies.
use Rattle.std.specs.Prelude.{◌≡◌, ℕ, ◌==◌, Bool, false, cond, List, [], ◌∷◌, Option, Some, None}
use Rattle.std.specs.Map.{lookup}
use Rattle.lk_model.specs.declared.layouts.PieceId.{PieceId}
use Rattle.lk_model.specs.declared.layouts.PieceId.TheVariants as id
use Rattle.lk_model.specs.declared.layouts.PieceRow.{PieceRow}
use Rattle.lk_symbol_values.specs.declared.piece_addresses.PieceKey.{PieceKey}
use Rattle.lk_symbol_values.specs.declared.piece_addresses.PieceKey.TheVariants as key

-- the key of a common or a copy, and the piece of a key
abbrev pub key_of : PieceId → Option PieceKey
key_of (id.Section i s) = None
key_of (id.Common n) = Some (key.Common n)
key_of (id.Copy n) = Some (key.Copy n)

abbrev pub piece_of : PieceKey → PieceId
piece_of (key.Common n) = id.Common n
piece_of (key.Copy n) = id.Copy n

-- two keys are the same
abbrev pub same_key : PieceKey → PieceKey → Bool
same_key (key.Common n) (key.Common m) = n == m
same_key (key.Copy n) (key.Copy m) = n == m
same_key _ _ = false

-- a piece has this key
abbrev pub has_key : Option PieceKey → PieceKey → Bool
has_key None k = false
has_key (Some own) k = same_key own k

-- the address that the entries have for a key
abbrev pub address_of : List (PieceKey × ℕ) → PieceKey → Option ℕ
address_of entries k = lookup (same_key k) entries

-- the address in the first row of a piece
abbrev pub address_in : List PieceRow → PieceKey → Option ℕ
address_in [] k = None
address_in (row ∷ rows) k = cond (has_key (key_of row.piece) k) (Some row.addr) (address_in rows k)

-- the entries give of each common and copy the address in its first row
abbrev pub FindsPieces : List (PieceKey × ℕ) → List PieceRow → Type 0
FindsPieces entries rows = (k : PieceKey) → address_of entries k ≡ address_in rows k
