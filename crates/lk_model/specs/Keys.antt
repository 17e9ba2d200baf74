-- How keys and pieces are distinguished and looked up in a placement (this project's own).
use Rattle.std.specs.Prelude.{ℕ, ◌==◌, Bool, true, false, ◌&&◌, Option, Some, None, find, position}
use Rattle.lk_model.specs.SectionKeys.{same_key}
use Rattle.lk_model.specs.declared.layouts.GotKey.{GotKey}
use Rattle.lk_model.specs.declared.layouts.GotOwner.{GotOwner}
use Rattle.lk_model.specs.declared.layouts.GotOwner.TheVariants as owner
use Rattle.lk_model.specs.declared.layouts.PieceId.{PieceId}
use Rattle.lk_model.specs.declared.layouts.PieceId.TheVariants as id
use Rattle.lk_model.specs.declared.layouts.PieceRow.{PieceRow}
use Rattle.lk_model.specs.declared.layouts.Placement.{Placement}
use Rattle.lk_model.specs.declared.layouts.SectionKey.{SectionKey}
use Rattle.lk_model.specs.declared.layouts.SectionRow.{SectionRow}

-- two pieces are the same
abbrev pub same_piece : PieceId → PieceId → Bool
same_piece (id.Section i s) (id.Section j t) = (i == j) && (s == t)
same_piece (id.Common n) (id.Common m) = n == m
same_piece (id.Copy n) (id.Copy m) = n == m
same_piece _ _ = false

-- two GOT keys are the same
abbrev pub same_owner : GotOwner → GotOwner → Bool
same_owner (owner.Global n) (owner.Global m) = n == m
same_owner (owner.Local i k) (owner.Local j l) = (i == j) && (k == l)
same_owner _ _ = false

abbrev pub same_truth : Bool → Bool → Bool
same_truth true b = b
same_truth false true = false
same_truth false false = true

abbrev pub same_got : GotKey → GotKey → Bool
same_got a b = same_truth a.thread b.thread && same_owner a.owner b.owner

-- the row of a key
abbrev pub row_of : Placement → SectionKey → Option SectionRow
row_of place k = find (λ row. same_key row.key k) place.sections

-- the row of a piece
abbrev pub piece_row_of : Placement → PieceId → Option PieceRow
piece_row_of place p = find (λ row. same_piece row.piece p) place.pieces

-- whether a slot is that of a key
abbrev pub is_slot_of : GotKey → Option GotKey → Bool
is_slot_of k None = false
is_slot_of k (Some other) = same_got k other

-- the number of a key's GOT slot
abbrev pub slot_number : Placement → GotKey → Option ℕ
slot_number place k = position (is_slot_of k) place.slots.got

-- the number of a name's PLT entry
abbrev pub plt_number : Placement → ℕ → Option ℕ
plt_number place n = position (λ m. m == n) place.slots.plt
