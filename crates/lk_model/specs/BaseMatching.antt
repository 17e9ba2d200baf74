-- This project's own: how what an earlier image records is found again in a link: inputs by their path
-- and occurrence, names by their text. Numbers in the records are those of the earlier link.
use Rattle.std.specs.Prelude.{ℕ, ◌==◌, ◌&&◌, not, nat_lt, Bool, true, false, List, position, Option, Some, None, option_map, option_and_then, slice_get}
use Rattle.std.specs.Str.{bytes_eq}
use Rattle.lk_model.specs.Finding.{number_among}
use Rattle.lk_model.specs.Views.{Input, Resolved}
use Rattle.lk_model.specs.declared.layouts.GotKey.{GotKey}
use Rattle.lk_model.specs.declared.layouts.GotOwner.{GotOwner}
use Rattle.lk_model.specs.declared.layouts.GotOwner.TheVariants as owner
use Rattle.lk_model.specs.declared.layouts.PieceId.{PieceId}
use Rattle.lk_model.specs.declared.layouts.PieceId.TheVariants as piece
use Rattle.lk_model.specs.declared.records.InputRecord.{InputRecord}
use Rattle.lk_model.specs.declared.records.NameRow.{NameRow}
use Rattle.lk_model.specs.declared.records.Records.{Records}
use Rattle.lk_model.specs.declared.summaries.Contributions.{Contributions}
use Rattle.lk_model.specs.declared.summaries.Kind.TheVariants as kind

-- whether a recorded input has the path and the occurrence of an input
abbrev pub is_record_of : Input → InputRecord → Bool
is_record_of x i = bytes_eq i.path x.path && i.occurrence == x.occurrence

-- whether an input was recorded as a shared object
abbrev pub is_shared_record : InputRecord → Bool
is_shared_record i = elim i.summary.kind [ kind.Object ↦ false | kind.Shared ↦ true ]

-- whether this record is taken for an input: it has its path and occurrence, and what was recorded as a
-- shared object is no member of a lib group now, which is read as an object
abbrev pub refers_to : Input → InputRecord → Bool
refers_to x i = is_record_of x i && not (is_shared_record i && nat_lt 0 x.lib)

-- the recorded number of an input
abbrev pub number_before : Records → Input → Option ℕ
number_before base x = position (refers_to x) base.inputs

-- whether the record of a number is the one that is taken for an input
abbrev pub is_its_record : Records → ℕ → Input → Bool
is_its_record base n x = elim (number_before base x) [ None ↦ false | Some m ↦ m == n ]

-- the number that a recorded input has in this link; none where the command has it no more
abbrev pub input_now : Records → List Input → ℕ → Option ℕ
input_now base inputs n = position (is_its_record base n) inputs

-- the number that a recorded name has in this link; none where the link has it no more
abbrev pub name_now : Records → List Contributions → ℕ → Option ℕ
name_now base names n = option_and_then (λ (row : NameRow). number_among names row.name) (slice_get base.names n)

-- a recorded piece by this link's numbers
abbrev pub piece_now : Records → Resolved → PieceId → Option PieceId
piece_now base r p = elim p [
  | piece.Section i s ↦ option_map (λ n. piece.Section n s) (input_now base r.inputs i)
  | piece.Common n ↦ option_map (λ m. piece.Common m) (name_now base r.names n)
  | piece.Copy n ↦ option_map (λ m. piece.Copy m) (name_now base r.names n)
]

-- the recorded owner of a slot by this link's numbers; a LOCAL symbol keeps its number
abbrev pub owner_now : Records → Resolved → GotOwner → Option GotOwner
owner_now base r o = elim o [
  | owner.Global n ↦ option_map (λ m. owner.Global m) (name_now base r.names n)
  | owner.Local i k ↦ option_map (λ n. owner.Local n k) (input_now base r.inputs i)
]

-- a recorded slot by this link's numbers; free where its owner is gone
abbrev pub slot_now : Records → Resolved → Option GotKey → Option GotKey
slot_now base r slot =
    option_and_then (λ (k : GotKey). option_map (λ o. record { owner = o; thread = k.thread }) (owner_now base r k.owner)) slot
