-- The linked bytes of a piece: its input's bytes with each field replaced (gABI "Relocation"; psABI
-- x86-64 "Relocation Types").
use Rattle.std.specs.Prelude.{ℕ, ◌+◌, ◌==◌, Bool, true, false, ◌&&◌, List, [], ◌++◌, length, take, drop, filter, fold, Some, None, slice_get}
use Rattle.lk_elf.specs.Fields.{bytes_of}
use Rattle.lk_model.specs.Objects.{piece_bytes_in}
use Rattle.lk_model.specs.RelocationTypes.{width_of}
use Rattle.lk_model.specs.SymbolValues.{reference_value}
use Rattle.lk_model.specs.Views.{Resolved, Ref, KeptPiece}
use Rattle.lk_model.specs.declared.layouts.PieceId.TheVariants as id
use Rattle.lk_model.specs.declared.layouts.Placement.{Placement}

-- bytes with a part of them replaced
abbrev pub patch : List ℕ → ℕ → List ℕ → List ℕ
patch bytes at new = take at bytes ++ new ++ drop (at + length new) bytes

-- the field of a reference at a placement: the low bytes of its value
abbrev pub field_of : Resolved → Placement → Ref → List ℕ
field_of r place ref = bytes_of (width_of ref.code) (reference_value r place ref)

-- the bytes with the fields of these references replaced; no two fields share a byte
abbrev pub with_fields : Resolved → Placement → List Ref → List ℕ → List ℕ
with_fields r place refs bytes = fold (λ b (ref : Ref). patch b ref.offset (field_of r place ref)) bytes refs

-- the references of a section of an input
abbrev pub is_reference_in : ℕ → ℕ → Ref → Bool
is_reference_in input section ref = (ref.input == input) && (ref.section == section)

abbrev pub references_in : Resolved → ℕ → ℕ → List Ref
references_in r input section = filter (is_reference_in input section) r.references

-- the linked bytes of a section of an input that has bytes in its file; a terminator has none
abbrev pub section_bytes : Resolved → Placement → ℕ → ℕ → List ℕ
section_bytes r place input section =
    elim (slice_get r.inputs input) [ None ↦ [] | Some i ↦ with_fields r place (references_in r input section) (piece_bytes_in i.elf section) ]

unfoldable pub linked_bytes : Resolved → Placement → KeptPiece → List ℕ
linked_bytes r place kept =
    elim kept.terminator [
      | true ↦ []
      | false ↦ elim kept.piece [
        | id.Section i s ↦ section_bytes r place i s
        | id.Common n ↦ []
        | id.Copy n ↦ []
      ]
    ]
