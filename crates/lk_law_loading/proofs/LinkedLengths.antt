-- A kept piece that the file holds has as many linked bytes as its size.
use Rattle.std.specs.Prelude.{◌≡◌, ℕ, ◌+◌, ◌≤◌, ◌==◌, Bool, true, false, List, [], ◌∷◌, length, Option, Some, None, refl}
use Rattle.std.specs.List.{AllByRecursion, slice_get}
use Rattle.std.proofs.Common.{ap, arith, subst, sym, ◌∙◌}
use Rattle.std.proofs.lemmas.Bool.{and_parts, both_ways, eqb-true}
use Rattle.std.proofs.lemmas.Grind.{common_steps}
use Rattle.lk_elf.proofs.Widths.{length-bytes_of}
use Rattle.lk_model.specs.LinkedBytes.{field_of, is_reference_in, linked_bytes, patch, references_in, section_bytes, with_fields}
use Rattle.lk_model.specs.Objects.{piece_bytes_in}
use Rattle.lk_model.specs.RelocationTypes.{width_of}
use Rattle.lk_model.specs.SectionKeys.{in_file}
use Rattle.lk_model.specs.SymbolValues.{reference_value}
use Rattle.lk_model.specs.Views.{Input, KeptPiece, Ref, Resolved}
use Rattle.lk_model.specs.declared.layouts.PieceId.{PieceId}
use Rattle.lk_model.specs.declared.layouts.PieceId.TheVariants as id
use Rattle.lk_model.specs.declared.layouts.Placement.{Placement}
use Rattle.lk_model.proofs.Rising.{all_filter, all_pass}
use Rattle.lk_law_placement.specs.SoundPieces.{SoundPiece}
use Rattle.lk_law_placement.proofs.DistinctLists.{all_both}
use Rattle.lk_law_loading.specs.Loadable.{IsWhole}
use Rattle.lk_law_loading.proofs.KeptRead.{FieldInside, KeptRead, ReadAs}

-- bytes with a part replaced are as many
length_patch : (bytes new : List ℕ) (at : ℕ) → at + length new ≤ length bytes → length (patch bytes at new) ≡ length bytes
length_patch bytes new at fits = grind (arith, common_steps)

length_with_fields :
    (r : Resolved) (place : Placement) (refs : List Ref) (bytes : List ℕ) (n : ℕ)
    → length bytes ≡ n
    → AllByRecursion (λ (ref : Ref). ref.offset + width_of ref.code ≤ n) refs
    → length (with_fields r place refs bytes) ≡ n
length_with_fields r place [] bytes n long all = long
length_with_fields r place (ref ∷ refs) bytes n long all =
    let wide = length-bytes_of (width_of ref.code) (reference_value r place ref) in
    let here = all.0 in
    let patched = length_patch bytes (field_of r place ref) ref.offset (omega (arith, wide, here, long)) in
    length_with_fields r place refs (patch bytes ref.offset (field_of r place ref)) n (patched ∙ long) all.1

-- the references of a section have their fields in it
inside_section :
    (inputs : List Input) (number section : ℕ) (input : Input) (ref : Ref)
    → slice_get inputs number ≡ Some input
    → FieldInside inputs ref
    → is_reference_in number section ref ≡ true
    → ref.offset + width_of ref.code ≤ length (piece_bytes_in input.elf section)
inside_section inputs number section input ref there f is =
    let parts = and_parts (ref.input == number) (ref.section == section) is in
    let one : ref.input ≡ number = eqb-true ref.input number parts.0 in
    let other : ref.section ≡ section = eqb-true ref.section section parts.1 in
    let own : slice_get inputs ref.input ≡ Some input = subst (λ (k : ℕ). slice_get inputs k ≡ Some input) (sym one) there in
    subst (λ (k : ℕ). ref.offset + width_of ref.code ≤ length (piece_bytes_in input.elf k)) other (f.inside input own)

length_section :
    (r : Resolved) (place : Placement) (number section : ℕ) (input : Input)
    → slice_get r.inputs number ≡ Some input
    → AllByRecursion (FieldInside r.inputs) r.references
    → length (section_bytes r place number section) ≡ length (piece_bytes_in input.elf section)
length_section r place number section input there inside =
    let same : section_bytes r place number section ≡ with_fields r place (references_in r number section) (piece_bytes_in input.elf section) =
    ap (λ (o : Option Input). elim o [ None ↦ [] | Some i ↦ with_fields r place (references_in r number section) (piece_bytes_in i.elf section) ]) there in
    ap length same
    ∙ (length_with_fields r place (references_in r number section) (piece_bytes_in input.elf section) (length (piece_bytes_in input.elf section)) refl
    (all_both (λ (ref : Ref) f is. inside_section r.inputs number section input ref there f is) (references_in r number section)
    (all_filter (FieldInside r.inputs) (is_reference_in number section) r.references inside)
    (all_pass (is_reference_in number section) r.references)))

-- the linked bytes of a piece of each kind
linked_as :
    (r : Resolved) (place : Placement) (kept : KeptPiece) (piece : PieceId)
    → kept.terminator ≡ false
    → kept.piece ≡ piece
    → ReadAs r.inputs kept piece
    → AllByRecursion (FieldInside r.inputs) r.references
    → in_file kept.key.class ≡ true
    → length (linked_bytes r place kept) ≡ kept.size
unfolding linked_bytes
linked_as r place kept (id.Section number section) other is read inside stored =
    rw other (rw is (length_section r place number section read.input read.there inside ∙ read.size stored other))
linked_as r place kept (id.Common name) other is read inside stored = absurd (both_ways (in_file kept.key.class) read stored)
linked_as r place kept (id.Copy name) other is read inside stored = absurd (both_ways (in_file kept.key.class) read stored)

-- a kept piece has as many linked bytes as its size
pub kept_whole : (r : Resolved) (place : Placement) (kept : KeptPiece) → SoundPiece kept → KeptRead r.inputs kept → AllByRecursion (FieldInside r.inputs) r.references → IsWhole r place kept
unfolding linked_bytes
kept_whole r place kept sound known inside stored = go kept.terminator refl
  where
    go : (b : Bool) → kept.terminator ≡ b → length (linked_bytes r place kept) ≡ kept.size
    go true e = rw e (sym (sound.empty e))
    go false e = linked_as r place kept kept.piece e refl known.read inside stored
