-- Where every value fits, the placed pieces that are put into a file are the stretches of the kept pieces, written one
-- after another.
use Rattle.std.proofs.Common.{◌≡◌, refl, sym, ap, ◌∙◌, arith, ℕ, ◌+◌, ◌-◌, ◌<◌, ◌≤◌, Bool, true, false, cond, nat_le, List, [], ◌∷◌, flat_map, fold, length, map, zip, Option, None, Some, slice_get}
use Rattle.std.proofs.lemmas.Bool.Decides.{nat_tests}
use Rattle.std.proofs.lemmas.List.Sums.{fold-append}
use Rattle.std.specs.List.{AllByRecursion, cons_option}
use Rattle.lk_report.specs.declared.faults.Fault.{Fault}
use Rattle.lk_report.specs.declared.faults.Fault.TheVariants as fault
use Rattle.lk_model.specs.declared.layouts.PieceId.{PieceId}
use Rattle.lk_model.specs.declared.layouts.PieceId.TheVariants as id
use Rattle.lk_model.specs.declared.layouts.PieceRow.{PieceRow}
use Rattle.lk_model.specs.declared.layouts.Placement.{Placement}
use Rattle.lk_model.specs.declared.layouts.SectionRow.{SectionRow}
use Rattle.lk_model.specs.Elf.{elf_of}
use Rattle.lk_model.specs.Images.{piece_stretch}
use Rattle.lk_model.specs.Lawful.{as_kept, as_placed}
use Rattle.lk_model.specs.LinkedBytes.{field_of, is_reference_in, linked_bytes, patch, references_in, section_bytes, with_fields}
use Rattle.lk_model.specs.Objects.{piece_bytes_in, relocations_in}
use Rattle.lk_model.specs.Overflows.{overflow_faults, path_of_input}
use Rattle.lk_model.specs.SectionKeys.{in_file}
use Rattle.lk_model.specs.Stretches.{Stretch}
use Rattle.lk_model.specs.SymbolValues.{numbers_of, reference_fits, reference_value}
use Rattle.lk_model.specs.Views.{Input, KeptPiece, Ref, Resolved}
use Rattle.lk_model.proofs.Rising.{all_filter}
use Rattle.lk_relocate.specs.Fields.{all_filled}
use Rattle.lk_relocate.specs.ObjectsOfInputs.{IsObjectOf}
use Rattle.lk_relocate.specs.Faults.{overflows}
use Rattle.lk_relocate.specs.Places.{piece_filled, put_in_row, with_piece}
use Rattle.lk_relocate.specs.References.{piece_references, references_by}
use Rattle.lk_relocate.specs.Written.{placed_stretch, stretch_in, written}
use Rattle.lk_relocate.proofs.KeptInObject.{StoredAs, KeptInObject}
use Rattle.lk_relocate.proofs.PlacedPieces.{none_kept, none_placed, others_same, piece_same, size_same}
use Rattle.lk_relocate.proofs.PlacesReported.{filled_is, object_filled, references_are}
use Rattle.lk_relocate.proofs.ReferencesOnce.{HasOwn}

-- ---- values that fit

abbrev Fits : Resolved → Placement → Ref → Type 0
Fits r place ref = reference_fits r place ref ≡ true

-- where no fault is reported, every value fits
pub all_fit : (r : Resolved) (place : Placement) (refs : List Ref) → overflows r place refs ≡ [] → AllByRecursion (Fits r place) refs
all_fit r place [] e = tt
all_fit r place (ref ∷ refs) e = by (reference_fits r place ref) refl e (all_fit r place refs)
  where
    reported : Fault
    reported = fault.Overflow (record { path = path_of_input r ref.input; section = ref.section; offset = ref.offset }) (numbers_of r place ref).p (numbers_of r place ref).s (numbers_of r place ref).a (reference_value r place ref)

    by : (b : Bool) → reference_fits r place ref ≡ b → cons_option (cond b None (Some reported)) (overflows r place refs) ≡ [] → (overflows r place refs ≡ [] → AllByRecursion (Fits r place) refs) → AllByRecursion (Fits r place) (ref ∷ refs)
    by true is h rest = (is, rest h)
    by false is h rest = absurd (cc)

-- the fields are then those of lk_model
pub fields_filled : (r : Resolved) (place : Placement) (refs : List Ref) (bytes : List ℕ) → AllByRecursion (Fits r place) refs → with_fields r place refs bytes ≡ all_filled r place bytes refs
fields_filled r place [] bytes h = refl
fields_filled r place (ref ∷ refs) bytes h =
    fields_filled r place refs (patch bytes ref.offset (field_of r place ref)) h.1
    ∙ ap (λ b. all_filled r place (cond b (patch bytes ref.offset (field_of r place ref)) bytes) refs) (sym h.0)

-- ---- linked bytes

le_is : (a b : ℕ) → a ≤ b → nat_le a b ≡ true
le_is a b h = grind (arith, nat_tests)

le_not : (a b : ℕ) → b < a → nat_le a b ≡ false
le_not a b h = grind (arith, nat_tests)

linked_as : Resolved → Placement → Bool → PieceId → List ℕ
linked_as r place terminator p = elim terminator [ true ↦ [] | false ↦ elim p [ id.Section i s ↦ section_bytes r place i s | id.Common n ↦ [] | id.Copy n ↦ [] ] ]

linked_is : (r : Resolved) (place : Placement) (k : KeptPiece) (terminator : Bool) (p : PieceId) → k.terminator ≡ terminator → k.piece ≡ p → linked_bytes r place k ≡ linked_as r place terminator p
unfolding linked_bytes linked_as
linked_is r place k terminator p e f = λ i. linked_as r place (e i) (f i)

section_linked : (r : Resolved) (place : Placement) (n section : ℕ) (bytes : List ℕ) (o : IsObjectOf r.inputs n bytes) → references_in r n section ≡ piece_references r (id.Section n section) → AllByRecursion (Fits r place) r.references → section_bytes r place n section ≡ object_filled r place n bytes section
section_linked r place n section bytes o own fit =
    let file : o.input.elf ≡ elf_of bytes = o.file in
    let refs : references_in r n section ≡ references_by r n bytes section (relocations_in (elf_of bytes) section) = own ∙ references_are r n section bytes o in
    ap (λ (x : Option Input). elim x [ None ↦ [] | Some i ↦ with_fields r place (references_in r n section) (piece_bytes_in i.elf section) ]) o.there
    ∙ fields_filled r place (references_in r n section) (piece_bytes_in o.input.elf section) (all_filter (Fits r place) (is_reference_in n section) r.references fit)
    ∙ (λ i. all_filled r place (piece_bytes_in (file i) section) (refs i))

stored_bytes : (objects : List (Option (List ℕ))) (r : Resolved) (place : Placement) (k : KeptPiece) → HasOwn r k → AllByRecursion (Fits r place) r.references → (terminator : Bool) (p : PieceId) → k.terminator ≡ terminator → k.piece ≡ p → StoredAs objects r k p → linked_as r place terminator p ≡ piece_filled r place k.size p
unfolding linked_as
stored_bytes objects r place k own fit true (id.Section n section) e f h =
    let bytes : List ℕ = h.known.bytes in
    sym (filled_is r place k.size n section bytes h.known.object ∙ ap (λ b. cond b (object_filled r place n bytes section) []) (le_not (length (piece_bytes_in (elf_of bytes) section)) k.size (h.long e)))
stored_bytes objects r place k own fit false (id.Section n section) e f h =
    let bytes : List ℕ = h.known.bytes in
    section_linked r place n section bytes h.known.object (own n section f ∙ ap (piece_references r) f) fit
    ∙ sym (filled_is r place k.size n section bytes h.known.object ∙ ap (λ b. cond b (object_filled r place n bytes section) []) (le_is (length (piece_bytes_in (elf_of bytes) section)) k.size (h.short e)))
stored_bytes objects r place k own fit true (id.Common name) e f h = refl
stored_bytes objects r place k own fit false (id.Common name) e f h = refl
stored_bytes objects r place k own fit true (id.Copy name) e f h = refl
stored_bytes objects r place k own fit false (id.Copy name) e f h = refl

kept_bytes : (objects : List (Option (List ℕ))) (r : Resolved) (place : Placement) (k : KeptPiece) → KeptInObject objects r k → AllByRecursion (Fits r place) r.references → linked_bytes r place k ≡ piece_filled r place k.size k.piece
kept_bytes objects r place k h fit =
    linked_is r place k k.terminator k.piece refl refl ∙ stored_bytes objects r place k h.own fit k.terminator k.piece refl refl h.in_object

-- ---- pieces one after another

one_written : (r : Resolved) (place : Placement) (image : List ℕ) (p : PieceRow) (k : KeptPiece) → linked_bytes r place k ≡ piece_filled r place p.size p.piece → (o : Option SectionRow) → put_in_row r place image p o ≡ written image (stretch_in r place (k, p) o)
one_written r place image p k same None = refl
one_written r place image p k same (Some row) = by (in_file row.key.class)
  where
    by : (b : Bool) → cond b (patch image (row.offset + (p.addr - row.addr)) (piece_filled r place p.size p.piece)) image ≡ written image (cond b (piece_stretch r place row (k, p) ∷ []) [])
    by true = ap (patch image (row.offset + (p.addr - row.addr))) (sym same)
    by false = refl

abbrev stretches_among : Resolved → Placement → List (KeptPiece × PieceRow) → List Stretch
stretches_among r place xs = flat_map (placed_stretch r place) xs

pub pieces_written : (objects : List (Option (List ℕ))) (r : Resolved) (place : Placement) (image : List ℕ) (ps : List PieceRow) (ks : List KeptPiece) → map as_placed ps ≡ map as_kept ks → AllByRecursion (KeptInObject objects r) ks → AllByRecursion (Fits r place) r.references
    → fold (with_piece r place) image ps ≡ written image (stretches_among r place (zip ks ps))
pieces_written objects r place image [] [] e in_object fit = refl
pieces_written objects r place image [] (k ∷ ks) e in_object fit = none_placed k ks e
pieces_written objects r place image (p ∷ ps) [] e in_object fit = none_kept p ps e
pieces_written objects r place image (p ∷ ps) (k ∷ ks) e in_object fit =
    let piece : p.piece ≡ k.piece = piece_same p k ps ks e in
    let size : p.size ≡ k.size = size_same p k ps ks e in
    let bytes : linked_bytes r place k ≡ piece_filled r place p.size p.piece = kept_bytes objects r place k in_object.0 fit ∙ (λ i. piece_filled r place (sym size i) (sym piece i)) in
    let row : Option SectionRow = slice_get place.sections p.section in
    let step : List ℕ → Stretch → List ℕ = λ bytes s. patch bytes s.at s.bytes in
    pieces_written objects r place (with_piece r place image p) ps ks (others_same p k ps ks e) in_object.1 fit
    ∙ ap (λ (b : List ℕ). written b (stretches_among r place (zip ks ps))) (one_written r place image p k bytes row)
    ∙ sym (fold-append step image (stretch_in r place (k, p) row) (stretches_among r place (zip ks ps)))

-- the faults of a link are those of its references
pub faults_are : (r : Resolved) (place : Placement) → overflows r place r.references ≡ overflow_faults r place
unfolding overflow_faults
faults_are r place = refl
