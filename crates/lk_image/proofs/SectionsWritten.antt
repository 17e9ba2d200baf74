-- The sections of a link are written: its pieces and the fill of its holes, unless a value does not fit.
use Rattle.std.proofs.Common.{◌≡◌, refl, sym, ap, ◌∙◌, arith}
use Rattle.std.specs.Prelude.{ℕ, ◌^◌, ◌<◌, ◌≤◌, Bool, true, false, if◌then◌else◌, cond, List, [], ◌∷◌, ◌++◌, length, Option, Some, None}
use Rattle.std.specs.List.{enumerate_from, flat_map, slice_get, zip}
use Rattle.lk_report.specs.declared.faults.Fault.{Fault}
use Rattle.lk_model.specs.Answers.{fault_status, length_with}
use Rattle.lk_model.specs.FullPlace.{tail_start}
use Rattle.lk_model.specs.Images.{piece_stretch}
use Rattle.lk_model.specs.Overflows.{overflow_faults}
use Rattle.lk_model.specs.SectionKeys.{in_file}
use Rattle.lk_model.specs.Stretches.{Stretch}
use Rattle.lk_model.specs.Tail.{Part}
use Rattle.lk_model.specs.Views.{KeptPiece, Resolved}
use Rattle.lk_model.specs.declared.layouts.PieceRow.{PieceRow}
use Rattle.lk_model.specs.declared.layouts.Placement.{Placement}
use Rattle.lk_model.specs.declared.layouts.SectionRow.{SectionRow}
use Rattle.lk_fill.specs.Filled.{CanBeFilled}
use Rattle.lk_fill.specs.Filled as filled
use Rattle.lk_law_writes.specs.Written.{fill_stretches, piece_stretches, placed_stretch, row_fill, stretch_in, written}
use Rattle.lk_law_writes.proofs.LinkApart.{sections_end_within}
use Rattle.lk_relocate.specs.Written as linked
use Rattle.lk_symbol_values.specs.SymbolNumbering.{ValueInputs}
use Rattle.lk_image.specs.PlacedLinks.{IsFramed}

-- there are no faults
none_refuse : (r : Resolved) (place : Placement) (faults : List Fault) → faults ≡ overflow_faults r place → length faults ≤ 0 → (faults ≡ []) × (fault_status (overflow_faults r place) ≡ None)
none_refuse r place [] is few = (refl, ap fault_status (sym is))
none_refuse r place (f ∷ fs) is few = absurd (omega (arith, few))

-- the stretches of pieces and the fill are lk_law_writes's
fill_same : (place : Placement) (zs : List (ℕ × SectionRow)) → flat_map (filled.row_fill place) zs ≡ flat_map (row_fill place) zs
fill_same place [] = refl
fill_same place ((n, row) ∷ zs) = ap (λ (l : List Stretch). row_fill place (n, row) ++ l) (fill_same place zs)

piece_same : (r : Resolved) (place : Placement) (z : KeptPiece × PieceRow) (o : Option SectionRow) → linked.stretch_in r place z o ≡ stretch_in r place z o
piece_same r place z None = refl
piece_same r place z (Some row) = by (in_file row.key.class)
  where
    by : (b : Bool) → cond b (piece_stretch r place row z ∷ []) [] ≡ (if b then piece_stretch r place row z ∷ [] else [])
    by true = refl
    by false = refl

pieces_same : (r : Resolved) (place : Placement) (zs : List (KeptPiece × PieceRow))
    → flat_map (λ (x : KeptPiece × PieceRow). linked.stretch_in r place x (slice_get place.sections x.1.section)) zs ≡ flat_map (placed_stretch r place) zs
pieces_same r place [] = refl
pieces_same r place ((kept, p) ∷ zs) = λ i. piece_same r place (kept, p) (slice_get place.sections p.section) i ++ pieces_same r place zs i

at_most : (a n k : ℕ) → a ≤ n → k ≡ n → a ≤ k
at_most a n k below same = omega (arith, below, same)

below_fields : (a n : ℕ) → a ≤ n → n ≤ 2 ^ 29 → a < 2 ^ 32
below_fields a n below short = omega (arith, below, short)

pub sections_written : (known : ValueInputs) (objects : List (Option (List ℕ))) (r : Resolved) (parts : List Part) (front old mid new : List ℕ) (faults : List Fault)
    → IsFramed known objects r parts front
    → length old ≡ length_with known.place parts
    → faults ≡ overflow_faults r known.place
    → (tail_start known.place ≤ length old → faults ≡ [] → mid ≡ linked.written old (linked.piece_stretches r known.place))
    → length mid ≡ length old
    → (CanBeFilled known.place (length mid) → new ≡ filled.written mid (filled.fill_stretches known.place))
    → length faults ≤ 0
    → (fault_status (overflow_faults r known.place) ≡ None) × (new ≡ written (written old (piece_stretches r known.place)) (fill_stretches known.place))
sections_written known objects r parts front old mid new faults framed whole reported link long fill few =
    let place : Placement = known.place in
    let none = none_refuse r place faults reported few in
    let within : tail_start place ≤ length_with place parts = sections_end_within place parts in
    let inside : tail_start place ≤ length old = at_most (tail_start place) (length_with place parts) (length old) within whole in
    let can_fill : CanBeFilled place (length mid) = record {
      fillable = framed.linked.link.lawful.fillable;
      inside = at_most (tail_start place) (length old) (length mid) inside long;
      short = below_fields (tail_start place) (length_with place parts) within framed.short;
    } in
    let mid_is : mid ≡ written old (piece_stretches r place) = link inside none.0 ∙ ap (written old) (pieces_same r place (zip r.kept place.pieces)) in
    (none.1, fill can_fill ∙ (λ i. written (mid_is i) (fill_same place (enumerate_from 0 place.sections) i)))
