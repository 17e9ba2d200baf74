-- Each row of a full placement is aligned to what its pieces ask for.
use Rattle.std.specs.Prelude.{◌≡◌, IsTrue}
use Rattle.std.specs.List.{AllByRecursion}
use Rattle.std.proofs.Common.{arith, ap}
use Rattle.std.proofs.lemmas.Bool.{le-leb}
use Rattle.lk_model.specs.SectionOrder.{slots_of}
use Rattle.lk_model.specs.FullPlace.{Extent, extent_of, full_place}
use Rattle.lk_model.specs.Lawful.{is_aligned_enough}
use Rattle.lk_model.specs.Views.{Resolved}
use Rattle.lk_model.specs.declared.layouts.SectionRow.{SectionRow}
use Rattle.lk_model.proofs.Rising.{all_map}
use Rattle.lk_model.proofs.RowsReported.{full_rows_reported}

-- each section is aligned at least to the greatest alignment of its pieces, and to 16
pub full_alignments : (r : Resolved) → AllByRecursion (λ (row : SectionRow). IsTrue (is_aligned_enough r (full_place r).slots row)) (full_place r).sections
unfolding full_place
full_alignments r =
    all_map
    (λ (row : SectionRow) reported.
    let aligns : row.align ≡ (extent_of r (slots_of r.needs) row.key).align = ap (λ (e : Extent). e.align) reported in
    le-leb (extent_of r (slots_of r.needs) row.key).align row.align (omega (arith, aligns)))
    (full_place r).sections (full_rows_reported r)
