use Rattle.std.proofs.Common.{ap, sym, ◌∙◌, subst, arith, length, ℕ, ◌≤◌, Err}
use Rattle.lk_model.specs.declared.layouts.LayoutFault.{LayoutFault}
use Rattle.lk_layout.specs.Layouts.{PlaceGives, most_memory, placement_of}
use Rattle.lk_layout.specs.Rows.{memory_in}
use Rattle.lk_dyn_sizes.specs.SizeRows.{as_pairs}
use Rattle.lk_layout.proofs.PlacesReported.{count_reported, over_memory, over_sections, rows_reported}
use Rattle.lk_layout.proofs.placing.place_kept.Goals as goal

-- more sections than a link may have
pub returns-then-keys-gt-MOST_SECTIONS : goal.returns-then-keys-gt-MOST_SECTIONS
returns-then-keys-gt-MOST_SECTIONS c = λ all groups.
    let sizes = as_pairs c.args.tables.now in
    let full = placement_of c.args.patch all sizes c.args.slots in
    let count = count_reported c.args.patch all sizes c.args.slots c.args.kept.now c.as_slice-keys.result.now groups (c.as_slice-keys.ensures ∙ c.in-Ok.ensures) in
    subst (λ (f : LayoutFault). PlaceGives full (Err f)) (sym c.limit.ensures) (over_sections full (length c.as_slice-keys.result.now) count c.if-keys-gt-MOST_SECTIONS.true)

-- more memory than a link may take
pub returns-then-memory-gt-MOST_MEMORY : goal.returns-then-memory-gt-MOST_MEMORY
returns-then-memory-gt-MOST_MEMORY c = λ all groups.
    let sizes = as_pairs c.args.tables.now in
    let full = placement_of c.args.patch all sizes c.args.slots in
    let keys = c.as_slice-keys.ensures ∙ c.in-Ok.ensures in
    let count = count_reported c.args.patch all sizes c.args.slots c.args.kept.now c.as_slice-keys.result.now groups keys in
    let reported = rows_reported c.args.patch all sizes c.args.slots c.args.kept.now c.as_slice-keys.result.now c.as_slice.result.now groups keys (c.as_slice.ensures.value ∙ c.in-Ok-measure.ensures.rows) in
    subst (λ (f : LayoutFault). PlaceGives full (Err f)) (sym c.limit-then-memory-gt-MOST_MEMORY.ensures) (over_memory full (length c.as_slice-keys.result.now) c.in-Ok-memory_of.memory count c.if-keys-gt-MOST_SECTIONS.false (reported.memory ∙ sym c.in-Ok-memory_of.ensures) c.if-memory-gt-MOST_MEMORY.true)

-- the placement
pub returns-in-Ok-place_pieces : goal.returns-in-Ok-place_pieces
returns-in-Ok-place_pieces c = λ all groups.
    let sizes = as_pairs c.args.tables.now in
    let keys = c.as_slice-keys.ensures ∙ c.in-Ok.ensures in
    let count = count_reported c.args.patch all sizes c.args.slots c.args.kept.now c.as_slice-keys.result.now groups keys in
    let reported = rows_reported c.args.patch all sizes c.args.slots c.args.kept.now c.as_slice-keys.result.now c.in-Ok-measure.measured.rows.items groups keys c.in-Ok-measure.ensures.rows in
    let takes = reported.memory ∙ ap memory_in (sym c.as_slice.ensures.value) ∙ sym c.in-Ok-memory_of.ensures in (
      omega (arith, count, c.if-keys-gt-MOST_SECTIONS.false),
      subst (λ (m : ℕ). m ≤ most_memory) (sym takes) c.if-memory-gt-MOST_MEMORY.false,
      c.in-Ok-place_pieces.ensures all groups ∙ reported.place,
    )
