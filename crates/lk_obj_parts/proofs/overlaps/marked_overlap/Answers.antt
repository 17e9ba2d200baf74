use Rattle.std.specs.Prelude.{ℕ, ◌≤◌, List, [], slice_index_or}
use Rattle.std.proofs.Common.{sym, ◌∙◌, ap, subst}
use Rattle.lk_elf.specs.declared.section_header.Shdr.{Shdr}
use Rattle.lk_obj_parts.specs.FieldMarks.{RowsFit}
use Rattle.lk_obj_parts.specs.TargetRows.{room_with}
use Rattle.lk_obj_parts.proofs.OverlapsReported.{lists_fit, overlaps_reported}
use Rattle.lk_obj_parts.proofs.overlaps.marked_overlap.Goals as goal

pub targets_fault-requires-clause-fit : goal.targets_fault-requires-clause-fit
targets_fault-requires-clause-fit c t a l =
    subst
    (λ n. RowsFit n c.args.bytes.now (slice_index_or c.deref-2.result.now t []))
    (sym (c.deref_mut.ensures.len ∙ c.in-Ok.ensures.len))
    (lists_fit
    c.args.bytes.now
    c.args.header.now
    c.args.sections.now
    c.targets_rise-rise.result
    c.deref-2.result.now
    c.longest_target-size.result
    c.requires.fit
    (c.deref-2.ensures.len ∙ c.in_ok-lists.ensures.count)
    (λ u k. ap (λ (lists : List (List (ℕ × Shdr))). slice_index_or lists u []) c.deref-2.ensures.value ∙ c.in_ok-lists.ensures.rows u k)
    (λ u d k. subst (λ (lists : List (List (ℕ × Shdr))). room_with (slice_index_or c.args.sections.now u d) (slice_index_or lists u []) ≤ c.longest_target-size.result) (c.deref.ensures.value ∙ sym c.deref-2.ensures.value) (c.longest_target-size.ensures u d k))
    t
    a
    l)

pub returns : goal.returns
returns c symbols =
    c.targets_fault.ensures
    ∙ overlaps_reported
    c.args.bytes.now
    c.args.header.now
    c.args.sections.now
    symbols
    c.targets_rise-rise.result
    c.deref-2.result.now
    (λ e. sym c.targets_rise-rise.ensures ∙ e)
    (c.deref-2.ensures.len ∙ c.in_ok-lists.ensures.count)
    (λ u k. ap (λ (lists : List (List (ℕ × Shdr))). slice_index_or lists u []) c.deref-2.ensures.value ∙ c.in_ok-lists.ensures.rows u k)
