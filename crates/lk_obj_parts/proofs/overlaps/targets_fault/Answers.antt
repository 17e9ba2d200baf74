use Rattle.std.specs.Prelude.{ℕ, List, [], refl}
use Rattle.std.proofs.Common.{sym, ◌∙◌, ap}
use Rattle.lk_elf.specs.declared.section_header.Shdr.{Shdr}
use Rattle.lk_model.specs.Checks.{first_fault}
use Rattle.lk_model.specs.ObjectChecks.{overlap_checks_after}
use Rattle.lk_obj_parts.specs.FieldMarks.{sites_of}
use Rattle.lk_obj_parts.specs.TargetRows.{list_checks}
use Rattle.lk_obj_parts.proofs.RowFaults.{no_row_here, row_here}
use Rattle.lk_obj_parts.proofs.overlaps.targets_fault.Goals as goal

pub returns-in-Some : goal.returns-in-Some
returns-in-Some c =
    sym
    (row_here
    (list_checks c.args.bytes.now)
    c.loop-t.t
    c.args.lists.now
    c.index-lists-t.result
    c.in-Some.fault
    c.loop-t-test.true
    (ap (λ (rows : List (ℕ × Shdr)). first_fault (overlap_checks_after [] (sites_of c.args.bytes.now rows))) (sym c.index-lists-t.is ∙ sym c.as_slice.ensures)
    ∙ sym c.in-Some.ensures.fault))
    ∙ c.loop-t.invariant.faults

pub loop-t-preserved : goal.loop-t-preserved
loop-t-preserved c = record {
  clear = c.in_default.ensures.clear refl ∙ c.loop-t.invariant.clear;
  faults =
      sym
      (no_row_here
      (list_checks c.args.bytes.now)
      c.loop-t.t
      c.args.lists.now
      c.index-lists-t.result
      c.loop-t-test.true
      (ap (λ (rows : List (ℕ × Shdr)). first_fault (overlap_checks_after [] (sites_of c.args.bytes.now rows))) (sym c.index-lists-t.is ∙ sym c.as_slice.ensures)
      ∙ sym c.in_default.ensures.fault))
      ∙ c.loop-t.invariant.faults;
}
