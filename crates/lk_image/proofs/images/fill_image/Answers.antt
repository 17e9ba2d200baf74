use Rattle.std.proofs.Common.{◌≡◌, ap, arith, length, subst, List, ◌≤◌, ◌∙◌, ℕ}
use Rattle.std.proofs.lemmas.List.{length-replicate}
use Rattle.std.proofs.lemmas.Result.{err_from_is_err_and}
use Rattle.lk_report.specs.declared.faults.Fault.{Fault}
use Rattle.lk_model.specs.Answers.{length_with}
use Rattle.lk_model.specs.declared.layouts.Placement.{Placement}
use Rattle.lk_fill.specs.Filled.{CanBeFilled}
use Rattle.lk_fill.specs.Filled as filled
use Rattle.lk_image.proofs.ImageReported.{fill_no_memory}
use Rattle.lk_image.proofs.ImageWritten.{image_written}
use Rattle.lk_image.proofs.SectionsWritten.{sections_written}
use Rattle.lk_image.proofs.images.fill_image.Goals as goal

pub returns-in_err-faults : goal.returns-in_err-faults
returns-in_err-faults c = λ r parts tail_is framed zeros.
    let p = err_from_is_err_and c.from_residual.result c.from_residual.ensures.1 in
    fill_no_memory r c.args.values.now.place parts c.link_pieces.new.image p.0 c.from_residual.result p.1 p.2

pub returns-in_err-fill_holes : goal.returns-in_err-fill_holes
returns-in_err-fill_holes c = λ r parts tail_is framed zeros.
    let p = err_from_is_err_and c.from_residual-in_err-fill_holes.result c.from_residual-in_err-fill_holes.ensures.1 in
    fill_no_memory r c.args.values.now.place parts c.fill_holes.new.image p.0 c.from_residual-in_err-fill_holes.result p.1 p.2

pub returns : goal.returns
returns c = λ r parts tail_is framed zeros.
    let values = c.args.values.now in
    let objects = c.args.objects.now in
    let whole : length c.put_front.new.image ≡ length_with values.place parts = c.put_front.auto.image ∙ ap length zeros ∙ length-replicate {A = ℕ} (length_with values.place parts) 0 in
    let sections =
    sections_written values objects r parts c.args.front.now c.put_front.new.image c.link_pieces.new.image c.fill_holes.new.image c.in_ok-faults.faults framed whole
    (c.in_ok-faults.ensures.reported r framed.linked) (c.in_ok-faults.ensures.linked r framed.linked) c.in_ok-faults.ensures.size
    (subst (λ (p : Placement). CanBeFilled p (length c.link_pieces.new.image) → c.fill_holes.new.image ≡ filled.written c.link_pieces.new.image (filled.fill_stretches p)) c.placement.ensures c.in_ok-fill_holes.ensures.filled)
    (subst (λ (faults : List Fault). length faults ≤ 0) c.as_slice.ensures c.if-as_slice-gt0.false) in
    (sections.0, image_written values objects r parts c.args.front.now c.args.tail.now c.args.image.now _ _ _ framed tail_is zeros c.put_front.ensures (omega arith) sections.1 c.put_tail.ensures)
