use Rattle.std.proofs.Common.{ap, ◌∙◌}
use Rattle.lk_incr.specs.RecordParts.{RecordPartsValue, nameless}
use Rattle.lk_incr.proofs.Spelling.{put_section}
use Rattle.lk_incr.proofs.putting.put_inputs_section.Goals as goal

pub returns : goal.returns
returns c =
    let is = c.parts.view_is in
    put_section _ (nameless c.args.parts.now) c.args.placed.now _ _ _ _ _ _ c.requires (c.as_slice.ensures ∙ ap (λ (p : RecordPartsValue). p.placement.sections) is)
    (c.as_slice-2.ensures ∙ ap (λ (p : RecordPartsValue). p.inputs) is)
    c.in_ok-put_head.ensures c.in_ok-put_sections.ensures c.in_ok-put_inputs.ensures
