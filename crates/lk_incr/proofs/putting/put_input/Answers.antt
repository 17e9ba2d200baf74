use Rattle.std.proofs.Common.{ap, ◌∙◌}
use Rattle.lk_model.specs.declared.records.InputRecord.{InputRecord}
use Rattle.lk_incr.proofs.Spelling.{put_input}
use Rattle.lk_incr.proofs.putting.put_input.Goals as goal

pub returns : goal.returns
returns c =
    let is = c.input.view_is in
    put_input _ c.args.placed.now c.args.number c.args.input.now _ _ _ _ _ _ _ _ (c.as_slice.ensures ∙ ap (λ (i : InputRecord). i.summary.pieces) is)
    (c.as_slice-2.ensures ∙ ap (λ (i : InputRecord). i.summary.globals) is) (c.as_slice-3.ensures ∙ ap (λ (i : InputRecord). i.summary.groups) is)
    c.in_ok-put_input_head.ensures c.in_ok-put_pieces.ensures c.in_ok-put_globals.ensures c.in_ok-put_groups.ensures
