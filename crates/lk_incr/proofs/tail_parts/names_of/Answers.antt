use Rattle.lk_incr.proofs.TextsNoted.{names_noted}
use Rattle.lk_incr.proofs.tail_parts.names_of.Goals as goal

pub returns : goal.returns
returns c = λ records.
    names_noted records c.args.placement.now _ _ _ _ _ _ c.in_ok-names.ensures c.as_slice-rows.ensures c.in_ok-note_sections.ensures c.in_ok-note.ensures c.in_ok-note-2.ensures
    c.in_ok-note-3.ensures
