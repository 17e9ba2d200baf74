use Rattle.std.proofs.Common.{ap, ◌∙◌}
use Rattle.std.specs.Prelude.{count_by}
use Rattle.lk_headers.specs.Shown.{is_shown}
use Rattle.lk_headers.specs.declared.shown.Shown.TheVariants as shown
use Rattle.lk_headers.proofs.PutInTurn.{table_put}
use Rattle.lk_headers.proofs.program_headers.put_table.Goals as goal

pub returns-in_ok-put_header : goal.returns-in_ok-put_header
returns-in_ok-put_header c =
    table_put _ _ _ c.args.place.now.sections _ _ c.in_ok-put_header.ensures c.table_phdr.ensures
    (c.shown_count.ensures ∙ ap (count_by (is_shown shown.Interpreter)) c.as_slice.ensures)
    c.if-shown_count-gt0.true c.requires
