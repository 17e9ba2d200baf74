use Rattle.std.proofs.Common.{◌≡◌, ◌++◌, None, sym, ap, ◌∙◌}
use Rattle.std.specs.List.{slice_get}
use Rattle.std.specs.Option.{option_copied}
use Rattle.std.proofs.lemmas.List.{append-nil}
use Rattle.lk_fill.specs.Covering.{piece_covers_in}
use Rattle.lk_fill.proofs.covering.cover_piece.Goals as goal

pub returns-in-None : goal.returns-in-None
returns-in-None c =
    let none : slice_get c.args.rows.now c.args.piece.section ≡ None = sym c.row_at.ensures ∙ ap option_copied c.in-None.is in
    sym (ap (λ o. c.args.ranges.now.items ++ piece_covers_in o c.args.piece) none ∙ append-nil c.args.ranges.now.items)
