use Rattle.std.proofs.Common.{sym}
use Rattle.lk_resolve.proofs.DefinersNoted.{noted_again, noted_first, on_ok}
use Rattle.lk_resolve.proofs.definers.Definers.note.Goals as goal

pub returns-in-Some : goal.returns-in-Some
returns-in-Some c =
    on_ok c.note_again.result (noted_again c.args.self.now c.note_again.new.self c.args.name c.in-Some.n c.args.place (sym c.in-Some.ensures.index)) c.note_again.ensures

pub returns-in-None : goal.returns-in-None
returns-in-None c =
    on_ok c.note_first.result (noted_first c.args.self.now c.note_first.new.self c.args.name c.args.place (sym c.in-None.ensures.index)) c.note_first.ensures
