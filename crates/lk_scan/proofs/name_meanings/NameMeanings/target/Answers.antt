use Rattle.std.proofs.Common.{sym, ◌∙◌}
use Rattle.lk_scan.proofs.NamesSeen.{meaning_absent, meaning_reported}
use Rattle.lk_scan.proofs.name_meanings.NameMeanings.target.Goals as goal

pub returns-in-Some : goal.returns-in-Some
returns-in-Some c = λ rows same.
    c.to_weak.ensures
    ∙ meaning_reported rows c.deref.result.now c.args.number c.args.weak c.in-Some.target.now (c.deref.ensures.value ∙ c.self.view_is ∙ same) (sym c.in-Some.ensures.lookup.0) c.in-Some.ensures.lookup.1

pub returns-in-None : goal.returns-in-None
returns-in-None c = λ rows same.
    c.unknown_target.ensures
    ∙ meaning_absent rows c.deref.result.now c.args.number c.args.weak (c.deref.ensures.value ∙ c.self.view_is ∙ same) (sym c.in-None.ensures.lookup.0)
