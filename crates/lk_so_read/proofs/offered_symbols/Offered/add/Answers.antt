-- Each way through is one of the ways of one symbol more.
use Rattle.std.proofs.Common.{◌∷◌, ◌++◌, [], ap, sym, rules, ◌∙◌}
use Rattle.lk_model.specs.SharedObjects.{shared_global}
use Rattle.lk_so_read.specs.OfferedSymbols.{Kept, texts_in, with_symbol}
use Rattle.lk_model.specs.declared.summaries.Global.{Global}
use Rattle.lk_so_read.proofs.NamesDefined.{noted_again, noted_first, on_success, named_text}
use Rattle.lk_so_read.proofs.offered_symbols.Offered.add.Goals as goal

pub returns-then-not-branch : goal.returns-then-not-branch
returns-then-not-branch c =
    noted_again
    c.self.inside.kept.items
    (texts_in c.self.inside.defined.keys)
    (texts_in c.note_symbol.new.defined.keys)
    c.args.k
    c.args.symbol.now
    c.args.text.now
    c.in_ok-note_symbol.field-0
    (search rules)
    (search rules)
    c.in_ok-note_symbol.ensures
    ∙ ap (λ (kept : Kept). with_symbol kept c.args.k c.args.symbol.now c.args.text.now) c.self.view_is

pub returns : goal.returns
returns c =
    on_success c.keep.result
    (λ e.
    noted_first
    c.self.inside.kept.items
    c.keep.new.kept.items
    (texts_in c.self.inside.defined.keys)
    (texts_in c.note_symbol.new.defined.keys)
    c.args.k
    c.args.symbol.now
    c.args.text.now
    c.in_ok-note_symbol.field-0
    (search rules)
    (search rules)
    c.in_ok-note_symbol.ensures
    (e ∙ ap (λ (g : Global). c.self.inside.kept.items ++ g ∷ []) (c.shared_global.ensures ∙ ap (shared_global c.args.k c.args.symbol.now) (named_text (sym c.in-Some.is ∙ c.in_ok-found.ensures ∙ c.requires.named))))
    ∙ ap (λ (kept : Kept). with_symbol kept c.args.k c.args.symbol.now c.args.text.now) c.self.view_is)
    c.keep.ensures
