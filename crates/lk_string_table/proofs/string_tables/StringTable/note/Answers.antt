use Rattle.std.proofs.Common.{◌≡◌, ◌∷◌, [], ◌++◌, true, false, sym, ap, ◌∙◌, subst}
use Rattle.std.specs.List.{list_any}
use Rattle.std.specs.Str.{bytes_eq}
use Rattle.lk_model.specs.Texts.{with_text}
use Rattle.lk_string_table.specs.StringTables.{texts_in, IsStringTable}
use Rattle.lk_string_table.proofs.TextsStored.{any-found, insert-new, holds-push, texts-push, with-old, with-new}
use Rattle.lk_string_table.proofs.string_tables.StringTable.note.Goals as goal

pub returns-then-contains_key : goal.returns-then-contains_key
returns-then-contains_key c =
    let es = c.self.inside.offsets.entries in
    let has : list_any (bytes_eq c.args.text.now) (texts_in es) ≡ true =
    any-found es c.args.text.now ∙ sym c.contains_key.ensures ∙ c.if-contains_key.true in
    sym (subst (λ ts. with_text ts c.args.text.now ≡ ts) c.self.view_is (with-old (texts_in es) c.args.text.now has))

pub invariant_of-self : goal.invariant_of-self
invariant_of-self c =
    let es = c.self.inside.offsets.entries in
    let lacks : list_any (bytes_eq c.args.text.now) (texts_in es) ≡ false =
    any-found es c.args.text.now ∙ sym c.contains_key.ensures ∙ c.if-contains_key.false in
    let put : c.insert.new.self.entries ≡ es ++ (c.args.text, c.self.inside.size) ∷ [] =
    c.in-Ok.ensures.entries ∙ insert-new es c.args.text c.self.inside.size lacks in
    subst (λ l. IsStringTable l c.in-Some.next) (sym put) (holds-push es c.args.text c.self.inside.size c.in-Some.next c.self.invariant c.in-Some.ensures)

pub returns-in-Ok : goal.returns-in-Ok
returns-in-Ok c =
    let es = c.self.inside.offsets.entries in
    let lacks : list_any (bytes_eq c.args.text.now) (texts_in es) ≡ false =
    any-found es c.args.text.now ∙ sym c.contains_key.ensures ∙ c.if-contains_key.false in
    let put : c.insert.new.self.entries ≡ es ++ (c.args.text, c.self.inside.size) ∷ [] =
    c.in-Ok.ensures.entries ∙ insert-new es c.args.text c.self.inside.size lacks in
    ap texts_in put ∙ texts-push es c.args.text c.self.inside.size ∙ sym (with-new (texts_in es) c.args.text.now lacks)
    ∙ ap (λ ts. with_text ts c.args.text.now) c.self.view_is
