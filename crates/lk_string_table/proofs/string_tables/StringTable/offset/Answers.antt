use Rattle.std.proofs.Common.{◌≡◌, None, Some, sym, ap, ◌∙◌}
use Rattle.std.specs.Borrow.{Bor}
use Rattle.std.specs.Map.{lookup}
use Rattle.std.specs.Option.{unwrap_or, option_copied}
use Rattle.std.specs.Str.{bytes_eq}
use Rattle.std.specs.Prelude.{ℕ, List}
use Rattle.lk_model.specs.Texts.{offset_in}
use Rattle.lk_string_table.proofs.TextsStored.{found}
use Rattle.lk_string_table.proofs.string_tables.StringTable.offset.Goals as goal

pub returns-in-Some : goal.returns-in-Some
returns-in-Some c =
    let got : lookup (λ (k : Bor (List ℕ)). bytes_eq c.args.text.now k.now) c.self.inside.offsets.entries ≡ Some c.in-Some.start.now =
    sym c.get.ensures.value ∙ ap option_copied c.in-Some.is in
    sym (ap (λ r. unwrap_or r c.self.inside.size) got) ∙ found c.self.inside.offsets.entries c.self.inside.size c.args.text.now c.self.invariant
    ∙ ap (λ ts. offset_in ts c.args.text.now) c.self.view_is

pub returns-in-None : goal.returns-in-None
returns-in-None c =
    let got : lookup (λ (k : Bor (List ℕ)). bytes_eq c.args.text.now k.now) c.self.inside.offsets.entries ≡ None =
    sym c.get.ensures.value ∙ ap option_copied c.in-None.is in
    sym (ap (λ r. unwrap_or r c.self.inside.size) got) ∙ found c.self.inside.offsets.entries c.self.inside.size c.args.text.now c.self.invariant
    ∙ ap (λ ts. offset_in ts c.args.text.now) c.self.view_is
