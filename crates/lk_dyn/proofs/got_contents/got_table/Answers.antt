use Rattle.std.proofs.Common.{◌∙◌, ap}
use Rattle.std.specs.Prelude.{◌≡◌, ℕ, List, Option, flat_map, ◌++◌}
use Rattle.std.proofs.lemmas.Result.{IfOk-weaker}
use Rattle.lk_model.specs.Resolving.{resolve}
use Rattle.lk_model.specs.Tables.{got_bytes}
use Rattle.lk_model.specs.declared.layouts.GotKey.{GotKey}
use Rattle.lk_model.specs.declared.layouts.Placement.{Placement}
use Rattle.lk_dyn.specs.LocalSlots.{content_bytes}
use Rattle.lk_dyn.specs.declared.local_slots.LocalKey.{LocalKey}
use Rattle.lk_dyn.proofs.GotFilled.{contents_are}
use Rattle.lk_dyn.proofs.got_contents.got_table.Goals as goal

pub returns : goal.returns
returns c = λ needs options xs given lawful held.
    let r = resolve options xs in
    let place : Placement = c.args.values.now.place in
    let entries : List (LocalKey × ℕ) = c.in_ok-locals.locals.entries in
    IfOk-weaker c.from_vec.result (λ b. b ≡ c.put_contents.new.out.items) (λ b. b ≡ got_bytes r place)
    (λ b made. made
    ∙ c.in_ok-put_contents.ensures needs options xs given lawful
    ∙ ap (λ (l : List ℕ). l ++ flat_map (content_bytes r place entries) c.as_slice.result.now) c.new-out.ensures.items
    ∙ ap (λ (slots : List (Option GotKey)). flat_map (content_bytes r place entries) slots) (c.as_slice.ensures ∙ ap (λ (p : Placement). p.slots.got) c.placement.ensures)
    ∙ contents_are r place entries c.args.locals.now c.in_ok-locals.ensures place.slots.got held)
    c.from_vec.ensures
