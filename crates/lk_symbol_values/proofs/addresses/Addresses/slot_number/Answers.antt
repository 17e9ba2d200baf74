use Rattle.std.proofs.Common.{ap, sym, ◌∙◌, position, true, false}
use Rattle.lk_model.specs.Keys.{is_slot_of, slot_number}
use Rattle.lk_symbol_values.proofs.Placed.{slot_of_kind}
use Rattle.lk_symbol_values.proofs.addresses.Addresses.slot_number.Goals as goal

pub returns-then-key : goal.returns-then-key
returns-then-key c =
    c.number_of.ensures
    ∙ slot_of_kind c.self.inside.values.entries c.self.inside.threads.entries c.self.inside.rows.slots.got true c.args.key.owner c.self.invariant.values_found c.self.invariant.threads_found
    ∙ ap (λ t. position (is_slot_of (record { owner = c.args.key.owner; thread = t })) c.self.inside.rows.slots.got) (sym c.if-key.true)
    ∙ ap (λ place. slot_number place c.args.key) c.self.view_is

pub returns-else-key : goal.returns-else-key
returns-else-key c =
    c.number_of-else-key.ensures
    ∙ slot_of_kind c.self.inside.values.entries c.self.inside.threads.entries c.self.inside.rows.slots.got false c.args.key.owner c.self.invariant.values_found c.self.invariant.threads_found
    ∙ ap (λ t. position (is_slot_of (record { owner = c.args.key.owner; thread = t })) c.self.inside.rows.slots.got) (sym c.if-key.false)
    ∙ ap (λ place. slot_number place c.args.key) c.self.view_is
