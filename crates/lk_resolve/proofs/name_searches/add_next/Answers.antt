use Rattle.std.proofs.Common.{◌≡◌, ℕ, false, rules}
use Rattle.lk_resolve.specs.Turns.{is_due}
use Rattle.lk_resolve.proofs.NameSearched.{added_next, none_left, passed_next}
use Rattle.lk_resolve.proofs.name_searches.add_next.Goals as goal

-- the member at the place was added
pub returns-then-branch : goal.returns-then-branch
returns-then-branch c =
    added_next c.args.state.now c.turns.state c.ask.new.state c.args.turns.now c.turns.turns c.take.new.self c.ask.new.turns c.args.members.now c.turns.members c.ask.new.members c.args.definers.now c.in-Some.place c.in_ok-ask.field-0 c.if-branch.true
    (record { passed = c.in-Some.ensures.passed; left = c.in-Some.ensures.taken; place = c.in-Some.ensures.place })
    c.requires.reported c.in_ok-ask.ensures c.turns.invariant

-- it was not, and the next one is asked
pub turns-preserved : goal.turns-preserved
turns-preserved c =
    passed_next c.args.state.now c.turns.state c.ask.new.state c.args.turns.now c.turns.turns c.take.new.self c.ask.new.turns c.args.members.now c.turns.members c.ask.new.members c.args.definers.now c.in-Some.place c.in_ok-ask.field-0 c.if-branch.false
    (record { passed = c.in-Some.ensures.passed; left = c.in-Some.ensures.taken; place = c.in-Some.ensures.place })
    c.in_ok-ask.ensures c.turns.invariant

-- none has a turn
pub returns : goal.returns
returns c =
    let quiet : (i : ℕ) → is_due c.turns.turns i ≡ false = first_of (assumption, search rules) in
    none_left c.args.state.now c.turns.state c.args.turns.now c.turns.turns c.args.members.now c.turns.members quiet c.turns.invariant
