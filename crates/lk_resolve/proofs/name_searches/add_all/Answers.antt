use Rattle.lk_resolve.proofs.NameSearched.{searches_from, searches_on}
use Rattle.lk_resolve.proofs.name_searches.add_all.Goals as goal

pub members-init : goal.members-init
members-init c = searches_from c.args.definers.now c.args.state.now c.args.turns.now c.args.members.now c.requires.due c.requires.reported

pub members-preserved : goal.members-preserved
members-preserved c =
    searches_on c.args.definers.now c.args.state.now c.members.state c.add_next.new.state c.args.turns.now c.members.turns c.add_next.new.turns c.args.members.now c.members.members c.add_next.new.members c.in_ok-add_next.field-0 c.if-branch.true c.in_ok-add_next.ensures c.members.invariant
