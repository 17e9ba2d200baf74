use Rattle.std.proofs.Common.{◌∙◌}
use Rattle.lk_resolve.proofs.NameSearched.{Ready, ready}
use Rattle.lk_resolve.proofs.name_searches.search_by_names.Goals as goal

pub add_all-requires : goal.add_all-requires
add_all-requires c =
    let begins : Ready c.args.state.now c.args.waiting.now c.as_mut_slice.result.now c.in_ok-turns.turns c.in_ok-definers.definers =
    ready c.args.state.now c.args.waiting.now c.in_ok-members.members.items c.as_slice.result.now c.as_mut_slice.result.now c.in_ok-turns.turns c.in_ok-definers.definers c.in_ok-members.ensures c.as_slice.ensures.value c.as_mut_slice.ensures.value c.in_ok-definers.ensures c.in_ok-turns.ensures.due c.in_ok-turns.ensures.place in
    record { due = begins.due; reported = begins.reported }

pub returns : goal.returns
returns c =
    let begins : Ready c.args.state.now c.args.waiting.now c.as_mut_slice.result.now c.in_ok-turns.turns c.in_ok-definers.definers =
    ready c.args.state.now c.args.waiting.now c.in_ok-members.members.items c.as_slice.result.now c.as_mut_slice.result.now c.in_ok-turns.turns c.in_ok-definers.definers c.in_ok-members.ensures c.as_slice.ensures.value c.as_mut_slice.ensures.value c.in_ok-definers.ensures c.in_ok-turns.ensures.due c.in_ok-turns.ensures.place in
    c.in_ok-add_all.ensures ∙ begins.all
