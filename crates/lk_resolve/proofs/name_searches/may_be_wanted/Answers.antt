use Rattle.lk_resolve.proofs.NameSearched.{not_wanted}
use Rattle.lk_resolve.proofs.name_searches.may_be_wanted.Goals as goal

pub returns : goal.returns
returns c = not_wanted c.args.state.now c.args.member.now c.as_slice.result.now c.places_wanted.result c.as_slice.ensures c.places_wanted.ensures
