use Rattle.std.proofs.Common.{ap}
use Rattle.lk_resolve.specs.Settling.{resolved}
use Rattle.lk_resolve.proofs.state.ResolverState.into_resolution.Goals as goal

pub returns : goal.returns
returns c = ap resolved c.self.view_is
