use Rattle.std.proofs.Common.{arith}
use Rattle.lk_freelist.proofs.Splitting.{left_before, left_behind}
use Rattle.lk_freelist.proofs.placing.take_out.Goals as goal

pub returns-else-before-eq0-clause-left : goal.returns-else-before-eq0-clause-left
returns-else-before-eq0-clause-left c =
    left_before c.args.holes.now.items c.args.index c.args.hole c.args.at c.args.size
    (record { is_at = c.requires.is_at; above = c.requires.above; inside = c.requires.inside })
    (omega arith) (omega arith)

pub returns-then-before-eq0-2-clause-left : goal.returns-then-before-eq0-2-clause-left
returns-then-before-eq0-2-clause-left c =
    left_behind c.args.holes.now.items c.args.index c.args.hole c.args.at c.args.size
    (record { is_at = c.requires.is_at; above = c.requires.above; inside = c.requires.inside })
    (omega arith) (omega arith)
