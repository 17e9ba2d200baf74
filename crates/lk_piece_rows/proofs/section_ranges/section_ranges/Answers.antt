use Rattle.std.proofs.Common.{arith}
use Rattle.lk_piece_rows.proofs.Ranges.{made_counted, made_fit, made_laid}
use Rattle.lk_piece_rows.proofs.section_ranges.section_ranges.Goals as goal

pub returns-clause-fit : goal.returns-clause-fit
returns-clause-fit c = made_fit _ c.args.counts.now _ c.in_ok-made.ensures.ranges c.in_ok-made.ensures.end (omega arith)

pub returns-clause-laid : goal.returns-clause-laid
returns-clause-laid c = made_laid _ c.args.counts.now _ c.in_ok-made.ensures.ranges c.in_ok-made.ensures.end

pub returns-clause-counted : goal.returns-clause-counted
returns-clause-counted c = made_counted _ c.args.counts.now c.in_ok-made.ensures.ranges
