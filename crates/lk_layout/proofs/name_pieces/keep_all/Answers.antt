use Rattle.std.proofs.Common.{◌∙◌, ap, arith}
use Rattle.lk_layout.proofs.NamesReported.{name_step}
use Rattle.lk_layout.proofs.name_pieces.keep_all.Goals as goal

-- one more name may have a piece
pub loop-name-preserved : goal.loop-name-preserved
loop-name-preserved c =
    let count = c.len-name-end.ensures.count in
    name_step c.args.copied.now.keys c.args.names.now c.loop-name.name c.loop-name.kept c.keep_name.new.kept (omega (arith, count, c.loop-name-test.true)) c.in_ok-keep_name.ensures ∙ c.loop-name.invariant
