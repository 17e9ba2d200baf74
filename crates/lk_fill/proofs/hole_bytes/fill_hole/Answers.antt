use Rattle.std.proofs.Common.{length, sym, ◌∙◌}
use Rattle.lk_fill.proofs.HolesFilled.{patched_filled, sequence_filled}
use Rattle.lk_fill.proofs.hole_bytes.fill_hole.Goals as goal

pub returns-then-is_patched : goal.returns-then-is_patched
returns-then-is_patched c = λ enough short.
    patched_filled c.args.row.now c.fill_kind.result c.args.start (length c.args.bytes.now) c.fill_patched.new.bytes (sym c.is_patched.ensures ∙ c.if-is_patched.true) c.fill_kind.ensures c.fill_patched.ensures enough short

pub returns : goal.returns
returns c = λ enough short.
    sequence_filled c.args.row.now (record { start = c.args.start; length = length c.args.bytes.now }) c.fill_sequence.new.bytes (sym c.is_patched.ensures ∙ c.if-is_patched.false) c.fill_sequence.ensures
