use Rattle.std.proofs.Common.{sym}
use Rattle.lk_obj_parts.proofs.OverlapsReported.{rising_reported}
use Rattle.lk_obj_parts.proofs.overlaps.overlap_fault.Goals as goal

pub returns-then-rows_rise : goal.returns-then-rows_rise
returns-then-rows_rise c symbols = sym (rising_reported c.args.bytes.now c.args.header.now c.args.sections.now symbols (sym c.if-rows_rise.ensures))
