use Rattle.lk_dyn.proofs.RelocationsFound.{fills_copies, fills_each_import, fills_jump_slots, fills_no_more, fills_slots}
use Rattle.lk_dyn.proofs.laws.relocations_name_what_they_fill.Goals as goal

pub returns : goal.returns
returns c = record { jump_slots = fills_jump_slots; slots = fills_slots; each_import = fills_each_import; copies = fills_copies; no_more = fills_no_more }
