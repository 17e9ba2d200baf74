use Rattle.lk_dyn.proofs.CallsAt.{jumps_by_slot, slot_points_back}
use Rattle.lk_dyn.proofs.laws.entries_jump_by_their_slots.Goals as goal

pub returns : goal.returns
returns c = record { jump = jumps_by_slot; back = slot_points_back }
