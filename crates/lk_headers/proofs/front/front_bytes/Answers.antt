use Rattle.lk_headers.proofs.FrontLengths.{front_fits}
use Rattle.lk_headers.proofs.front.front_bytes.Goals as goal

pub put_zeros_to-requires : goal.put_zeros_to-requires
put_zeros_to-requires c =
    front_fits _ _ c.args.placement.now c.args.tail.now c.args.entry c.args.count c.args.exec_stack c.in-Ok.ensures.items c.in_ok-put_front.ensures
    (c.requires.many c.args.exec_stack) c.requires.few
