use Rattle.lk_image.proofs.BytesPut.{tail_put}
use Rattle.lk_image.proofs.writing.put_tail.Goals as goal

pub returns : goal.returns
returns c =
    tail_put c.args.tail.now c.as_slice.result.now c.as_slice-2.result.now c.args.image.now c.put_parts.new.image c.put.new.image
    c.as_slice.ensures c.as_slice-2.ensures c.put_parts.ensures c.put_parts.auto.image c.put.ensures
