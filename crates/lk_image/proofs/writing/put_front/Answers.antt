use Rattle.lk_image.proofs.BytesPut.{front_put}
use Rattle.lk_image.proofs.writing.put_front.Goals as goal

pub returns : goal.returns
returns c = front_put c.args.image.now c.put.new.image c.put-2.new.image c.args.front.now c.put.ensures c.put.auto.image c.put-2.ensures
