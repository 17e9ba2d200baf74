-- What the trait asks where the device reports its bytes is what is asked of the device within.
use Rattle.std.proofs.Common.{refl}
use Rattle.lk_outside.proofs.sure_device.SureDeviceDevice.TheImpl.Goals as goal

pub read_at-asks : goal.read_at-asks
read_at-asks c = c.requires.range_lies_in_the_file _ refl

pub write_at-asks : goal.write_at-asks
write_at-asks c = c.requires.begins_at_most_at_the_end _ refl

pub cut-asks : goal.cut-asks
cut-asks c = c.requires.not_longer_than_the_file _ refl
