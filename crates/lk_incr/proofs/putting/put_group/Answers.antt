use Rattle.lk_incr.proofs.Spelling.{put_group}
use Rattle.lk_incr.proofs.putting.put_group.Goals as goal

pub returns : goal.returns
returns c = put_group _ c.args.group.now _ _ _ _ c.as_slice.ensures c.in_ok-put_group_head.ensures c.in_ok-put_members.ensures
