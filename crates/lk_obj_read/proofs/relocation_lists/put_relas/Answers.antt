use Rattle.std.proofs.Common.{arith}
use Rattle.std.proofs.lemmas.Result.{on_ok_weaker}
use Rattle.lk_obj_read.proofs.RelocationLists.{listed, put_at}
use Rattle.lk_obj_read.specs.RelaLists.{relas_at}
use Rattle.lk_obj_read.proofs.relocation_lists.put_relas.Goals as goal

pub returns : goal.returns
returns c =
    on_ok_weaker c.add.result
    (λ e t l. put_at c.args.file.now c.args.lists.now c.args.section.now c.index-lists-target.result c.add.new.self (relas_at c.args.file.now c.args.section.now.sh_offset c.entry_count-count.result) t (omega arith) (omega arith) (listed c.args.file.now c.as_slice.result.now c.args.section.now c.entry_count-count.result c.as_slice.ensures c.entry_count-count.ensures.value) e)
    c.add.ensures
