use Rattle.std.proofs.Common.{length, ap, arith}
use Rattle.std.specs.Prelude.{◌++◌, flat_map}
use Rattle.std.specs.List.{range_with_len}
use Rattle.lk_model.specs.PltEntries.{first_entry_bytes, plt_entry_bytes}
use Rattle.lk_dyn.proofs.PutInTurn.{range_step}
use Rattle.lk_dyn.proofs.calls.plt_table.Goals as goal

pub loop-number-preserved : goal.loop-number-preserved
loop-number-preserved c =
    let plt = c.section_start-plt.result in
    let got = c.section_start-got.result in
    let count = length c.args.place.now.slots.plt in
    range_step
    (plt_entry_bytes c.section_start-plt.result c.section_start-got.result)
    c.loop-number.out.items
    c.put_entry.new.out.items
    (first_entry_bytes plt got ++ flat_map (plt_entry_bytes plt got) (range_with_len 0 count))
    c.loop-number.number
    count
    (let size = ap length c.as_slice-number-end.ensures in let test = c.loop-number-test.true in omega arith)
    c.in_ok-put_entry.ensures
    c.loop-number.invariant
