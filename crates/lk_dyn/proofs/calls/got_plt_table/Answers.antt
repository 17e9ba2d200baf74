use Rattle.std.proofs.Common.{◌∙◌, ap, sym, length, arith}
use Rattle.std.specs.Prelude.{◌+◌, ◌++◌, ℕ}
use Rattle.lk_elf.specs.Fields.{bytes_of}
use Rattle.lk_model.specs.PltEntries.{plt_entry_address}
use Rattle.lk_model.specs.Tables.{got_plt_bytes, jump_bytes}
use Rattle.lk_elf.proofs.LowBits.{low-long}
use Rattle.lk_dyn.proofs.PutInTurn.{numbered_step}
use Rattle.lk_dyn.proofs.calls.got_plt_table.Goals as goal

pub loop-number-preserved : goal.loop-number-preserved
loop-number-preserved c =
    let plt = c.section_start-plt.result in
    numbered_step
    (jump_bytes c.args.place.now)
    (λ (k : ℕ). bytes_of 8 (plt_entry_address c.section_start-plt.result k + 6))
    c.args.place.now.slots.plt
    c.loop-number.out.items
    c.put_long.new.out.items
    (got_plt_bytes c.args.place.now)
    c.loop-number.number
    (λ k x. ap (λ a. bytes_of 8 (plt_entry_address a k + 6)) (sym c.section_start-plt.ensures))
    (let size = ap length c.as_slice-number-end.ensures in let test = c.loop-number-test.true in omega arith)
    (c.in_ok-put_long.ensures ∙ ap (λ l. c.loop-number.out.items ++ l) (ap (bytes_of 8) c.in_entry.ensures ∙ low-long (plt_entry_address plt c.loop-number.number + 6)))
    c.loop-number.invariant
