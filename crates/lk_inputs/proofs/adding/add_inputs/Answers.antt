use Rattle.std.proofs.Common.{arith, []}
use Rattle.lk_inputs.proofs.ItemsAdded.{all_added, item_more}
use Rattle.lk_inputs.specs.Adding.{rows_from}
use Rattle.lk_inputs.proofs.adding.add_inputs.Goals as goal

pub items-preserved : goal.items-preserved
items-preserved c = record {
  so_far = λ entry paths before e.
      item_more entry paths before c.args.files.now c.split_at.result.1.now c.args.summaries.now c.split_at-in-items.result.1.now (rows_from 0 c.args.files.now c.args.summaries.now) c.items.done c.in_ok-done.field-0 c.items.resolver c.add_item.new.resolver
      c.split_at.ensures.back c.split_at-in-items.ensures.back
      (c.items.invariant.so_far entry paths before e)
      (λ added f. c.in_ok-done.ensures.added entry paths added f);
  within = omega (arith, c.split_at.ensures.back_len, c.in_ok-done.ensures.within);
}

pub returns : goal.returns
returns c = λ entry paths xs are kept e.
    all_added entry paths xs c.args.files.now c.args.summaries.now c.items.done c.items.resolver are kept c.items-test.false (c.items.invariant.so_far entry paths [] e)
