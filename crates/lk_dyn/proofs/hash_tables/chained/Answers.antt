use Rattle.std.proofs.Common.{ap, ◌∙◌}
use Rattle.std.specs.Prelude.{◌%◌, ◌+◌, ◌++◌, [], ◌∷◌, slice_set, get_or}
use Rattle.lk_dyn.proofs.ChainsMade.{heads_none, heads_step, nexts_step}
use Rattle.lk_dyn.proofs.hash_tables.chained.Goals as goal

pub loop-number-init : goal.loop-number-init
loop-number-init c = (c.in_ok-heads.ensures ∙ heads_none c.args.count 0, c.new-nexts.ensures.items)

pub loop-number-preserved : goal.loop-number-preserved
loop-number-preserved c =
    let hash = get_or c.args.hashes.now c.loop-number.number 0 in (
      ap (λ l. slice_set l (hash % c.args.count) (c.loop-number.number + 1)) c.loop-number.invariant.0
          ∙ heads_step c.args.count c.args.hashes.now c.loop-number.number c.requires c.loop-number-test.true,
      c.in_ok-note_entry.ensures
          ∙ (λ i. c.loop-number.invariant.1 i ++ (c.index.ensures ∙ ap (λ l. get_or l (hash % c.args.count) c.index.result.now) c.loop-number.invariant.0) i ∷ [])
          ∙ nexts_step c.args.count c.args.hashes.now c.loop-number.number c.index.result.now c.requires c.loop-number-test.true,
    )
