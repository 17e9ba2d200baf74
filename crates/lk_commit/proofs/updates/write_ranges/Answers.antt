-- The ranges one after another: none, one more, and one that failed.
use Rattle.std.proofs.Common.{◌≡◌, ◌+◌, ◌∷◌, ℕ, List, drop, refl, sym, ◌∙◌, ap, subst}
use Rattle.std.proofs.lemmas.List.{drop_more}
use Rattle.lk_report.specs.Spoken.{Rose}
use Rattle.lk_report.specs.declared.sinks.Answer.TheVariants as answer
use Rattle.lk_outside.specs.Disk.{WriteAtGives}
use Rattle.lk_commit.specs.CrashStates.{WhereReported}
use Rattle.lk_commit.specs.Stages.{IsPartUpdated}
use Rattle.lk_commit.proofs.RangesWritten.{none_written, one_failed, one_written}
use Rattle.lk_commit.proofs.Reported.{reported_same, reported_then, write_call, write_refused}
use Rattle.lk_commit.proofs.updates.write_ranges.Goals as goal

pub loop-range-init : goal.loop-range-init
loop-range-init g c =
    let before = g.D.Device.disk c.args.device.now in
    let ws = c.args.writes.now in
    record {
      faults = refl;
      written = reported_same (IsPartUpdated ws ws) before.stored before.stored refl (λ s o. none_written ws s c.requires.apart (c.requires.unsealed s o, c.requires.in_turn s o));
    }

pub loop-range-preserved : goal.loop-range-preserved
loop-range-preserved g c =
    let before = g.D.Device.disk c.args.device.now in
    let here = g.D.Device.disk c.loop-range.device in
    let after = g.D.Device.disk c.write_at.new.self in
    let all = c.args.writes.now in
    let i = c.loop-range.range-index in
    let w = c.range-item.result in
    let left = drop (i + 1) all in
    let first : drop i all ≡ w ∷ left = drop_more all i w c.loop-range-test.true ∙ ap (λ x. x ∷ left) (sym c.range-item.is) in
    let known = subst (λ l. WhereReported (IsPartUpdated l all) before.stored here.stored) first c.loop-range.invariant.written in
    let placed = subst (λ at. WriteAtGives here at c.bytes.result.now answer.Done after) c.start.ensures.start c.in-Done.ensures in
    let gives = subst (λ (bytes : List ℕ). WriteAtGives here w.start bytes answer.Done after) c.bytes.ensures placed in
    record {
      faults = c.in-Done.ensures.1 ∙ c.loop-range.invariant.faults;
      written = reported_then (λ s t u h e. one_written w left all s t u h e) before.stored here.stored after.stored known (write_call w.start w.bytes here after gives);
    }

pub returns-in-Failed : goal.returns-in-Failed
returns-in-Failed g c =
    let before = g.D.Device.disk c.args.device.now in
    let here = g.D.Device.disk c.loop-range.device in
    let after = g.D.Device.disk c.write_at.new.self in
    let all = c.args.writes.now in
    let i = c.loop-range.range-index in
    let w = c.range-item.result in
    let left = drop (i + 1) all in
    let first : drop i all ≡ w ∷ left = drop_more all i w c.loop-range-test.true ∙ ap (λ x. x ∷ left) (sym c.range-item.is) in
    let known = subst (λ l. WhereReported (IsPartUpdated l all) before.stored here.stored) first c.loop-range.invariant.written in
    let placed = subst (λ at. WriteAtGives here at c.bytes.result.now answer.Failed after) c.start.ensures.start c.in-Failed.ensures in
    let gives = subst (λ (bytes : List ℕ). WriteAtGives here w.start bytes answer.Failed after) c.bytes.ensures placed in (
      subst (λ n. Rose n after.faults) c.loop-range.invariant.faults c.in-Failed.ensures.1,
      reported_then (λ s t u h f. one_failed w left all s t u h f) before.stored here.stored after.stored known (write_refused w.start w.bytes here after gives),
    )
