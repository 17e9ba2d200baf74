-- The three stages one after another.
use Rattle.std.proofs.Common.{◌<◌, length, sym, ◌∙◌, subst, arith}
use Rattle.lk_report.specs.Spoken.{Rose}
use Rattle.lk_commit.specs.CrashStates.{BeginInTurn, IsFinished, IsStopped, sealed, updated}
use Rattle.lk_commit.specs.Stages.{IsFileOpened, IsFileUnopened, IsSealed, IsUnfinished, IsUpdateWritten, StaysOpen}
use Rattle.lk_commit.proofs.Committed.{IsUpdatePut, is_update_put, not_opened, not_put, update_finished, update_unfinished}
use Rattle.lk_commit.proofs.CrashesLeave.{unsealed_kept}
use Rattle.lk_commit.proofs.Reported.{both_known, reported_after, reported_given, reported_map2, reported_then, stage_then}
use Rattle.lk_commit.proofs.updates.commit_update.Goals as goal

pub put_ranges-requires-clause-unsealed : goal.put_ranges-requires-clause-unsealed
put_ranges-requires-clause-unsealed g c =
    let before = g.D.Device.disk c.args.device.now in
    reported_after (λ s t (opened : IsFileOpened s t). unsealed_kept t opened.kept opened.file) before.stored (g.D.Device.disk c.open_file.new.device).stored c.in-Done.ensures.1

pub put_ranges-requires-clause-in_turn : goal.put_ranges-requires-clause-in_turn
put_ranges-requires-clause-in_turn g c =
    let before = g.D.Device.disk c.args.device.now in
    let opened = g.D.Device.disk c.open_file.new.device in
    let ws = c.args.writes.now in
    let known = both_known (λ s. 4096 < length s.bytes) (λ s. BeginInTurn (length s.bytes) ws) before.stored c.requires.file c.requires.in_turn in
    reported_after (λ s t h. let long = h.0.0 in subst (λ n. BeginInTurn n ws) (sym (h.1.beside (omega (arith, long))).size) h.0.1) before.stored opened.stored
    (reported_given IsFileOpened (λ s. (4096 < length s.bytes) × BeginInTurn (length s.bytes) ws) before.stored opened.stored known c.in-Done.ensures.1)

pub put_seal-requires-clause-no_seal : goal.put_seal-requires-clause-no_seal
put_seal-requires-clause-no_seal g c =
    let opened = g.D.Device.disk c.open_file.new.device in
    reported_after (λ s t (written : IsUpdateWritten c.args.writes.now c.args.length s t). written.stays.unsealed.file) opened.stored (g.D.Device.disk c.put_ranges.new.device).stored c.in-Done-put_ranges.ensures.1

pub returns-in-Done-put_ranges : goal.returns-in-Done-put_ranges
returns-in-Done-put_ranges g c =
    let ws = c.args.writes.now in
    let n = c.args.length in
    let before = g.D.Device.disk c.args.device.now in
    let opened = g.D.Device.disk c.open_file.new.device in
    let written = g.D.Device.disk c.put_ranges.new.device in
    let after = g.D.Device.disk c.put_seal.new.device in
    let known = both_known (λ s. 4096 < length s.bytes) (λ s. BeginInTurn (length s.bytes) ws) before.stored c.requires.file c.requires.in_turn in
    let given = reported_given IsFileOpened (λ s. (4096 < length s.bytes) × BeginInTurn (length s.bytes) ws) before.stored opened.stored known c.in-Done.ensures.1 in
    let put = reported_then (λ s t u a b. is_update_put ws n s t u c.requires.long c.requires.apart a.0.0 a.0.1 a.1 b) before.stored opened.stored written.stored given c.in-Done-put_ranges.ensures.1 in
    stage_then (IsUpdatePut ws n) IsSealed IsUnfinished (λ s u. IsFinished (sealed (updated ws n s.bytes)) s u) (λ s u. IsStopped (sealed (updated ws n s.bytes)) s u) before written after c.put_seal.result
    (update_finished ws n) (update_unfinished ws n) (c.in-Done-put_ranges.ensures.0 ∙ c.in-Done.ensures.0) put c.put_seal.ensures

pub returns-in-Failed-put_ranges : goal.returns-in-Failed-put_ranges
returns-in-Failed-put_ranges g c =
    let ws = c.args.writes.now in
    let n = c.args.length in
    let before = g.D.Device.disk c.args.device.now in
    let opened = g.D.Device.disk c.open_file.new.device in
    let after = g.D.Device.disk c.put_ranges.new.device in (
      subst (λ k. Rose k after.faults) c.in-Done.ensures.0 c.in-Failed-put_ranges.ensures.0,
      reported_then (λ s t u (a : IsFileOpened s t) (b : StaysOpen t u). not_put (sealed (updated ws n s.bytes)) s t u a b) before.stored opened.stored after.stored c.in-Done.ensures.1 c.in-Failed-put_ranges.ensures.1,
    )

pub returns-in-Failed : goal.returns-in-Failed
returns-in-Failed g c =
    let ws = c.args.writes.now in
    let n = c.args.length in
    let before = g.D.Device.disk c.args.device.now in
    let after = g.D.Device.disk c.open_file.new.device in
    (c.in-Failed.ensures.0, reported_map2 (λ s t (left : IsFileUnopened s t). not_opened (sealed (updated ws n s.bytes)) s t left) before.stored after.stored c.in-Failed.ensures.1)
