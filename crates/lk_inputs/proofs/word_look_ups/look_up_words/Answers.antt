use Rattle.std.proofs.Common.{ap, ◌∙◌, ◌++◌, ◌∷◌, [], Err}
use Rattle.std.specs.List.{list_any}
use Rattle.std.proofs.lemmas.Result.{err_from_is_err_and}
use Rattle.lk_report.specs.declared.faults.Fault.{Fault}
use Rattle.lk_report.specs.declared.faults.Fault.TheVariants as fault
use Rattle.lk_model.specs.Inputs.{missing_in, missing_path}
use Rattle.lk_inputs.specs.Asked.{is_missing, known_stats, words_look_ups, words_places}
use Rattle.lk_inputs.specs.Named.{named_in, word_seen, words_seen}
use Rattle.lk_inputs.specs.declared.word_look_ups.Sought.{Sought}
use Rattle.lk_inputs.proofs.PlacesAsked.{in_turn_stopped, missed_more, misses_stopped, one_missed, row_named, row_next, row_no_library, row_stopped}
use Rattle.lk_inputs.proofs.RowsTaken.{found_misses, found_placed, more_within, row_ended, row_gives, row_gives_none, rows_ended, same_placed, same_within, word_found, word_missing}
use Rattle.lk_inputs.proofs.WordsSought.{missed, not_missed, unnamed}
use Rattle.lk_inputs.proofs.word_look_ups.look_up_words.Goals as goal
use Rattle.lk_inputs.proofs.word_look_ups.look_up_words.Goals.{in-Some+in_ok-push-in-Some, in-None+in_ok-missing-in-None+in_ok-push-in-None}

pub returns-in_err-name-clause-asked : goal.returns-in_err-name-clause-asked
returns-in_err-name-clause-asked g c = λ there e.
    let p = err_from_is_err_and c.from_residual.result c.from_residual.ensures.1 in
    in_turn_stopped (known_stats (g.F.Files.state c.args.files.now)) (known_stats (g.F.Files.state c.look_up.new.files)) (words_look_ups c.args.command.now there (words_seen c.args.rows.now)) p.0 c.from_residual.result p.1
    (row_stopped c.args.command.now there (known_stats (g.F.Files.state c.args.files.now)) (known_stats (g.F.Files.state c.loop-row.files)) (known_stats (g.F.Files.state c.look_up.new.files)) c.args.rows.now c.loop-row.row-index c.row-item.result c.loop-row-test.true c.row-item.is
    (c.loop-row.invariant.asked there e) (c.in_err-name.ensures.asked there (c.loop-row.invariant.kept ∙ e)))

pub returns-in_err-name-clause-misses : goal.returns-in_err-name-clause-misses
returns-in_err-name-clause-misses g c = λ no.
    let p = err_from_is_err_and c.from_residual.result c.from_residual.ensures.1 in
    misses_stopped (λ (sought : Sought). sought.missing) (list_any is_missing c.loop-row.faults) (g.F.Files.state c.args.files.now) (g.F.Files.state c.loop-row.files) (g.F.Files.state c.look_up.new.files) p.0 c.from_residual.result p.1
    (c.loop-row.invariant.misses no) (c.in_err-name.ensures.misses (row_no_library c.args.rows.now c.loop-row.row-index c.row-item.result c.loop-row-test.true c.row-item.is no))

pub returns-in_err-name-clause-named : goal.returns-in_err-name-clause-named
returns-in_err-name-clause-named g c =
    let p = err_from_is_err_and c.from_residual.result c.from_residual.ensures.1 in
    row_named c.args.command.now c.args.rows.now c.loop-row.row-index c.row-item.result _ c.from_residual.result c.loop-row-test.true c.row-item.is c.in_err-name.ensures.named (p.1 ∙ ap (λ s. Err s) p.2)

pub returns-in_err-push-in-Some-clause-asked : goal.returns-in_err-push-in-Some-clause-asked
returns-in_err-push-in-Some-clause-asked g c = λ there e.
    let p = err_from_is_err_and c.from_residual-in_err-push-in-Some.result c.from_residual-in_err-push-in-Some.ensures.1 in
    in_turn_stopped (known_stats (g.F.Files.state c.args.files.now)) (known_stats (g.F.Files.state c.look_up.new.files)) (words_look_ups c.args.command.now there (words_seen c.args.rows.now)) p.0 c.from_residual-in_err-push-in-Some.result p.1
    (row_ended c.args.command.now there (known_stats (g.F.Files.state c.args.files.now)) (known_stats (g.F.Files.state c.loop-row.files)) (known_stats (g.F.Files.state c.look_up.new.files)) c.args.rows.now c.loop-row.row-index c.row-item.result c.loop-row-test.true c.row-item.is
    (c.loop-row.invariant.asked there e) (c.in_ok-name.ensures.asked there (c.loop-row.invariant.kept ∙ e)))

pub returns-in_err-missing-in-None-clause-asked : goal.returns-in_err-missing-in-None-clause-asked
returns-in_err-missing-in-None-clause-asked g c = λ there e.
    let p = err_from_is_err_and c.from_residual-in_err-missing-in-None.result c.from_residual-in_err-missing-in-None.ensures.1 in
    in_turn_stopped (known_stats (g.F.Files.state c.args.files.now)) (known_stats (g.F.Files.state c.look_up.new.files)) (words_look_ups c.args.command.now there (words_seen c.args.rows.now)) p.0 c.from_residual-in_err-missing-in-None.result p.1
    (row_ended c.args.command.now there (known_stats (g.F.Files.state c.args.files.now)) (known_stats (g.F.Files.state c.loop-row.files)) (known_stats (g.F.Files.state c.look_up.new.files)) c.args.rows.now c.loop-row.row-index c.row-item.result c.loop-row-test.true c.row-item.is
    (c.loop-row.invariant.asked there e) (c.in_ok-name.ensures.asked there (c.loop-row.invariant.kept ∙ e)))

pub returns-in_err-push-in-None-clause-asked : goal.returns-in_err-push-in-None-clause-asked
returns-in_err-push-in-None-clause-asked g c = λ there e.
    let p = err_from_is_err_and c.from_residual-in_err-push-in-None.result c.from_residual-in_err-push-in-None.ensures.1 in
    in_turn_stopped (known_stats (g.F.Files.state c.args.files.now)) (known_stats (g.F.Files.state c.look_up.new.files)) (words_look_ups c.args.command.now there (words_seen c.args.rows.now)) p.0 c.from_residual-in_err-push-in-None.result p.1
    (row_ended c.args.command.now there (known_stats (g.F.Files.state c.args.files.now)) (known_stats (g.F.Files.state c.loop-row.files)) (known_stats (g.F.Files.state c.look_up.new.files)) c.args.rows.now c.loop-row.row-index c.row-item.result c.loop-row-test.true c.row-item.is
    (c.loop-row.invariant.asked there e) (c.in_ok-name.ensures.asked there (c.loop-row.invariant.kept ∙ e)))

pub loop-row-preserved : goal.loop-row-preserved
loop-row-preserved g c = record {
  kept = c.in_ok-name.ensures.kept ∙ c.loop-row.invariant.kept;
  unread = c.in_ok-name.ensures.unread ∙ c.loop-row.invariant.unread;
  names = λ there e.
      elim c.match-branch-2.branch [
        | in-Some+in_ok-push-in-Some w ↦
            row_gives (named_in c.args.command.now there) c.args.rows.now c.loop-row.row-index c.row-item.result c.loop-row.names c.match-branch-2.names _ w.in-Some.name c.loop-row-test.true c.row-item.is (word_found c.args.command.now there (word_seen c.row-item.result) c.in_ok-name.field-0 w.in-Some.name w.in-Some.is (c.in_ok-name.ensures.reported there (c.loop-row.invariant.kept ∙ e))) (w.names-is ∙ w.in_ok-push-in-Some.ensures.pushed) (c.loop-row.invariant.names there e)
        | in-None+in_ok-missing-in-None+in_ok-push-in-None w ↦
            row_gives_none (named_in c.args.command.now there) c.args.rows.now c.loop-row.row-index c.row-item.result c.loop-row.names c.match-branch-2.names _ c.loop-row-test.true c.row-item.is (unnamed c.args.command.now there (word_seen c.row-item.result) (word_missing c.args.command.now there (word_seen c.row-item.result) c.in_ok-name.field-0 w.in-None.is (c.in_ok-name.ensures.reported there (c.loop-row.invariant.kept ∙ e)))) w.names-is (c.loop-row.invariant.names there e)
      ];
  missing = λ there e.
      elim c.match-branch-2.branch [
        | in-Some+in_ok-push-in-Some w ↦
            row_gives_none (missing_in c.args.command.now there) c.args.rows.now c.loop-row.row-index c.row-item.result c.loop-row.faults c.match-branch-2.faults _ c.loop-row-test.true c.row-item.is (not_missed c.args.command.now there (word_seen c.row-item.result) w.in-Some.name (word_found c.args.command.now there (word_seen c.row-item.result) c.in_ok-name.field-0 w.in-Some.name w.in-Some.is (c.in_ok-name.ensures.reported there (c.loop-row.invariant.kept ∙ e)))) w.faults-is (c.loop-row.invariant.missing there e)
        | in-None+in_ok-missing-in-None+in_ok-push-in-None w ↦
            row_gives (missing_in c.args.command.now there) c.args.rows.now c.loop-row.row-index c.row-item.result c.loop-row.faults c.match-branch-2.faults _ (fault.Missing (missing_path c.row-item.result.word.now)) c.loop-row-test.true c.row-item.is (missed c.args.command.now there (word_seen c.row-item.result) (word_missing c.args.command.now there (word_seen c.row-item.result) c.in_ok-name.field-0 w.in-None.is (c.in_ok-name.ensures.reported there (c.loop-row.invariant.kept ∙ e)))) (w.faults-is ∙ w.in_ok-push-in-None.ensures.pushed ∙ ap (λ (f : Fault). c.loop-row.faults ++ f ∷ []) w.in_ok-missing-in-None.ensures) (c.loop-row.invariant.missing there e)
      ];
  faults = c.in_ok-name.ensures.faults ∙ c.loop-row.invariant.faults;
  asked = λ there e.
      row_next c.args.command.now there (known_stats (g.F.Files.state c.args.files.now)) (known_stats (g.F.Files.state c.loop-row.files)) (known_stats (g.F.Files.state c.look_up.new.files)) c.args.rows.now c.loop-row.row-index c.row-item.result c.loop-row-test.true c.row-item.is (c.loop-row.invariant.asked there e) (c.in_ok-name.ensures.asked there (c.loop-row.invariant.kept ∙ e));
  last = c.in_ok-name.ensures.last ∙ c.loop-row.invariant.last;
  misses = λ none.
      let found = c.in_ok-name.ensures.misses (row_no_library c.args.rows.now c.loop-row.row-index c.row-item.result c.loop-row-test.true c.row-item.is none) in
      elim c.match-branch-2.branch [
        | in-Some+in_ok-push-in-Some w ↦
            found_misses c.loop-row.faults c.match-branch-2.faults (g.F.Files.state c.args.files.now) (g.F.Files.state c.loop-row.files) (g.F.Files.state c.look_up.new.files) c.in_ok-name.field-0 w.in-Some.name w.faults-is w.in-Some.is found (c.loop-row.invariant.misses none)
        | in-None+in_ok-missing-in-None+in_ok-push-in-None w ↦
            missed_more c.loop-row.faults c.match-branch-2.faults (missing_path c.row-item.result.word.now) (g.F.Files.state c.args.files.now) (g.F.Files.state c.loop-row.files) (g.F.Files.state c.look_up.new.files) (w.faults-is ∙ w.in_ok-push-in-None.ensures.pushed ∙ ap (λ (f : Fault). c.loop-row.faults ++ f ∷ []) w.in_ok-missing-in-None.ensures) (c.loop-row.invariant.misses none) (one_missed (g.F.Files.state c.loop-row.files) (g.F.Files.state c.look_up.new.files) c.in_ok-name.field-0 w.in-None.is found)
      ];
  placed =
      elim c.match-branch-2.branch [
        | in-Some+in_ok-push-in-Some w ↦
            found_placed c.args.command.now c.args.rows.now c.loop-row.row-index c.row-item.result c.loop-row.names c.match-branch-2.names c.in_ok-name.field-0 w.in-Some.name c.loop-row-test.true c.row-item.is (w.names-is ∙ w.in_ok-push-in-Some.ensures.pushed) w.in-Some.is c.in_ok-name.ensures.placed c.loop-row.invariant.placed
        | in-None+in_ok-missing-in-None+in_ok-push-in-None w ↦
            same_placed (words_places c.args.command.now (words_seen c.args.rows.now)) c.loop-row.names c.match-branch-2.names w.names-is c.loop-row.invariant.placed
      ];
  within =
      elim c.match-branch-2.branch [
        | in-Some+in_ok-push-in-Some w ↦
            more_within c.loop-row.names c.match-branch-2.names w.in-Some.name c.loop-row.row-index (w.names-is ∙ w.in_ok-push-in-Some.ensures.pushed) c.loop-row.invariant.within
        | in-None+in_ok-missing-in-None+in_ok-push-in-None w ↦
            same_within c.loop-row.names c.match-branch-2.names c.loop-row.row-index w.names-is c.loop-row.invariant.within
      ];
}

pub returns-clause-asked : goal.returns-clause-asked
returns-clause-asked g c = λ there e. rows_ended c.args.command.now there (known_stats (g.F.Files.state c.args.files.now)) (known_stats (g.F.Files.state c.loop-row.files)) c.args.rows.now c.loop-row.row-index c.loop-row-test.false (c.loop-row.invariant.asked there e)
