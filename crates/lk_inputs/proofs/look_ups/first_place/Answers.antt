use Rattle.std.proofs.Common.{◌≡◌, ◌+◌, ◌∙◌, arith}
use Rattle.std.proofs.lemmas.Result.{err_from_is_err_and}
use Rattle.lk_inputs.specs.Asked.{looked_up_to, known_stats}
use Rattle.lk_inputs.proofs.PlacesAsked.{find_next, in_turn_stopped, missed_next, none_there, one_missed, place_next, place_stopped}
use Rattle.lk_inputs.proofs.look_ups.first_place.Goals as goal

pub returns-in_err-place-clause-asked : goal.returns-in_err-place-clause-asked
returns-in_err-place-clause-asked g c = λ there e.
    let p = err_from_is_err_and c.from_residual.result c.from_residual.ensures.1 in
    in_turn_stopped (known_stats (g.F.Files.state c.args.files.now)) (known_stats (g.F.Files.state c.look_at.new.files)) (looked_up_to there c.args.places.now) p.0 c.from_residual.result p.1
    (place_stopped there (known_stats (g.F.Files.state c.args.files.now)) (known_stats (g.F.Files.state c.loop-path.files)) (known_stats (g.F.Files.state c.look_at.new.files)) c.args.places.now c.loop-path.path-index c.path-item.result c.loop-path-test.true c.path-item.is
    (c.loop-path.invariant.asked there e) c.in_err-place.ensures.asked)

pub loop-path-preserved : goal.loop-path-preserved
loop-path-preserved g c = record {
  kept = c.in_ok-place.ensures.kept ∙ c.loop-path.invariant.kept;
  unread = c.in_ok-place.ensures.unread ∙ c.loop-path.invariant.unread;
  reported = λ there e.
      find_next there c.args.places.now c.loop-path.path-index c.path-item.result c.loop-path-test.true c.path-item.is
      (none_there there c.path-item.result c.in_ok-place.field-0 c.in_default.is (c.in_ok-place.ensures.reported there (c.loop-path.invariant.kept ∙ e)))
      ∙ c.loop-path.invariant.reported there e;
  faults = c.in_ok-place.ensures.faults ∙ c.loop-path.invariant.faults;
  asked = λ there e.
      place_next there (known_stats (g.F.Files.state c.args.files.now)) (known_stats (g.F.Files.state c.loop-path.files)) (known_stats (g.F.Files.state c.look_at.new.files)) c.args.places.now c.loop-path.path-index c.path-item.result c.loop-path-test.true c.path-item.is
      (none_there there c.path-item.result c.in_ok-place.field-0 c.in_default.is (c.in_ok-place.ensures.reported there (c.loop-path.invariant.kept ∙ e)))
      (c.loop-path.invariant.asked there e) c.in_ok-place.ensures.asked;
  last = c.in_ok-place.ensures.last ∙ c.loop-path.invariant.last;
  untouched = λ (h : c.loop-path.path-index + 1 ≡ 0). absurd (omega arith);
  missed = λ _.
      missed_next c.loop-path.path-index (g.F.Files.state c.args.files.now) (g.F.Files.state c.loop-path.files) (g.F.Files.state c.look_at.new.files) c.loop-path.invariant.untouched c.loop-path.invariant.missed
      (one_missed (g.F.Files.state c.loop-path.files) (g.F.Files.state c.look_at.new.files) c.in_ok-place.field-0 c.in_default.is c.in_ok-place.ensures.misses);
}
