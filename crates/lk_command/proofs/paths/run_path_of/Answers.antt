use Rattle.std.proofs.Common.{Global, Vec, ℕ, ap, ◌∙◌}
use Rattle.lk_command.proofs.RunPaths.{no_dir, one_dir}
use Rattle.lk_command.proofs.paths.run_path_of.Goals as goal
use Rattle.lk_command.proofs.paths.run_path_of.Goals.{in-Some+in_ok-put_dir, in_default}

pub loop-phrase-preserved : goal.loop-phrase-preserved
loop-phrase-preserved c =
    elim c.match-run_dir_of.branch [
      | in-Some+in_ok-put_dir w ↦
          one_dir c.args.phrases.now c.loop-phrase.phrase-index _ c.loop-phrase.path.items c.match-run_dir_of.path.items c.loop-phrase.first c.match-run_dir_of.first w.in-Some.dir.now c.loop-phrase-test.true w.in-Some.ensures
          (ap (λ (p : Vec ℕ Global). p.items) w.path-is ∙ w.in_ok-put_dir.ensures) w.first-is
          ∙ c.loop-phrase.invariant
      | in_default w ↦
          no_dir c.args.phrases.now c.loop-phrase.phrase-index _ c.loop-phrase.path.items c.match-run_dir_of.path.items c.loop-phrase.first c.match-run_dir_of.first c.loop-phrase-test.true w.in_default.ensures
          (ap (λ (p : Vec ℕ Global). p.items) w.path-is) w.first-is
          ∙ c.loop-phrase.invariant
    ]
