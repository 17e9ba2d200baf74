use Rattle.std.specs.Prelude.{◌≡◌, ◌++◌, drop, flat_map, map}
use Rattle.std.specs.List.{join_with_byte}
use Rattle.lk_model.specs.Grammar.{run_dirs_of}
use Rattle.lk_command.specs.RunPaths.{joined_after}
use Rattle.lk_command.specs.Seen.{phrase_seen}
use Rattle.lk_command.proofs.paths.run_path_of.Given as goal

abbrev pub invariant-loop-phrase : goal.invariant-loop-phrase
invariant-loop-phrase l =
    l.path.items ++ joined_after l.first (flat_map run_dirs_of (map phrase_seen (drop l.phrase-index l.phrases)))
    ≡ join_with_byte 58 (flat_map run_dirs_of (map phrase_seen l.phrases))
