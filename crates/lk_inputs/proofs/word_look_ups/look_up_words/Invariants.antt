use Rattle.std.proofs.Common.{◌≡◌, ◌≤◌, ◌++◌, drop, false, length, Some}
use Rattle.std.specs.Prelude.{Contains}
use Rattle.std.specs.List.{AllByRecursion, filter_map, list_any}
use Rattle.lk_report.specs.FileMap.{FileMap}
use Rattle.lk_model.specs.Inputs.{missing_in}
use Rattle.lk_inputs.specs.Asked.{MissesReported, known_failed, has_library, is_missing, known_stats, words_look_ups, words_places}
use Rattle.lk_inputs.specs.Named.{named_in, words_seen}
use Rattle.lk_inputs.specs.FileAnswers.{known_map, known_reads}
use Rattle.lk_inputs.proofs.TurnsTaken.{AskedUpTo}
use Rattle.lk_inputs.proofs.word_look_ups.look_up_words.Given as goal

abbrev pub invariant-loop-row : goal.invariant-loop-row
invariant-loop-row g l = record {
  kept : known_map (g.F.Files.state l.files) ≡ known_map (g.F.Files.state l.initial.files);
  unread : known_reads (g.F.Files.state l.files) ≡ known_reads (g.F.Files.state l.initial.files);
  names : (there : FileMap) → known_map (g.F.Files.state l.initial.files) ≡ Some there → l.names ++ filter_map (named_in l.command there) (words_seen (drop l.row-index l.rows)) ≡ filter_map (named_in l.command there) (words_seen l.rows);
  missing : (there : FileMap) → known_map (g.F.Files.state l.initial.files) ≡ Some there → l.faults ++ filter_map (missing_in l.command there) (words_seen (drop l.row-index l.rows)) ≡ filter_map (missing_in l.command there) (words_seen l.rows);
  faults : (g.F.Files.state l.files).faults ≡ (g.F.Files.state l.initial.files).faults;
  asked : (there : FileMap) → known_map (g.F.Files.state l.initial.files) ≡ Some there → AskedUpTo (known_stats (g.F.Files.state l.initial.files)) (words_look_ups l.command there (words_seen l.rows)) (words_look_ups l.command there (words_seen (drop l.row-index l.rows))) (known_stats (g.F.Files.state l.files));
  last : known_failed (g.F.Files.state l.files) ≡ known_failed (g.F.Files.state l.initial.files);
  misses : has_library (words_seen l.rows) ≡ false → MissesReported (list_any is_missing l.faults) (g.F.Files.state l.initial.files) (g.F.Files.state l.files);
  placed : AllByRecursion (λ name. Contains (words_places l.command (words_seen l.rows)) name.path) l.names;
  within : length l.names ≤ l.row-index;
}
