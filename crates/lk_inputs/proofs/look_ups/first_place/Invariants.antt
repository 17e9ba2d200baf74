use Rattle.std.proofs.Common.{◌≡◌, ◌<◌, drop, Some}
use Rattle.std.specs.Prelude.{find}
use Rattle.lk_report.specs.FileMap.{FileMap}
use Rattle.lk_report.specs.Spoken.{Rose}
use Rattle.lk_model.specs.Inputs.{is_there}
use Rattle.lk_inputs.specs.Asked.{known_failed, looked_up_to, known_stats}
use Rattle.lk_inputs.specs.FileAnswers.{known_map, known_reads}
use Rattle.lk_inputs.proofs.TurnsTaken.{AskedUpTo}
use Rattle.lk_inputs.proofs.look_ups.first_place.Given as goal

abbrev pub invariant-loop-path : goal.invariant-loop-path
invariant-loop-path g l = record {
  kept : known_map (g.F.Files.state l.files) ≡ known_map (g.F.Files.state l.initial.files);
  unread : known_reads (g.F.Files.state l.files) ≡ known_reads (g.F.Files.state l.initial.files);
  reported : (there : FileMap) → known_map (g.F.Files.state l.initial.files) ≡ Some there → find (is_there there) (drop l.path-index l.places) ≡ find (is_there there) l.places;
  faults : (g.F.Files.state l.files).faults ≡ (g.F.Files.state l.initial.files).faults;
  asked : (there : FileMap) → known_map (g.F.Files.state l.initial.files) ≡ Some there → AskedUpTo (known_stats (g.F.Files.state l.initial.files)) (looked_up_to there l.places) (looked_up_to there (drop l.path-index l.places)) (known_stats (g.F.Files.state l.files));
  last : known_failed (g.F.Files.state l.files) ≡ known_failed (g.F.Files.state l.initial.files);
  untouched : l.path-index ≡ 0 → (g.F.Files.state l.files).misses ≡ (g.F.Files.state l.initial.files).misses;
  missed : 0 < l.path-index → Rose (g.F.Files.state l.initial.files).misses (g.F.Files.state l.files).misses;
}
