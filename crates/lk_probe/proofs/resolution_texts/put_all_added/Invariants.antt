use Rattle.std.proofs.Common.{◌≡◌, ◌++◌, drop}
use Rattle.std.specs.List.{flat_map}
use Rattle.lk_probe.specs.ResolutionTexts.{added_line, added_lines}
use Rattle.lk_probe.proofs.resolution_texts.put_all_added.Given as goal

abbrev pub invariant-loop-input : goal.invariant-loop-input
invariant-loop-input l = l.text.items ++ flat_map (added_line l.resolution.paths) (drop l.input-index l.resolution.added) ≡ l.initial.text.items ++ added_lines l.resolution
