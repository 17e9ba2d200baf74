use Rattle.std.proofs.Common.{◌≡◌, ◌++◌, drop}
use Rattle.std.specs.List.{flat_map}
use Rattle.lk_probe.specs.LoadTexts.{need_line}
use Rattle.lk_probe.proofs.load_texts.put_needs.Given as goal

abbrev pub invariant-loop-name : goal.invariant-loop-name
invariant-loop-name l = l.text.items ++ flat_map need_line (drop l.name-index l.names) ≡ l.initial.text.items ++ flat_map need_line l.names
