use Rattle.std.specs.Prelude.{◌≡◌, ◌++◌, codes, drop, flat_map}
use Rattle.lk_probe.specs.SharedFacts.{name_line}
use Rattle.lk_probe.proofs.shared_texts.put_needs.Given as goal

abbrev pub invariant-loop-need : goal.invariant-loop-need
invariant-loop-need l =
    l.text.items ++ flat_map (name_line (codes "needs: ")) (drop l.need-index l.needs)
    ≡ l.initial.text.items ++ flat_map (name_line (codes "needs: ")) l.needs
