use Rattle.std.specs.Prelude.{◌≡◌, ◌+◌, ◌-◌, ◌*◌, ◌≤◌, drop, fold}
use Rattle.lk_model.specs.Grammar.{number_in}
use Rattle.lk_command.proofs.numbers.number_in.Given as goal

abbrev pub invariant-loop-byte : goal.invariant-loop-byte
invariant-loop-byte l =
    (fold (λ n b. n * 10 + (b - 48)) l.number (drop l.byte-index l.text) ≡ number_in l.text)
    × (l.byte-index ≤ 0 → l.number ≤ 0)
    × (l.byte-index ≤ 1 → l.number ≤ 255)
    × (l.byte-index ≤ 2 → l.number ≤ 2805)
    × (l.byte-index ≤ 3 → l.number ≤ 28305)
