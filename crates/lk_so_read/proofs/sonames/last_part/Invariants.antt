use Rattle.std.specs.Prelude.{◌≡◌, ◌+◌, ◌≤◌, ◌==◌, length, not, take}
use Rattle.std.specs.List.{suffix_len}
use Rattle.lk_so_read.proofs.sonames.last_part.Given as goal

-- the bytes after `start` have no slash
abbrev pub invariant-loop-start : goal.invariant-loop-start
invariant-loop-start l = record {
  within : l.start ≤ length l.path;
  passed : l.start + suffix_len (λ b. not (b == 47)) l.path ≡ length l.path + suffix_len (λ b. not (b == 47)) (take l.start l.path);
}

abbrev pub decreases-loop-start : goal.decreases-loop-start
decreases-loop-start l = l.start
