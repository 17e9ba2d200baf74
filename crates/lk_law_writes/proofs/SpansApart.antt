-- Spans of bytes that share none: by numbers.
use Rattle.std.specs.Prelude.{◌≡◌, ℕ, IsTrue, ◌+◌, ◌≤◌}
use Rattle.std.proofs.Common.{arith}
use Rattle.std.proofs.lemmas.Bool.Decides.{nat_tests}
use Rattle.lk_model.specs.Lawful.{share_nothing}

-- one that begins at or above the end of another
pub above_apart : (a m b n : ℕ) → a + m ≤ b → IsTrue (share_nothing a m b n)
above_apart a m b n above = grind (arith, nat_tests)

pub below_apart : (a m b n : ℕ) → b + n ≤ a → IsTrue (share_nothing a m b n)
below_apart a m b n below = grind (arith, nat_tests)

-- one without bytes
pub nothing_apart : (a m b n : ℕ) → n ≡ 0 → IsTrue (share_nothing a m b n)
nothing_apart a m b n none = grind (arith, nat_tests)

-- the other way round
pub turned_apart : (a m b n : ℕ) → IsTrue (share_nothing a m b n) → IsTrue (share_nothing b n a m)
turned_apart a m b n apart = grind (arith, nat_tests)

-- both moved by as much
pub moved_apart : (k a m b n : ℕ) → IsTrue (share_nothing a m b n) → IsTrue (share_nothing (k + a) m (k + b) n)
moved_apart k a m b n apart = grind (arith, nat_tests)

-- a part of one of them
pub smaller_apart : (a m b n from size : ℕ) → a ≤ from → from + size ≤ a + m → IsTrue (share_nothing a m b n) → IsTrue (share_nothing from size b n)
smaller_apart a m b n from size low high apart = grind (arith, nat_tests)
