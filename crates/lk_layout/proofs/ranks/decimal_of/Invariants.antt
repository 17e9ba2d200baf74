use Rattle.std.proofs.Common.{◌≡◌, ◌≤◌, ◌-◌, ◌+◌, ◌*◌, ℕ, fold, drop}
use Rattle.lk_model.specs.Rooms.{decimal_of}
use Rattle.lk_layout.proofs.ranks.decimal_of.Given as goal

-- a bound on the number by how many of its digits are still to be written
pub record Small (n i : ℕ) : Type 0 where
  pub none : i ≤ 0 → n ≤ 0
  pub one : i ≤ 1 → n ≤ 207
  pub two : i ≤ 2 → n ≤ 2277
  pub three : i ≤ 3 → n ≤ 22977
  pub four : i ≤ 4 → n ≤ 229977

abbrev pub invariant-loop-digit : goal.invariant-loop-digit
invariant-loop-digit l = record {
  reported : fold (λ n digit. n * 10 + (digit - 48)) l.n (drop l.digit-index l.digits) ≡ decimal_of l.digits;
  small : Small l.n l.digit-index;
}
