-- A binary tree of marks. Its leaves are the marks of the numbers below a power of two, and each inner node says whether
-- a number below it is marked.
use Rattle.std.specs.Prelude.{◌≡◌, ℕ, ◌+◌, ◌*◌, ◌^◌, ◌<◌, ◌≤◌, Bool, false, ◌||◌, ◌&&◌, List, length, nat_le}
use Rattle.std.specs.List.{slice_index_or}

-- the mark of a number; one past the last is not marked
abbrev pub mark : List Bool → ℕ → Bool
mark marks k = slice_index_or marks k false

-- whether a number from a bound on is marked
abbrev pub is_marked_from : List Bool → ℕ → ℕ → Bool
is_marked_from marks from k = nat_le from k && mark marks k

-- whether an inner node is marked exactly where one of its two children is
abbrev pub IsSum : List Bool → ℕ → Type 0
IsSum nodes i = mark nodes i ≡ (mark nodes (2 * i) || mark nodes (2 * i + 1))

-- every inner node is marked exactly where one of its two children is
abbrev pub IsSummed : ℕ → List Bool → Type 0
IsSummed room nodes = (i : ℕ) → 1 ≤ i → i < room → IsSum nodes i

-- the nodes of a tree of so many levels: the inner ones from 1 on, then as many leaves
pub record IsTree (room levels : ℕ) (nodes : List Bool) : Type 0 where
  pub size : length nodes ≡ 2 * room
  pub power : room ≡ 2 ^ levels
  pub shallow : levels ≤ 32
  pub summed : IsSummed room nodes

-- a node of a tree, so many levels above the leaves, and the least number below it
pub record IsNode (room : ℕ) (nodes : List Bool) (node level start : ℕ) : Type 0 where
  pub size : length nodes ≡ 2 * room
  pub place : node * 2 ^ level ≡ room + start
  pub inside : start + 2 ^ level ≤ room
  pub shallow : level ≤ 32
  pub few : room ≤ 2 ^ 32
  pub summed : IsSummed room nodes
