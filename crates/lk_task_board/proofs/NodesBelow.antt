-- Which numbers are below a node of a tree of marks.
use Rattle.std.proofs.Common.{◌≡◌, ℕ, zero, suc, ◌+◌, ◌-◌, ◌*◌, ◌/◌, ◌^◌, ◌<◌, ◌≤◌, Bool, true, false, ◌||◌, ◌&&◌, List, length, drop, get_or, nat_le, Option, None, Some, refl, sym, ap, ◌∙◌, subst, inl, inr, arith}
use Rattle.std.proofs.Math.Nat.{mul-zero, zero-mul, mul_comm, mul_assoc, add-mul, mul-add, mul-le-mul_left, pow-succ'}
use Rattle.std.proofs.lemmas.Nat.{pow_pos}
use Rattle.std.proofs.lemmas.List.{get_or-drop}
use Rattle.std.proofs.lemmas.Bool.{or_parts, and_left, and_right, and_from, lt-leb, le-leb, cases_lt, cases_eq}
use Rattle.lk_task_runs.specs.Below.{first_from}
use Rattle.lk_task_runs.proofs.NumbersBelow.{first_absent, first_is}
use Rattle.lk_task_board.specs.Trees.{mark, is_marked_from, IsSum, IsSummed, IsTree, IsNode}
use Rattle.lk_task_board.proofs.Firsts.{first_more, first_rest}

-- both halves of the numbers below a node, where w numbers are below each of its children
pub record AreHalves (room node w start : ℕ) : Type 0 where
  pub above : 1 ≤ node
  pub inner : node < room
  pub left : (2 * node) * w ≡ room + start
  pub right : (2 * node + 1) * w ≡ room + (start + w)

first_node : (n x y : ℕ) → 0 < y → n * x ≡ y → 1 ≤ n
first_node zero x y l e = absurd (omega (arith, sym e ∙ zero-mul x, l))
first_node (suc n) x y l e = omega arith

pub halves : (room node w start : ℕ) → 1 ≤ w → node * (2 * w) ≡ room + start → start + 2 * w ≤ room → AreHalves room node w start
halves room node w start some e inside =
    let twice : (2 * node) * w ≡ node * (2 * w) = ap (λ (x : ℕ). x * w) (mul_comm 2 node) ∙ mul_assoc node 2 w in
    let more : node * 2 ≤ node * (2 * w) = mul-le-mul_left node (omega arith) in
    let one : (2 * node + 1) * w ≡ (2 * node) * w + 1 * w = add-mul (2 * node) 1 w in
    record {
      above = first_node node (2 * w) (room + start) (omega arith) e;
      inner = omega (arith, more, e);
      left = twice ∙ e;
      right = omega (arith, one, twice, e);
    }

pub twice_power : (l : ℕ) → 2 ^ (suc l) ≡ 2 * 2 ^ l
twice_power l = pow-succ' 2 l

pub node_halves : (room : ℕ) (nodes : List Bool) (node l start : ℕ) → IsNode room nodes node (suc l) start → AreHalves room node (2 ^ l) start
node_halves room nodes node l start h =
    halves room node (2 ^ l) start (omega (arith, pow_pos l)) (ap (λ (x : ℕ). node * x) (sym (twice_power l)) ∙ h.place) (omega (arith, h.inside, twice_power l))

pub left_node : (room : ℕ) (nodes : List Bool) (node l start : ℕ) → IsNode room nodes node (suc l) start → IsNode room nodes (2 * node) l start
left_node room nodes node l start h =
    let parts = node_halves room nodes node l start h in
    record { size = h.size; place = parts.left; inside = omega (arith, h.inside, twice_power l); shallow = omega (arith, h.shallow); few = h.few; summed = h.summed }

pub right_node : (room : ℕ) (nodes : List Bool) (node l start : ℕ) → IsNode room nodes node (suc l) start → IsNode room nodes (2 * node + 1) l (start + 2 ^ l)
right_node room nodes node l start h =
    let parts = node_halves room nodes node l start h in
    record { size = h.size; place = parts.right; inside = omega (arith, h.inside, twice_power l); shallow = omega (arith, h.shallow); few = h.few; summed = h.summed }

-- a node at the leaves is one leaf
pub leaf_node : (room : ℕ) (nodes : List Bool) (node start : ℕ) → IsNode room nodes node 0 start → node ≡ room + start
leaf_node room nodes node start h = let one : node * 1 ≡ room + start = h.place in omega (arith, one)

-- no number below a node that is not marked is marked
pub none_below_node : (room : ℕ) (nodes : List Bool) (node level start k : ℕ) → IsNode room nodes node level start → mark nodes node ≡ false → start ≤ k → k < start + 2 ^ level → mark nodes (room + k) ≡ false
none_below_node room nodes node zero start k h e low high =
    let here : node ≡ room + k = omega (arith, leaf_node room nodes node start h, low, high) in
    subst (λ (i : ℕ). mark nodes i ≡ false) here e
none_below_node room nodes node (suc l) start k h e low high =
    let parts = node_halves room nodes node l start h in
    let children = or_parts (mark nodes (2 * node)) (mark nodes (2 * node + 1)) (sym (h.summed node parts.above parts.inner) ∙ e) in
    elim (cases_lt k (start + 2 ^ l)) [
      | inl left ↦ none_below_node room nodes (2 * node) l start k (left_node room nodes node l start h) children.0 low left
      | inr right ↦ none_below_node room nodes (2 * node + 1) l (start + 2 ^ l) k (right_node room nodes node l start h) children.1 right (omega (arith, high, twice_power l))
    ]

-- a node is one of the nodes
pub node_there : (room : ℕ) (nodes : List Bool) (node level start : ℕ) → IsNode room nodes node level start → node < length nodes
node_there room nodes node zero start h = omega (arith, leaf_node room nodes node start h, h.inside, h.size)
node_there room nodes node (suc l) start h = omega (arith, (node_halves room nodes node l start h).inner, h.size)

-- none is found below a node that is not marked
pub absent_below : (room : ℕ) (nodes : List Bool) (node level start from : ℕ) → IsNode room nodes node level start → mark nodes node ≡ false → None ≡ first_from (is_marked_from (drop room nodes) from) start (2 ^ level)
absent_below room nodes node level start from h e =
    sym (first_absent (is_marked_from (drop room nodes) from) start (2 ^ level) (λ k low high. and_right (nat_le from k) (mark (drop room nodes) k) (get_or-drop room nodes k false ∙ none_below_node room nodes node level start k h e low high)))

-- none is found below a bound
pub absent_before : (marks : List Bool) (start count from : ℕ) → start + count ≤ from → None ≡ first_from (is_marked_from marks from) start count
absent_before marks start count from l =
    sym (first_absent (is_marked_from marks from) start count (λ k low high. and_left (nat_le from k) (mark marks k) (lt-leb from k (omega (arith, high, l)))))

-- a leaf that is marked is found
pub found_at_leaf : (room : ℕ) (nodes : List Bool) (node start from : ℕ) → IsNode room nodes node 0 start → mark nodes node ≡ true → from < start + 1 → Some start ≡ first_from (is_marked_from (drop room nodes) from) start 1
found_at_leaf room nodes node start from h e l =
    let here : mark nodes (room + start) ≡ true = subst (λ (i : ℕ). mark nodes i ≡ true) (leaf_node room nodes node start h) e in
    sym (first_is (is_marked_from (drop room nodes) from) start 1 start (omega arith) (omega arith)
    (and_from (nat_le from start) (mark (drop room nodes) start) (le-leb from start (omega (arith, l))) (get_or-drop room nodes start false ∙ here)) (λ j low below. absurd (omega (arith, low, below))))

-- what the left half has is found
pub found_left : (p : ℕ → Bool) (start level k : ℕ) → 1 ≤ level → Some k ≡ first_from p start (2 ^ (level - 1)) → Some k ≡ first_from p start (2 ^ level)
found_left p start zero k l e = absurd (omega arith)
found_left p start (suc n) k l e =
    let less : suc n - 1 ≡ n = omega arith in
    let twice : 2 ^ (suc n) ≡ 2 ^ n + 2 ^ n = omega (arith, twice_power n) in
    sym (ap (λ (x : ℕ). first_from p start x) twice ∙ first_more p start (2 ^ n) (2 ^ n) k (sym (e ∙ ap (λ (x : ℕ). first_from p start (2 ^ x)) less)))

-- what the right half has is found where the left one has none
pub found_right : (p : ℕ → Bool) (start level : ℕ) → 1 ≤ level → None ≡ first_from p start (2 ^ (level - 1)) → first_from p (start + 2 ^ (level - 1)) (2 ^ (level - 1)) ≡ first_from p start (2 ^ level)
found_right p start zero l e = absurd (omega arith)
found_right p start (suc n) l e =
    let less : suc n - 1 ≡ n = omega arith in
    let twice : 2 ^ (suc n) ≡ 2 ^ n + 2 ^ n = omega (arith, twice_power n) in
    ap (λ (x : ℕ). first_from p (start + 2 ^ x) (2 ^ x)) less ∙ sym (ap (λ (x : ℕ). first_from p start x) twice ∙ first_rest p start (2 ^ n) (2 ^ n) (sym (e ∙ ap (λ (x : ℕ). first_from p start (2 ^ x)) less)))

-- the children of a node, by its level
pub left_of : (room : ℕ) (nodes : List Bool) (node level start : ℕ) → 1 ≤ level → IsNode room nodes node level start → IsNode room nodes (2 * node) (level - 1) start
left_of room nodes node zero start l h = absurd (omega arith)
left_of room nodes node (suc n) start l h = let less : n ≡ suc n - 1 = omega arith in subst (λ (x : ℕ). IsNode room nodes (2 * node) x start) less (left_node room nodes node n start h)

pub right_of : (room : ℕ) (nodes : List Bool) (node level start : ℕ) → 1 ≤ level → IsNode room nodes node level start → IsNode room nodes (2 * node + 1) (level - 1) (start + 2 ^ (level - 1))
right_of room nodes node zero start l h = absurd (omega arith)
right_of room nodes node (suc n) start l h = let less : n ≡ suc n - 1 = omega arith in subst (λ (x : ℕ). IsNode room nodes (2 * node + 1) x (start + 2 ^ x)) less (right_node room nodes node n start h)

-- a node's children are nodes
pub inner_node : (room : ℕ) (nodes : List Bool) (node level start : ℕ) → 1 ≤ level → IsNode room nodes node level start → 2 * node + 1 < 2 * room
inner_node room nodes node zero start l h = absurd (omega arith)
inner_node room nodes node (suc n) start l h = omega (arith, (node_halves room nodes node n start h).inner)

-- the root
pub root_node : (room levels : ℕ) (nodes : List Bool) → IsTree room levels nodes → room ≤ 2 ^ 32 → IsNode room nodes 1 levels 0
root_node room levels nodes h few =
    let one : 1 * 2 ^ levels ≡ room + 0 = omega (arith, h.power) in
    record { size = h.size; place = one; inside = omega (arith, h.power); shallow = h.shallow; few = few; summed = h.summed }
