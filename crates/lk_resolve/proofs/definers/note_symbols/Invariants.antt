use Rattle.std.proofs.Common.{◌≡◌, ◌&&◌, ◌||◌, ℕ, List, nat_eq, drop}
use Rattle.lk_resolve.specs.Definers.{defines_among, is_definer}
use Rattle.lk_resolve.proofs.definers.note_symbols.Given as goal

abbrev pub invariant-loop-symbol : goal.invariant-loop-symbol
invariant-loop-symbol l = (name : List ℕ) (i : ℕ) → (is_definer l.definers name i || (defines_among (drop l.symbol-index l.symbols) name && nat_eq i l.place)) ≡ (is_definer l.initial.definers name i || (defines_among l.symbols name && nat_eq i l.place))
