use Rattle.std.proofs.Common.{◌≡◌, drop}
use Rattle.lk_dyn_tables.specs.NamedRows.{row_at, row_in}
use Rattle.lk_dyn_tables.specs.declared.named_rows.NamedPiece.{NamedPiece}
use Rattle.lk_dyn_tables.proofs.named_rows.named_rows.Given as goal

abbrev pub invariant-loop-number : goal.invariant-loop-number
invariant-loop-number l = (k : NamedPiece) → row_at l.named.entries k ≡ row_in (drop l.number l.rows) k
