use Rattle.std.proofs.Common.{◌≡◌, drop}
use Rattle.lk_symbol_values.specs.PieceAddresses.{address_in, address_of}
use Rattle.lk_symbol_values.specs.declared.piece_addresses.PieceKey.{PieceKey}
use Rattle.lk_symbol_values.proofs.piece_addresses.piece_addresses.Given as goal

abbrev pub invariant-loop-number : goal.invariant-loop-number
invariant-loop-number l = (k : PieceKey) → address_of l.addresses.entries k ≡ address_in (drop l.number l.rows) k
