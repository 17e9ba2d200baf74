use Rattle.std.proofs.Common.{◌≡◌, ◌≤◌, ℕ, length}
use Rattle.lk_symtab.specs.NamesOfSymbols.{number_at}
use Rattle.lk_symtab.proofs.names_by_symbol.NamesBySymbol.make_inputs.Given as goal

abbrev pub invariant-loop-number : goal.invariant-loop-number
invariant-loop-number l = ((i s : ℕ) → number_at l.self-inside.inputs.items i s ≡ number_at l.fn.self i s) × (l.number ≤ length l.self-inside.inputs.items)
