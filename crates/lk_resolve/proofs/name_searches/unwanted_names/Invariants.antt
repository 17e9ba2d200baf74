use Rattle.std.proofs.Common.{◌≡◌, ◌++◌, drop}
use Rattle.lk_resolve.specs.NameSearches.{names_as, unwanted_in}
use Rattle.lk_resolve.proofs.name_searches.unwanted_names.Given as goal

abbrev pub invariant-loop-symbol : goal.invariant-loop-symbol
invariant-loop-symbol l = names_as l.names ++ unwanted_in l.state (drop l.symbol-index l.symbols) ≡ unwanted_in l.state l.symbols
