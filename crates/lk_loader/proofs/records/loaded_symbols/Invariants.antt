use Rattle.std.specs.Prelude.{◌≡◌, ◌-◌, map, option_map}
use Rattle.lk_loader.specs.LoadedImages.{load_symbol}
use Rattle.lk_loader.proofs.AllOf.{joined, symbols_from}
use Rattle.lk_loader.proofs.records.loaded_symbols.Given as goal

abbrev pub invariant-loop-k : goal.invariant-loop-k
invariant-loop-k l =
    joined l.symbols.items (option_map (map load_symbol) (symbols_from l.strings l.records l.k (l.count - l.k)))
    ≡ option_map (map load_symbol) (symbols_from l.strings l.records 0 l.count)
