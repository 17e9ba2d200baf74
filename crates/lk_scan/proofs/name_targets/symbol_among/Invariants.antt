use Rattle.std.proofs.Common.{◌≡◌, drop}
use Rattle.lk_model.specs.Winners.{symbol_among}
use Rattle.lk_scan.proofs.name_targets.symbol_among.Given as goal

abbrev pub invariant-loop-contribution : goal.invariant-loop-contribution
invariant-loop-contribution l = symbol_among (drop l.contribution-index l.list) l.input l.symbol ≡ symbol_among l.list l.input l.symbol
