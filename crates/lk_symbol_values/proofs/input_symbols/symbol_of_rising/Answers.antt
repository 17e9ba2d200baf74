use Rattle.std.proofs.Common.{sym, ap, ◌∙◌}
use Rattle.std.specs.Option.{option_copied}
use Rattle.lk_symbol_values.proofs.SymbolsRise.{found_where}
use Rattle.lk_symbol_values.proofs.input_symbols.symbol_of_rising.Goals as goal

pub returns-in-Some : goal.returns-in-Some
returns-in-Some c =
    sym (found_where c.args.symbol _ c.args.globals.now c.in-Some.global.now c.requires (sym c.symbol_at.ensures ∙ ap option_copied c.in-Some.is))
