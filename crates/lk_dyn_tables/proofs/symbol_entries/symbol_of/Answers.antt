use Rattle.std.proofs.Common.{ap, ◌∙◌, ◌%◌, ◌^◌}
use Rattle.std.specs.Prelude.{ℕ}
use Rattle.lk_dyn_tables.specs.SymbolEntries.{as_sym}
use Rattle.lk_dyn_tables.proofs.EntriesLow.{low_symbol}
use Rattle.lk_dyn_tables.proofs.symbol_entries.symbol_of.Goals as goal

pub returns : goal.returns
returns c =
    low_symbol (as_sym c.args.entry.now) c.low_word.result c.low_byte.result c.low_byte-2.result c.low_half.result
    c.low_word.ensures (c.low_byte.ensures ∙ ap (λ (n : ℕ). n % 2 ^ 8) c.symbol_info-info.ensures) (c.low_byte-2.ensures ∙ ap (λ (n : ℕ). n % 2 ^ 8) c.from.ensures) c.low_half.ensures
