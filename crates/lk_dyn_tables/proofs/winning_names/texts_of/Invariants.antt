use Rattle.std.proofs.Common.{◌≡◌, fold, drop}
use Rattle.lk_model.specs.Texts.{table_of, with_text}
use Rattle.lk_dyn_sizes.specs.DynamicStrings.{texts_at}
use Rattle.lk_dyn_tables.proofs.winning_names.texts_of.Given as goal

abbrev pub invariant-loop-number : goal.invariant-loop-number
invariant-loop-number l = fold with_text l.texts (texts_at l.names (drop l.number-index l.numbers)) ≡ table_of (texts_at l.names l.numbers)
