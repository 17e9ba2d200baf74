use Rattle.std.proofs.Common.{ap, ◌∙◌}
use Rattle.std.specs.Prelude.{◌≡◌, ℕ, List}
use Rattle.std.proofs.lemmas.Result.{IfOk-weaker}
use Rattle.lk_model.specs.Resolving.{resolve}
use Rattle.lk_model.specs.SymbolTable.{symbol_texts}
use Rattle.lk_model.specs.Texts.{table_of}
use Rattle.lk_symtab.specs.NameRows.{NameRow}
use Rattle.lk_resolve.proofs.Seen.{seen}
use Rattle.lk_dyn_sizes.specs.DynamicStrings.{texts_at}
use Rattle.lk_dyn_tables.proofs.WinnersGiven.{texts_seen}
use Rattle.lk_dyn_tables.proofs.winning_names.symbol_texts.Goals as goal

pub returns : goal.returns
returns c = λ summaries needs options xs given chosen.
    let resolution = c.args.resolution.now in
    let r = resolve options xs in
    let numbers : List ℕ = c.args.numbers.now in
    IfOk-weaker c.texts_of.result (λ (l : List (List ℕ)). l ≡ table_of (texts_at c.names.result.now numbers)) (λ (l : List (List ℕ)). l ≡ symbol_texts r)
    (λ l is. is
    ∙ ap (λ (rows : List NameRow). table_of (texts_at rows numbers)) c.names.ensures
    ∙ texts_seen resolution summaries needs options r (seen resolution summaries needs options xs given) numbers chosen)
    c.texts_of.ensures
