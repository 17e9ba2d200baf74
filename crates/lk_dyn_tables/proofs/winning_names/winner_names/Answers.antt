use Rattle.std.proofs.Common.{ap, sym, ◌∙◌}
use Rattle.std.specs.Prelude.{◌≡◌, ℕ, List}
use Rattle.std.proofs.lemmas.Result.{IfOk-weaker}
use Rattle.lk_model.specs.Resolving.{resolve}
use Rattle.lk_model.specs.SymbolTable.{names_with_winner}
use Rattle.lk_symtab.specs.NameRows.{NameRow}
use Rattle.lk_resolve.proofs.Seen.{seen}
use Rattle.lk_dyn_sizes.specs.DynamicRows.{numbers_where}
use Rattle.lk_dyn_tables.specs.WinnerNames.{has_winner}
use Rattle.lk_dyn_tables.proofs.WinnersGiven.{winners_seen}
use Rattle.lk_dyn_tables.proofs.winning_names.winner_names.Goals as goal

pub returns : goal.returns
returns c = λ summaries needs options xs given.
    let resolution = c.args.resolution.now in
    let r = resolve options xs in
    IfOk-weaker c.winners_among.result (λ (l : List ℕ). l ≡ numbers_where has_winner 0 c.names.result.now) (λ (l : List ℕ). l ≡ names_with_winner r)
    (λ l is. is
    ∙ ap (λ (rows : List NameRow). numbers_where has_winner 0 rows) c.names.ensures
    ∙ sym (winners_seen resolution summaries needs options r (seen resolution summaries needs options xs given)))
    c.winners_among.ensures
