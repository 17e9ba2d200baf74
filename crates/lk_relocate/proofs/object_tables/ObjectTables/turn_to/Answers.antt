use Rattle.std.proofs.Common.{ap, subst, sym, ◌∙◌, List, Option}
use Rattle.lk_model.specs.declared.summaries.InputSummary.{InputSummary}
use Rattle.lk_model.specs.declared.summaries.PieceInfo.{PieceInfo}
use Rattle.lk_symbol_values.specs.declared.values.SymbolNumbers.{SymbolNumbers}
use Rattle.lk_relocate.specs.PieceLists.{is_listed}
use Rattle.lk_relocate.specs.NumbersOfSymbols.{AreNumbersOf}
use Rattle.lk_relocate.proofs.TablesReported.{none_known}
use Rattle.lk_relocate.proofs.object_tables.ObjectTables.turn_to.Goals as goal

pub returns-then-is_at-clause-tables : goal.returns-then-is_at-clause-tables
returns-then-is_at-clause-tables c = c.requires (c.is_at.ensures c.if-is_at.true)

pub returns-clause-tables : goal.returns-clause-tables
returns-clause-tables c = record {
  numbers_by_symbol_are =
      subst (λ (numbers_by_symbol : List (Option SymbolNumbers)). AreNumbersOf c.args.values.now c.args.input c.args.object.now numbers_by_symbol) (sym c.clear.ensures.items)
      (none_known c.args.values.now c.args.input c.args.object.now);
  marks_are =
      λ section.
      c.in_ok-mark_pieces.ensures section
      ∙ ap (λ (pieces : List PieceInfo). is_listed section pieces) (c.as_slice.ensures ∙ ap (λ (x : InputSummary). x.pieces) c.summary.ensures.value);
}
