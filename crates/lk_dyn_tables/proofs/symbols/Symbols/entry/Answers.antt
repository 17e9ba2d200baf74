use Rattle.std.proofs.Common.{◌≡◌, ◌≤◌, ap, sym, ◌∙◌, arith, length}
use Rattle.std.specs.Prelude.{List, slice_get}
use Rattle.std.specs.Option.{option_map}
use Rattle.lk_elf.specs.Records.{sym_bytes}
use Rattle.lk_model.specs.Resolving.{resolve}
use Rattle.lk_symtab.specs.NameRows.{NameRow, row_winner, symbols_in}
use Rattle.lk_resolve.specs.Settling.{ResolutionValue}
use Rattle.lk_resolve.proofs.Seen.{seen}
use Rattle.lk_dyn_tables.specs.SymbolEntries.{as_sym}
use Rattle.lk_dyn_tables.specs.SymbolTables.{SymbolInputs}
use Rattle.lk_dyn_tables.specs.declared.symbol_entries.SymbolEntry.{SymbolEntry}
use Rattle.lk_dyn_tables.proofs.EntriesGiven.{binding_is, named_entry, no_entry}
use Rattle.lk_dyn_tables.proofs.symbols.Symbols.entry.Goals as goal

pub returns-then-number-len : goal.returns-then-number-len
returns-then-number-len c = λ options xs given lawful.
    let s = c.args.self.now in
    let r = resolve options xs in
    let sees = seen s.resolution s.summaries s.needs options xs given in
    let rows = c.names-names.ensures ∙ ap (λ (x : ResolutionValue). x.rows) c.resolution.ensures ∙ ap (λ (s : SymbolInputs). s.resolution.rows) c.self.view_is in
    let count = c.len.ensures.count ∙ ap length rows in
    let test = c.if-number-len.true in
    let past : length s.resolution.rows ≤ c.args.number = omega (arith, count, test) in
    no_entry s options r sees lawful c.args.table c.args.texts.now c.args.number past

pub returns : goal.returns
returns c = λ options xs given lawful.
    let s = c.args.self.now in
    let n = c.args.number in
    let r = resolve options xs in
    let sees = seen s.resolution s.summaries s.needs options xs given in
    let rows = c.names-names.ensures ∙ ap (λ (x : ResolutionValue). x.rows) c.resolution.ensures ∙ ap (λ (s : SymbolInputs). s.resolution.rows) c.self.view_is in
    let named = ap (λ (l : List NameRow). option_map symbols_in (slice_get l n)) (sym rows) ∙ c.at.ensures in
    let wins = ap (λ (l : List NameRow). option_map row_winner (slice_get l n)) (sym rows) ∙ c.winner.ensures in
    ap (λ (e : SymbolEntry). sym_bytes (as_sym e)) c.entry_by_winner.ensures
    ∙ named_entry s options r sees lawful c.args.table c.args.texts.now n c.import_binding-binding.result c.fields-name.result c.winner.result
    (c.fields-name.ensures options xs given lawful) (c.import_binding-binding.ensures ∙ binding_is s options r sees lawful n c.at.result.now named) wins
