use Rattle.std.proofs.Common.{◌≡◌, ap, sym, subst, ◌∙◌, false}
use Rattle.std.specs.Prelude.{List, slice_get}
use Rattle.std.specs.Option.{option_map}
use Rattle.lk_report.specs.declared.causes.OptionRecord.{OptionRecord}
use Rattle.lk_model.specs.Lawful.{Lawful}
use Rattle.lk_model.specs.Resolving.{resolve}
use Rattle.lk_model.specs.SymbolValues.{name_of, name_value}
use Rattle.lk_model.specs.Texts.{offset_in}
use Rattle.lk_model.specs.Views.{Input}
use Rattle.lk_model.specs.declared.layouts.Placement.{Placement}
use Rattle.lk_symtab.specs.NameRows.{NameRow, row_visibility, symbols_in}
use Rattle.lk_resolve.specs.Given.{IsGiven}
use Rattle.lk_resolve.specs.Settling.{ResolutionValue}
use Rattle.lk_resolve.proofs.Seen.{seen}
use Rattle.lk_symbol_values.specs.declared.values.SymbolNumbers.{SymbolNumbers}
use Rattle.lk_dyn.specs.LowBits.{low_64}
use Rattle.lk_dyn_tables.specs.SymbolTables.{SymbolInputs, fields_of}
use Rattle.lk_dyn_tables.specs.declared.symbol_entries.NameFields.{NameFields}
use Rattle.lk_dyn_tables.proofs.EntriesGiven.{fields_given}
use Rattle.lk_dyn_tables.proofs.symbols.Symbols.fields.Goals as goal

pub returns : goal.returns
returns c =
    let n = c.args.number in
    let values = c.self.inside.values.now in
    let found : NameFields = record { text = c.offset.result; visibility = c.visibility.result; value = c.name_numbers.result.value } in
    subst (λ (s : SymbolInputs). (options : OptionRecord) (xs : List Input) → IsGiven s.resolution s.summaries s.needs options xs → Lawful (resolve options xs) s.place
    → found ≡ fields_of (resolve options xs) s.place (offset_in c.args.texts.now (name_of (resolve options xs) n)) n)
    c.self.view_is
    (λ options xs given lawful.
    let r = resolve options xs in
    let s : SymbolInputs = record { resolution = values.resolution; summaries = values.summaries; place = c.self.inside.places; needs = c.self.inside.needs.now } in
    let sees = seen values.resolution values.summaries s.needs options xs given in
    let rows = c.names.ensures ∙ ap (λ (x : ResolutionValue). x.rows) c.resolution-resolution.ensures in
    let named = ap (λ (l : List NameRow). option_map symbols_in (slice_get l n)) (sym rows) ∙ c.at.ensures in
    let seen_so = ap (λ (x : ResolutionValue). option_map row_visibility (slice_get x.rows n)) (sym c.resolution-resolution.ensures) ∙ c.visibility.ensures in
    let there : Lawful r values.place = subst (Lawful r) c.self.invariant.place_is lawful in
    let valued =
    ap (λ (w : SymbolNumbers). w.value) (c.name_numbers.ensures.symbol_numbers s.needs options xs given there 0 false)
    ∙ ap (λ (p : Placement). low_64 (name_value r p n)) (sym c.self.invariant.place_is) in
    fields_given s options r sees lawful c.args.texts.now n c.offset.result c.visibility.result c.name_numbers.result.value c.at.result.now named (c.offset.ensures ∙ ap (offset_in c.args.texts.now) c.as_slice.ensures) seen_so valued)
