use Rattle.std.proofs.Common.{◌≡◌, ◌++◌, ap, sym, ◌∙◌, List, false}
use Rattle.std.proofs.lemmas.Result.{on_ok_weaker}
use Rattle.lk_elf.specs.Records.{dyn_bytes}
use Rattle.lk_elf.specs.declared.dynamic_entry.Dyn.{Dyn}
use Rattle.lk_model.specs.DynamicSizes.{name_in_object}
use Rattle.lk_model.specs.Resolving.{resolve}
use Rattle.lk_resolve.specs.Settling.{ResolutionValue}
use Rattle.lk_resolve.proofs.Seen.{seen}
use Rattle.lk_symbol_values.specs.declared.values.SymbolNumbers.{SymbolNumbers}
use Rattle.lk_symtab.specs.NameRows.{NameRow}
use Rattle.lk_dyn.specs.DefinedNames.{defined_in}
use Rattle.lk_dyn.proofs.EntriesPut.{function_put, no_function}
use Rattle.lk_dyn.proofs.NamesDefined.{defined_seen}
use Rattle.lk_dyn.proofs.dynamic_section.put_function.Goals as goal

pub returns-in-None : goal.returns-in-None
returns-in-None c = λ needs options xs given lawful.
    let known = c.args.values.now in
    let r = resolve options xs in
    let rows : c.names.result.now ≡ known.resolution.rows = c.names.ensures ∙ ap (λ (x : ResolutionValue). x.rows) c.resolution.ensures in
    let found : c.defined_name.result ≡ name_in_object r c.args.name.now =
    c.defined_name.ensures ∙ ap (λ (l : List NameRow). defined_in l c.args.name.now) rows ∙ defined_seen known.resolution known.summaries needs options r (seen known.resolution known.summaries needs options xs given) c.args.name.now in
    no_function r known.place c.args.tag c.args.out.now.items (name_in_object r c.args.name.now) (sym found ∙ c.in-None.is)

pub returns-in-Some : goal.returns-in-Some
returns-in-Some c =
    on_ok_weaker c.put_dyn.result
    (λ put needs options xs given lawful.
    let known = c.args.values.now in
    let r = resolve options xs in
    let out = c.args.out.now.items in
    let rows : c.names.result.now ≡ known.resolution.rows = c.names.ensures ∙ ap (λ (x : ResolutionValue). x.rows) c.resolution.ensures in
    let found : c.defined_name.result ≡ name_in_object r c.args.name.now =
    c.defined_name.ensures ∙ ap (λ (l : List NameRow). defined_in l c.args.name.now) rows ∙ defined_seen known.resolution known.summaries needs options r (seen known.resolution known.summaries needs options xs given) c.args.name.now in
    let low = ap (λ (w : SymbolNumbers). w.value) (c.name_numbers.ensures.symbol_numbers needs options xs given lawful 0 false) in
    function_put r known.place c.args.tag out c.put_dyn.new.out.items (name_in_object r c.args.name.now) c.in-Some.number c.name_numbers.result.value
    (sym found ∙ c.in-Some.is) low (put ∙ ap (λ (e : Dyn). out ++ dyn_bytes e) c.tagged.ensures))
    c.put_dyn.ensures
