use Rattle.std.proofs.Common.{◌≡◌, ℕ, ap, sym, ◌∙◌, List}
use Rattle.std.specs.Prelude.{◌++◌, flat_map}
use Rattle.std.proofs.lemmas.Result.{IfOk-weaker}
use Rattle.lk_elf.specs.Numbers.{dt_fini, dt_init}
use Rattle.lk_elf.specs.Records.{dyn_bytes}
use Rattle.lk_report.specs.declared.causes.OptionRecord.{OptionRecord}
use Rattle.lk_model.specs.DynamicSection.{dynamic_bytes, function_entries}
use Rattle.lk_model.specs.DynamicSizes.{name_in_object}
use Rattle.lk_model.specs.Resolving.{resolve}
use Rattle.lk_model.specs.declared.layouts.Placement.{Placement}
use Rattle.lk_resolve.proofs.Seen.{seen}
use Rattle.lk_dyn.specs.DynamicEntries.{section_entries}
use Rattle.lk_dyn.proofs.EntriesPut.{entries_are}
use Rattle.lk_dyn.proofs.dynamic_section.dynamic_table.Goals as goal

pub returns : goal.returns
returns c = λ needs options xs given lawful texts needed runpath.
    let known = c.args.values.now in
    let r = resolve options xs in
    IfOk-weaker c.from_vec.result (λ b. b ≡ c.put_sections.new.out.items) (λ b. b ≡ dynamic_bytes r known.place)
    (λ b made. made
    ∙ entries_are r known.place c.args.texts.now c.args.needed.now c.as_slice.result.now
    c.new-out.result.items c.put_needed.new.out.items c.put_runpath.new.out.items c.put_function.new.out.items c.put_function-2.new.out.items c.put_sections.new.out.items
    texts needed (c.as_slice.ensures ∙ runpath ∙ sym (ap (λ (o : OptionRecord). o.runpath) (seen known.resolution known.summaries needs options xs given).chosen))
    c.new-out.ensures.items
    c.in_ok-put_needed.ensures
    c.in_ok-put_runpath.ensures
    (c.in_ok-put_function.ensures needs options xs given lawful ∙ ap (λ (name : List ℕ). c.put_runpath.new.out.items ++ flat_map dyn_bytes (function_entries r known.place dt_init (name_in_object r name))) c.from_static-init.ensures)
    (c.in_ok-put_function-2.ensures needs options xs given lawful ∙ ap (λ (name : List ℕ). c.put_function.new.out.items ++ flat_map dyn_bytes (function_entries r known.place dt_fini (name_in_object r name))) c.from_static-fini.ensures)
    (c.in_ok-put_sections.ensures ∙ ap (λ (p : Placement). c.put_function-2.new.out.items ++ flat_map dyn_bytes (section_entries p)) c.placement.ensures))
    c.from_vec.ensures
