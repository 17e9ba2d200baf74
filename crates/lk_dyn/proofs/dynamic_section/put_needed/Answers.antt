use Rattle.std.proofs.Common.{◌∙◌, ap}
use Rattle.std.specs.Prelude.{◌++◌, flat_map}
use Rattle.lk_elf.specs.Numbers.{dt_needed}
use Rattle.lk_elf.specs.Records.{dyn_bytes}
use Rattle.lk_elf.specs.declared.dynamic_entry.Dyn.{Dyn}
use Rattle.lk_model.specs.DynamicSection.{tagged}
use Rattle.lk_dyn.specs.DynamicEntries.{needed_bytes}
use Rattle.lk_dyn.proofs.PutInTurn.{found_step}
use Rattle.lk_dyn.proofs.dynamic_section.put_needed.Goals as goal

pub loop-number-preserved : goal.loop-number-preserved
loop-number-preserved c =
    found_step
    (needed_bytes c.args.texts.now)
    c.args.needed.now
    c.loop-number.out.items
    c.put_dyn.new.out.items
    (c.args.out.now.items ++ flat_map (needed_bytes c.args.texts.now) c.args.needed.now)
    c.loop-number.number
    c.text.result.now
    c.text.ensures
    (c.in_ok-put_dyn.ensures ∙ ap (λ (e : Dyn). c.loop-number.out.items ++ dyn_bytes e) (c.tagged.ensures ∙ ap (tagged dt_needed) c.offset-offset.ensures))
    c.loop-number.invariant
