use Rattle.std.specs.Prelude.{◌≡◌, ◌++◌, List, drop, flat_map}
use Rattle.lk_report.specs.declared.causes.OptionRecord.{OptionRecord}
use Rattle.lk_model.specs.Lawful.{Lawful}
use Rattle.lk_model.specs.Resolving.{resolve}
use Rattle.lk_model.specs.Views.{Input}
use Rattle.lk_model.specs.declared.layouts.Needs.{Needs}
use Rattle.lk_resolve.specs.Given.{IsGiven}
use Rattle.lk_dyn.specs.LocalSlots.{content_bytes}
use Rattle.lk_dyn.proofs.got_contents.put_contents.Given as goal

abbrev pub invariant-loop-slot : goal.invariant-loop-slot
invariant-loop-slot l =
    (needs : Needs) (options : OptionRecord) (xs : List Input)
    → IsGiven l.values.resolution l.values.summaries needs options xs
    → Lawful (resolve options xs) l.values.place
    → l.out.items ++ flat_map (content_bytes (resolve options xs) l.values.place l.locals.entries) (drop l.slot-index l.slots)
    ≡ l.initial.out.items ++ flat_map (content_bytes (resolve options xs) l.values.place l.locals.entries) l.slots
