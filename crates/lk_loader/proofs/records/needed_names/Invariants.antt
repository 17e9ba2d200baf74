use Rattle.std.specs.Prelude.{◌≡◌, drop, map}
use Rattle.lk_elf.specs.Numbers.{dt_needed}
use Rattle.lk_model.specs.DynamicEntries.{all_with_tag}
use Rattle.lk_model.specs.Loads.{all_of, text_of_table}
use Rattle.lk_loader.proofs.AllOf.{joined}
use Rattle.lk_loader.proofs.records.needed_names.Given as goal

abbrev pub invariant-loop-entry : goal.invariant-loop-entry
invariant-loop-entry l =
    joined l.names.items (all_of (map (text_of_table l.strings) (all_with_tag dt_needed (drop l.entry-index l.entries))))
    ≡ all_of (map (text_of_table l.strings) (all_with_tag dt_needed l.entries))
