use Rattle.std.proofs.Common.{◌≡◌, ◌++◌, drop}
use Rattle.std.specs.List.{flat_map}
use Rattle.lk_model.specs.InputsSection.{global_fields}
use Rattle.lk_model.specs.RecordFields.{spelled}
use Rattle.lk_model.specs.Texts.{offset_in}
use Rattle.lk_incr.proofs.putting.put_globals.Given as goal

-- the bytes put so far, followed by those of the items that are left, are the bytes before and those of all items
abbrev pub invariant-loop-global : goal.invariant-loop-global
invariant-loop-global l =
    l.out.items ++ spelled (offset_in l.table) (flat_map global_fields (drop l.global-index l.globals))
    ≡ l.initial.out.items ++ spelled (offset_in l.table) (flat_map global_fields l.globals)
