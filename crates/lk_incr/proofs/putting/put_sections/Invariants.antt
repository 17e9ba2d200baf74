use Rattle.std.proofs.Common.{◌≡◌, ◌++◌, drop}
use Rattle.std.specs.List.{flat_map}
use Rattle.lk_model.specs.InputsSection.{section_fields}
use Rattle.lk_model.specs.RecordFields.{spelled}
use Rattle.lk_model.specs.Texts.{offset_in}
use Rattle.lk_incr.proofs.putting.put_sections.Given as goal

-- the bytes put so far, followed by those of the items that are left, are the bytes before and those of all items
abbrev pub invariant-loop-row : goal.invariant-loop-row
invariant-loop-row l =
    l.out.items ++ spelled (offset_in l.table) (flat_map section_fields (drop l.row-index l.rows))
    ≡ l.initial.out.items ++ spelled (offset_in l.table) (flat_map section_fields l.rows)
