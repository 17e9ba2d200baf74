use Rattle.std.proofs.Common.{◌≡◌, ◌+◌, fold, filter, map, max, drop}
use Rattle.lk_model.specs.declared.layouts.SectionRow.{SectionRow}
use Rattle.lk_model.specs.SectionKeys.{is_alloc}
use Rattle.lk_layout.specs.Rows.{memory_end}
use Rattle.lk_layout.proofs.section_rows.memory_end.Given as goal

abbrev pub invariant-loop-row : goal.invariant-loop-row
invariant-loop-row l =
    fold max l.end (map (λ (row : SectionRow). row.addr + row.room) (filter (λ (row : SectionRow). is_alloc row.key.class) (drop l.row-index l.rows)))
    ≡ memory_end l.rows
