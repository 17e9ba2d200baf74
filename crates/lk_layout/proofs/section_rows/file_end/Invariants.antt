use Rattle.std.proofs.Common.{◌≡◌, ◌+◌, fold, filter, map, max, drop}
use Rattle.lk_model.specs.declared.layouts.SectionRow.{SectionRow}
use Rattle.lk_model.specs.FullPlace.{file_end}
use Rattle.lk_model.specs.SectionKeys.{in_file}
use Rattle.lk_layout.proofs.section_rows.file_end.Given as goal

abbrev pub invariant-loop-row : goal.invariant-loop-row
invariant-loop-row l =
    fold max l.end (map (λ (row : SectionRow). row.offset + row.room) (filter (λ (row : SectionRow). in_file row.key.class) (drop l.row-index l.rows)))
    ≡ file_end l.rows
