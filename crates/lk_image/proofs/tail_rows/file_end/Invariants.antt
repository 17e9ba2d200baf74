use Rattle.std.specs.Prelude.{◌≡◌, ◌+◌, drop, filter, fold, map, max}
use Rattle.lk_model.specs.FullPlace.{file_end}
use Rattle.lk_model.specs.SectionKeys.{in_file}
use Rattle.lk_model.specs.declared.layouts.SectionRow.{SectionRow}
use Rattle.lk_image.proofs.tail_rows.file_end.Given as goal

abbrev pub invariant-loop-row : goal.invariant-loop-row
invariant-loop-row l =
    fold max l.most (map (λ (row : SectionRow). row.offset + row.room) (filter (λ (row : SectionRow). in_file row.key.class) (drop l.row-index l.rows))) ≡ file_end l.rows
