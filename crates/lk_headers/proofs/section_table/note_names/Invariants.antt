use Rattle.std.specs.Prelude.{◌≡◌, drop, fold, map}
use Rattle.lk_model.specs.Tail.{row_name}
use Rattle.lk_model.specs.Texts.{with_text}
use Rattle.lk_headers.proofs.section_table.note_names.Given as goal

abbrev pub invariant-loop-row : goal.invariant-loop-row
invariant-loop-row l = fold with_text l.names (map row_name (drop l.row-index l.rows)) ≡ fold with_text l.initial.names (map row_name l.rows)
