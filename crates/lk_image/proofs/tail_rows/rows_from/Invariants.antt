use Rattle.std.specs.Prelude.{◌≡◌, ◌++◌, drop, map}
use Rattle.lk_model.specs.Tail.{part_row, parts_end, parts_from}
use Rattle.lk_image.proofs.tail_rows.rows_from.Given as goal

abbrev pub invariant-loop-part : goal.invariant-loop-part
invariant-loop-part l = record {
  rows : l.rows ++ map part_row (parts_from l.end (drop l.part-index l.parts)) ≡ map part_row (parts_from l.start l.parts);
  end : parts_end l.end (drop l.part-index l.parts) ≡ parts_end l.start l.parts;
}
