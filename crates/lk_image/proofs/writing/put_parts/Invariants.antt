use Rattle.std.specs.Prelude.{◌≡◌, drop, length}
use Rattle.lk_law_writes.specs.Written.{written}
use Rattle.lk_law_writes.specs.WrittenLaws.{AllEndWithin}
use Rattle.lk_image.specs.Writes.{part_writes}
use Rattle.lk_image.proofs.writing.put_parts.Given as goal

abbrev pub invariant-loop-part : goal.invariant-loop-part
invariant-loop-part l =
    AllEndWithin (length l.initial.image) (part_writes l.start l.parts)
    → AllEndWithin (length l.initial.image) (part_writes l.end (drop l.part-index l.parts))
    × (written l.image (part_writes l.end (drop l.part-index l.parts)) ≡ written l.initial.image (part_writes l.start l.parts))
