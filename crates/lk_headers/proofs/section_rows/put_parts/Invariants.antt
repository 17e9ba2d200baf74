use Rattle.std.specs.Prelude.{◌≡◌, ◌++◌, drop, map}
use Rattle.std.specs.List.{flat_map}
use Rattle.lk_elf.specs.Records.{shdr_bytes}
use Rattle.lk_headers.specs.SectionTable.{header_of_part}
use Rattle.lk_headers.proofs.section_rows.put_parts.Given as goal

abbrev pub invariant-loop-row : goal.invariant-loop-row
invariant-loop-row l =
    l.out.items ++ flat_map shdr_bytes (map (header_of_part l.names l.links) (drop l.row-index l.tail))
    ≡ l.initial.out.items ++ flat_map shdr_bytes (map (header_of_part l.names l.links) l.tail)
