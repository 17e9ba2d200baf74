-- The tail of an image at its places (this project's own; gABI "Sections").
use Rattle.std.specs.Prelude.{List}
use Rattle.std.specs.List.{flat_map}
use Rattle.lk_elf.specs.Records.{shdr_bytes}
use Rattle.lk_model.specs.Answers.{length_with}
use Rattle.lk_model.specs.FullPlace.{tail_start}
use Rattle.lk_model.specs.Tail.{Part, headers_offset, section_headers, tail_parts}
use Rattle.lk_model.specs.Views.{Resolved}
use Rattle.lk_model.specs.declared.layouts.Placement.{Placement}
use Rattle.lk_headers.specs.TailRows.{rows_of_parts}
use Rattle.lk_image.specs.declared.placed_tails.PlacedTail.{PlacedTail}

-- a tail with these parts
abbrev pub placed_tail : Placement → List Part → PlacedTail
placed_tail place parts = record {
  start = tail_start place;
  parts = parts;
  rows = rows_of_parts place parts;
  headers_at = headers_offset place parts;
  headers = flat_map shdr_bytes (section_headers place parts);
  length = length_with place parts;
}

-- the tail of the image of a link at a placement
abbrev pub tail_of_link : Resolved → Placement → PlacedTail
tail_of_link r place = placed_tail place (tail_parts r place)
