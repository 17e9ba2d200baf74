-- Worked examples: bytes that stretches are written into, and the smallest link, whose image is the same in
-- every order of the writes.
use Rattle.std.specs.Prelude.{◌≡◌, ℕ, List, [], ◌∷◌, ◌++◌, codes, flat_map, map, refl, replicate}
use Rattle.std.proofs.Common.{arith}
use Rattle.lk_elf.specs.Fields.{bytes_of}
use Rattle.lk_elf.specs.Records.{ehdr_bytes, phdr_bytes, shdr_bytes}
use Rattle.lk_model.specs.Answers.{length_with}
use Rattle.lk_model.specs.DynamicSizes.{dynamic_table_sizes}
use Rattle.lk_model.specs.FileHeader.{file_header, header_bytes}
use Rattle.lk_model.specs.FullPlace.{extent_of, full_place, piece_rows, rows_of, tail_start}
use Rattle.lk_model.specs.Holes.{fill_bytes, hole_bytes, holes_of}
use Rattle.lk_model.specs.Images.{file_of, part_stretch, seal, seal_offset, stretch, stretches_with}
use Rattle.lk_model.specs.LinkedBytes.{linked_bytes}
use Rattle.lk_model.specs.Rooms.{patched_room, room_of, step_to}
use Rattle.lk_model.specs.SectionKeys.{fill_kind, header_type, is_patched}
use Rattle.lk_model.specs.SectionOrder.{in_order, section_keys, section_rank, table_sizes}
use Rattle.lk_model.specs.Segments.{program_headers, second_segment_end, third_segment_end, tls_segment}
use Rattle.lk_model.specs.Stretches.{laid_out}
use Rattle.lk_model.specs.Tables.{table_of_key}
use Rattle.lk_model.specs.Tail.{Part, headers_offset, parts_from, section_headers}
use Rattle.lk_model.specs.Texts.{table_bytes}
use Rattle.lk_model.specs.Views.{Resolved}
use Rattle.lk_model.specs.Winners.{winner_of}
use Rattle.lk_model.specs.declared.layouts.Placement.{Placement}
use Rattle.lk_model.proofs.SmallLinks.{smallest}
use Rattle.lk_law_writes.specs.LaidLaws.{HaveSame, link_groups}
use Rattle.lk_law_writes.specs.Written.{fill_stretches, front_stretches, piece_stretches, sealed_stretches, table_stretches_of, tail_stretches, written}

-- two stretches in six zeros, and in the other order
two_written : written (replicate 6 0) (stretch 1 (7 ∷ 8 ∷ []) ∷ stretch 4 (9 ∷ []) ∷ []) ≡ 0 ∷ 7 ∷ 8 ∷ 0 ∷ 9 ∷ 0 ∷ []
two_written = refl

two_turned : written (replicate 6 0) (stretch 4 (9 ∷ []) ∷ stretch 1 (7 ∷ 8 ∷ []) ∷ []) ≡ 0 ∷ 7 ∷ 8 ∷ 0 ∷ 9 ∷ 0 ∷ []
two_turned = refl

-- two that share a byte: the later one counts
shared_byte : written (replicate 3 0) (stretch 0 (1 ∷ 2 ∷ []) ∷ stretch 1 (3 ∷ []) ∷ []) ≡ 1 ∷ 3 ∷ 0 ∷ []
shared_byte = refl

-- the tail of the smallest link, with a part of three bytes
abbrev tail : List Part
tail = record { name = codes ".shstrtab"; bytes = 1 ∷ 2 ∷ 3 ∷ [] } ∷ []

abbrev in_order_written : List ℕ
in_order_written =
    written (replicate (length_with (full_place smallest) tail) 0)
    (sealed_stretches smallest (full_place smallest) tail ++ piece_stretches smallest (full_place smallest) ++ fill_stretches (full_place smallest) ++ tail_stretches (full_place smallest) tail)

smallest_written : in_order_written ≡ file_of (stretches_with smallest (full_place smallest) tail)
unfolding bytes_of ehdr_bytes phdr_bytes shdr_bytes dynamic_table_sizes file_header header_bytes extent_of full_place piece_rows rows_of fill_bytes hole_bytes holes_of linked_bytes patched_room room_of step_to fill_kind header_type is_patched in_order section_keys section_rank table_sizes program_headers second_segment_end third_segment_end tls_segment laid_out table_of_key section_headers table_bytes winner_of
smallest_written = refl

-- the tail first, the tables too, the headers last
smallest_turned :
    written (replicate (length_with (full_place smallest) tail) 0)
    (tail_stretches (full_place smallest) tail ++ table_stretches_of smallest (full_place smallest) ++ fill_stretches (full_place smallest) ++ piece_stretches smallest (full_place smallest) ++ front_stretches smallest (full_place smallest) tail)
    ≡ in_order_written
unfolding bytes_of ehdr_bytes phdr_bytes shdr_bytes dynamic_table_sizes file_header header_bytes extent_of full_place piece_rows rows_of fill_bytes hole_bytes holes_of linked_bytes patched_room room_of step_to fill_kind header_type is_patched in_order section_keys section_rank table_sizes program_headers second_segment_end third_segment_end tls_segment laid_out table_of_key section_headers table_bytes winner_of
smallest_turned = refl

-- the groups of a link in another order: pieces, fill, the tail, and the front last
pieces_first :
    (gap : ℕ) (r : Resolved) (place : Placement) (parts : List Part)
    → HaveSame (link_groups gap r place parts)
    (piece_stretches r place
    ∷ fill_stretches place
    ∷ map part_stretch (parts_from (tail_start place) parts)
    ∷ (stretch (headers_offset place parts) (flat_map shdr_bytes (section_headers place parts)) ∷ [])
    ∷ (stretch 0 (header_bytes r place parts ++ replicate gap 0) ∷ [])
    ∷ (stretch seal_offset seal ∷ [])
    ∷ [])
pieces_first gap r place parts = (
  ((2, omega arith, refl), ((3, omega arith, refl), ((4, omega arith, refl), ((5, omega arith, refl), ((0, omega arith, refl), ((1, omega arith, refl), tt)))))),
  ((4, omega arith, refl), ((5, omega arith, refl), ((0, omega arith, refl), ((1, omega arith, refl), ((2, omega arith, refl), ((3, omega arith, refl), tt)))))),
)
