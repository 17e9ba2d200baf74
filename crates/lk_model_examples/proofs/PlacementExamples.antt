-- Worked examples: where small links put everything, each with the exact numbers.
use Rattle.std.specs.Prelude.{◌≡◌, ℕ, true, false, [], ◌∷◌, ◌++◌, Some, ◌^◌, codes, replicate, refl}
use Rattle.lk_elf.specs.Fields.{bytes_of}
use Rattle.lk_elf.specs.declared.program_header.Phdr.{Phdr}
use Rattle.lk_model.proofs.SmallLinks.{link, kept, called, terminator, row, unloaded, placed, got_rows, smallest}
use Rattle.lk_model.specs.SectionKeys.{is_patched, fill_kind}
use Rattle.lk_model.specs.SectionOrder.{section_rank, in_order, section_keys, table_sizes}
use Rattle.lk_model.specs.Rooms.{room_of, step_to, patched_room}
use Rattle.lk_model.specs.FullPlace.{full_place, extent_of, rows_of, piece_rows, memory_of, tail_start, section_count}
use Rattle.lk_model.specs.Segments.{program_headers, tls_segment, tls_start, tls_end, second_segment_end, third_segment_end}
use Rattle.lk_model.specs.Holes.{holes_of, fill_bytes, hole_bytes}
use Rattle.lk_model.specs.Views.{Resolved}
use Rattle.lk_model.specs.declared.layouts.Class.TheVariants.{R, X, W, WX, Tdata, Tbss, Bss, N}
use Rattle.lk_model.specs.declared.layouts.GotOwner.TheVariants as owner

-- its rows, its piece, its end and its memory
smallest_place :
    (full_place smallest
    ≡ record {
      sections =
          row (codes ".text") X 0x401000 64 64 16
          ∷ got_rows 0x402000;
      pieces = placed 0 1 0 0x401000 0 1 ∷ [];
      slots = record { got = []; plt = [] };
    })
    × (tail_start (full_place smallest) ≡ 0x2080)
    × (memory_of (full_place smallest) ≡ 0x2080)
    × (section_count (full_place smallest) ≡ 3)
    × (second_segment_end (full_place smallest) ≡ 0x401040)
    × (third_segment_end (full_place smallest) ≡ 0x402080)
    × (tls_start (full_place smallest) ≡ 0)
    × (tls_end (full_place smallest) ≡ 0)
unfolding full_place extent_of rows_of piece_rows section_keys table_sizes in_order section_rank is_patched room_of step_to patched_room memory_of second_segment_end third_segment_end tls_segment
smallest_place = (refl, refl, refl, refl, refl, refl, refl, refl)

-- a program header
abbrev header : ℕ → ℕ → ℕ → ℕ → ℕ → ℕ → ℕ → Phdr
header type flags offset address file memory align =
    record {
      p_type = type;
      p_flags = flags;
      p_offset = offset;
      p_vaddr = address;
      p_paddr = address;
      p_filesz = file;
      p_memsz = memory;
      p_align = align;
    }

-- its four program headers
smallest_headers :
    program_headers (full_place smallest) false
    ≡ header 1 4 0 0x400000 0x1000 0x1000 0x1000
    ∷ header 1 5 0x1000 0x401000 64 64 0x1000
    ∷ header 1 6 0x2000 0x402000 128 128 0x1000
    ∷ header 0x6474e551 6 0 0 0 0 16
    ∷ []
unfolding full_place extent_of rows_of piece_rows section_keys table_sizes in_order section_rank is_patched room_of step_to patched_room program_headers tls_segment
smallest_headers = refl

-- two objects with code of 16 bytes each
abbrev pair : Resolved
pair = link (kept 0 1 (codes ".text") X 16 16 ∷ kept 1 1 (codes ".text") X 16 16 ∷ [])

-- they are one behind the other
pair_place :
    full_place pair
    ≡ record {
      sections = row (codes ".text") X 0x401000 64 64 16 ∷ got_rows 0x402000;
      pieces = placed 0 1 0 0x401000 16 16 ∷ placed 1 1 0 0x401010 16 16 ∷ [];
      slots = record { got = []; plt = [] };
    }
unfolding full_place extent_of rows_of piece_rows section_keys table_sizes in_order section_rank is_patched room_of step_to patched_room
pair_place = refl

-- a hole is what the two pieces leave of the room
pair_holes :
    (holes_of (full_place pair) 0 ≡ record { start = 32; length = 32 } ∷ [])
    × (holes_of (full_place pair) 1 ≡ record { start = 0; length = 64 } ∷ [])
    × (holes_of (full_place pair) 2 ≡ record { start = 24; length = 40 } ∷ [])
unfolding full_place extent_of rows_of piece_rows section_keys table_sizes in_order section_rank is_patched room_of step_to patched_room holes_of
pair_holes = (refl, refl, refl)

-- the smallest link with 2^63 bytes of zeros takes more memory than there is
vast_memory :
    memory_of (full_place (link (kept 0 1 (codes ".text") X 0 1 ∷ kept 0 2 (codes ".bss") Bss (2 ^ 63) 1 ∷ []))) ≡ 10145709240540261760
unfolding full_place extent_of rows_of piece_rows section_keys table_sizes in_order section_rank is_patched room_of step_to patched_room memory_of
vast_memory = refl

-- what a field does not hold is reported as the greatest that it holds
vaster_memory :
    memory_of (full_place (link (kept 0 1 (codes ".bss") Bss (2 ^ 63) 1 ∷ kept 0 2 (codes ".bss") Bss (2 ^ 63) 1 ∷ []))) ≡ 18446744073709551615
unfolding full_place extent_of rows_of piece_rows section_keys table_sizes in_order section_rank is_patched room_of step_to patched_room memory_of
vaster_memory = refl

-- thread-local data of alignment 16 is at the zeros' alignment of 128; the zeros follow it, and the
-- next section goes on as if they were not there
abbrev threads : Resolved
threads =
    link
    (kept 0 1 (codes ".text") X 0 1
    ∷ kept 0 2 (codes ".tbss") Tbss 100 128
    ∷ kept 0 3 (codes ".tdata") Tdata 8 16
    ∷ kept 0 4 (codes ".mine") W 8 16
    ∷ [])

threads_place :
    (full_place threads
    ≡ record {
      sections =
          row (codes ".text") X 0x401000 64 64 16
          ∷ row (codes ".tdata") Tdata 0x402000 64 64 16
          ∷ row (codes ".tbss") Tbss 0x402080 128 128 128
          ∷ row (codes ".mine") W 0x402040 8 64 16
          ∷ got_rows 0x402080;
      pieces =
          placed 0 1 0 0x401000 0 1
          ∷ placed 0 2 2 0x402080 100 128
          ∷ placed 0 3 1 0x402000 8 16
          ∷ placed 0 4 3 0x402040 8 16
          ∷ [];
      slots = record { got = []; plt = [] };
    })
    × (tls_segment (full_place threads) ≡ Some (record { addr = 0x402000; file = 64; memory = 0x100; align = 128 }))
    × (tls_start (full_place threads) ≡ 0x402000)
    × (tls_end (full_place threads) ≡ 0x402100)
    × (third_segment_end (full_place threads) ≡ 0x402100)
    × (program_headers (full_place threads) true
    ≡ header 1 4 0 0x400000 0x1000 0x1000 0x1000
    ∷ header 1 5 0x1000 0x401000 64 64 0x1000
    ∷ header 1 6 0x2000 0x402000 0x100 0x100 0x1000
    ∷ header 7 4 0x2000 0x402000 64 0x100 128
    ∷ header 0x6474e551 7 0 0 0 0 16
    ∷ [])
unfolding full_place extent_of rows_of piece_rows section_keys table_sizes in_order section_rank is_patched room_of step_to patched_room tls_segment third_segment_end program_headers
threads_place = (refl, refl, refl, refl, refl, refl)

-- thread-local zeros alone: the next section goes on from where they could begin
zeros_alone :
    (full_place (link (kept 0 1 (codes ".preinit_array") W 8 8 ∷ kept 0 2 (codes ".tbss") Tbss 8 64 ∷ kept 0 3 (codes ".mine") W 4 4 ∷ []))).sections
    ≡ row (codes ".tbss") Tbss 0x401000 64 64 64
    ∷ row (codes ".preinit_array") W 0x401000 8 64 16
    ∷ row (codes ".mine") W 0x401040 4 64 16
    ∷ got_rows 0x401080
unfolding full_place extent_of rows_of piece_rows section_keys table_sizes in_order section_rank is_patched room_of step_to patched_room
zeros_alone = refl

-- thread-local data alone, at 0x405000 with alignment 128: its end is rounded up
data_alone :
    (tls_end (record { sections = row (codes ".tdata") Tdata 0x405000 64 64 128 ∷ []; pieces = []; slots = record { got = []; plt = [] } }) ≡ 0x405080)
    × (tls_segment (record { sections = row (codes ".tdata") Tdata 0x405000 64 64 128 ∷ []; pieces = []; slots = record { got = []; plt = [] } })
    ≡ Some (record { addr = 0x405000; file = 0x40; memory = 0x40; align = 128 }))
unfolding tls_segment
data_alone = (refl, refl)

-- frame tables of 32, 8 and 32 bytes, a terminator between them, and an empty one
abbrev frames : Resolved
frames =
    link
    (kept 0 1 (codes ".eh_frame") R 32 8
    ∷ terminator 0 2 8
    ∷ kept 1 1 (codes ".eh_frame") R 8 8
    ∷ kept 1 2 (codes ".eh_frame") R 0 32
    ∷ kept 2 1 (codes ".eh_frame") R 32 8
    ∷ [])

-- the terminator is in the last four bytes, whatever its alignment
frames_place :
    (full_place frames
    ≡ record {
      sections = row (codes ".eh_frame") R 0x401000 128 128 32 ∷ got_rows 0x402000;
      pieces =
          placed 0 1 0 0x401000 32 8
          ∷ placed 0 2 0 0x40107c 0 8
          ∷ placed 1 1 0 0x401020 8 8
          ∷ placed 1 2 0 0x401000 0 32
          ∷ placed 2 1 0 0x401028 32 8
          ∷ [];
      slots = record { got = []; plt = [] };
    })
    × (holes_of (full_place frames) 0 ≡ record { start = 72; length = 52 } ∷ [])
    × (program_headers (full_place frames) false
    ≡ header 1 4 0 0x400000 0x1080 0x1080 0x1000
    ∷ header 1 6 0x2000 0x402000 128 128 0x1000
    ∷ header 0x6474e551 6 0 0 0 0 16
    ∷ [])
unfolding full_place extent_of rows_of piece_rows section_keys table_sizes in_order section_rank is_patched room_of step_to patched_room holes_of program_headers tls_segment
frames_place = (refl, refl, refl)

-- a frame table of alignment 16 after one of 40 bytes leaves a hole of 24 bytes, since one of 8 could
-- not be filled
frame_gap :
    (holes_of (full_place (link (kept 0 1 (codes ".eh_frame") R 40 8 ∷ kept 1 1 (codes ".eh_frame") R 16 16 ∷ []))) 0
    ≡ record { start = 40; length = 24 } ∷ record { start = 80; length = 44 } ∷ [])
unfolding full_place extent_of rows_of piece_rows section_keys table_sizes in_order section_rank is_patched room_of step_to patched_room holes_of
frame_gap = refl

-- functions that run at the start: those with a number come first, by rising number
arrays :
    (full_place
    (link
    (kept 0 1 (codes ".init_array") W 8 8
    ∷ called (codes ".init_array.200") (kept 0 2 (codes ".init_array") W 8 8)
    ∷ called (codes ".init_array.00100") (kept 1 1 (codes ".init_array") W 16 8)
    ∷ called (codes ".init_array.x") (kept 1 2 (codes ".init_array") W 8 8)
    ∷ called (codes ".init_array.100") (kept 2 1 (codes ".init_array") W 8 8)
    ∷ called (codes ".init_array.000100") (kept 2 2 (codes ".init_array") W 8 8)
    ∷ []))).pieces
    ≡ placed 0 1 0 0x401020 8 8
    ∷ placed 0 2 0 0x401018 8 8
    ∷ placed 1 1 0 0x401000 16 8
    ∷ placed 1 2 0 0x401028 8 8
    ∷ placed 2 1 0 0x401010 8 8
    ∷ placed 2 2 0 0x401030 8 8
    ∷ []
unfolding full_place extent_of rows_of piece_rows section_keys table_sizes in_order section_rank is_patched room_of step_to patched_room
arrays = refl

-- a section of code that is a sequence, with a gap; a note; a section that may be written and executed;
-- and sections that are not loaded, after the last byte that the file holds
abbrev mixed : Resolved
mixed =
    link
    (kept 0 1 (codes ".init") X 5 4
    ∷ kept 0 2 (codes ".comment") N 20 1
    ∷ kept 0 3 (codes ".note.x") R 20 4
    ∷ kept 0 4 (codes ".code") WX 3 1
    ∷ kept 0 5 (codes ".bss") Bss 100 64
    ∷ kept 1 1 (codes ".init") X 6 4
    ∷ kept 1 2 (codes ".debug_info") N 55 1
    ∷ kept 1 3 (codes ".comment") N 7 4
    ∷ [])

mixed_place :
    (full_place mixed
    ≡ record {
      sections =
          row (codes ".note.x") R 0x401000 20 64 16
          ∷ row (codes ".init") X 0x402000 14 64 16
          ∷ row (codes ".code") WX 0x403000 3 64 16
          ∷ row (codes ".got") W 0x403040 0 64 16
          ∷ row (codes ".got.plt") W 0x403080 24 64 16
          ∷ row (codes ".bss") Bss 0x4030c0 128 128 64
          ∷ unloaded (codes ".comment") 0x30c0 64 16
          ∷ unloaded (codes ".debug_info") 0x3100 128 16
          ∷ [];
      pieces =
          placed 0 1 1 0x402000 5 4
          ∷ placed 0 2 6 0 20 1
          ∷ placed 0 3 0 0x401000 20 4
          ∷ placed 0 4 2 0x403000 3 1
          ∷ placed 0 5 5 0x4030c0 100 64
          ∷ placed 1 1 1 0x402008 6 4
          ∷ placed 1 2 7 0 55 1
          ∷ placed 1 3 6 20 7 4
          ∷ [];
      slots = record { got = []; plt = [] };
    })
    × (tail_start (full_place mixed) ≡ 0x3180)
    × (memory_of (full_place mixed) ≡ 0x3140)
    × (holes_of (full_place mixed) 1 ≡ record { start = 5; length = 3 } ∷ record { start = 14; length = 50 } ∷ [])
    × (program_headers (full_place mixed) false
    ≡ header 1 4 0 0x400000 0x1040 0x1040 0x1000
    ∷ header 1 5 0x2000 0x402000 64 64 0x1000
    ∷ header 1 7 0x3000 0x403000 0xc0 0x140 0x1000
    ∷ header 4 4 0x1000 0x401000 20 20 16
    ∷ header 0x6474e551 6 0 0 0 0 16
    ∷ [])
unfolding full_place extent_of rows_of piece_rows section_keys table_sizes in_order section_rank is_patched room_of step_to patched_room holes_of program_headers tls_segment memory_of
mixed_place = (refl, refl, refl, refl, refl)

-- gaps between pieces are `nop` in code and zeros elsewhere; past the last piece code is a trap
gaps :
    (hole_bytes (row (codes ".init") X 0x402000 14 64 16) (record { start = 5; length = 3 }) ≡ replicate 3 0x90)
    × (hole_bytes (row (codes ".init") X 0x402000 14 64 16) (record { start = 14; length = 50 }) ≡ replicate 50 0xcc)
    × (hole_bytes (row (codes ".init") X 0x402000 16 64 16) (record { start = 5; length = 59 }) ≡ replicate 11 0x90 ++ replicate 48 0xcc)
    × (hole_bytes (row (codes ".ctors") W 0x402000 14 64 16) (record { start = 5; length = 3 }) ≡ replicate 3 0)
    × (hole_bytes (row (codes ".plt") X 0x402000 32 64 16) (record { start = 32; length = 32 }) ≡ replicate 32 0xcc)
    × (hole_bytes (row (codes ".got") W 0x402000 0 64 16) (record { start = 0; length = 64 }) ≡ replicate 64 0)
    × (hole_bytes (row (codes ".text") X 0x402000 64 64 16) (record { start = 60; length = 4 }) ≡ replicate 4 0xcc)
unfolding hole_bytes is_patched fill_kind fill_bytes bytes_of
gaps = (refl, refl, refl, refl, refl, refl, refl)

-- a slot of the GOT takes eight bytes
slots :
    full_place (record smallest { needs = record { got = record { owner = owner.Global 3; thread = false } ∷ []; plt = []; address = []; copies = [] } })
    ≡ record {
      sections =
          row (codes ".text") X 0x401000 64 64 16
          ∷ row (codes ".got") W 0x402000 8 64 16
          ∷ row (codes ".got.plt") W 0x402040 24 64 16
          ∷ [];
      pieces = placed 0 1 0 0x401000 0 1 ∷ [];
      slots = record { got = Some (record { owner = owner.Global 3; thread = false }) ∷ []; plt = [] };
    }
unfolding full_place extent_of rows_of piece_rows section_keys table_sizes in_order section_rank is_patched room_of step_to patched_room
slots = refl

-- a dynamic link's headers, from rows alone
dynamic_headers :
    program_headers
    (record {
      sections =
          row (codes ".interp") R 0x401000 28 64 16
          ∷ row (codes ".dynamic") W 0x402000 320 384 16
          ∷ got_rows 0x402180;
      pieces = [];
      slots = record { got = []; plt = [] };
    })
    false
    ≡ header 6 4 64 0x400040 0x150 0x150 8
    ∷ header 3 4 0x1000 0x401000 28 28 16
    ∷ header 1 4 0 0x400000 0x1040 0x1040 0x1000
    ∷ header 1 6 0x2000 0x402000 0x200 0x200 0x1000
    ∷ header 2 6 0x2000 0x402000 320 320 16
    ∷ header 0x6474e551 6 0 0 0 0 16
    ∷ []
unfolding program_headers tls_segment
dynamic_headers = refl
